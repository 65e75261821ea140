-- Laws of powers and digits, to any base and of any width: digits and the number that they stand for determine each other, the lists of digits are as many as the
-- numbers and stand in their order, and the next list stands for the next number. Numbers are read where their bytes stand.
use Prim.Native.Nat.{ℕ, zero, suc, ◌+◌, ◌-◌, ◌*◌, ◌^◌, ◌/◌, ◌%◌, ◌≤◌, ◌<◌}
use mathlib.Core.List.{List, [], ◌∷◌, ◌++◌, map, reverse-reverse}
use mathlib.Core.Path.{◌≡◌, refl, sym, ap, subst, ◌∙◌}
use native.Mathlib.Nat.{le_trans, add-zero, zero-add, add_comm, add_assoc, mul-one, mul_comm, mul_assoc, add-mul, suc-mul, zero-mul, pow-zero, pow-succ', pow-le-pow_left, pow-le-pow_right, one-le-pow, div-one, div-div-eq-div-mul, div-lt_iff_lt-mul, mod-one, mod-lt, mod-eq_of_lt, mul-add-div_right, mul-add-mod_self_right}
use native.Mathlib.Numerals.{add-one}
use native.Mathlib.Omega.{arith}
use lib.Arith.{digits_lt, digits_div, mod-mul}
use lib.ListN.{length, get_or, replicate, length-append, length-replicate, length-reverse, get_or-append}
use lib.Seq.{get_or-append-add}
use Rattle.lists.specs.Digits.{horner_from, horner, digits_of, bytes_of, low_bytes, low_number, tuples}
use Rattle.lists.specs.Member.{All, Any}
use Rattle.lists.specs.Tabulate.{tabulate}
use Rattle.lists.proofs.Bytes.{tabulate_of}
use Rattle.lists.proofs.Member.{All-append, all_flat, all_mapped, all_map}
use Rattle.lists.proofs.Tabulate.{tabulate-length, tabulate_same, tabulate-map, All-tabulate, Any-tabulate, flat_rows}

-- a power grows with its base and its exponent
pub power_le : {c d k n : ℕ} → 0 < d → c ≤ d → k ≤ n → c ^ k ≤ d ^ n
power_le {k = k} pos h l = le_trans (pow-le-pow_left h k) (pow-le-pow_right pos l)

-- ---- the number that digits stand for

pub horner_from_lem : (c n : ℕ) (ds : List ℕ) → horner_from c n ds ≡ n * c ^ length ds + horner c ds
horner_from_lem c n [] = rw (pow-zero, mul-one, add-zero)
horner_from_lem c n (d ∷ ds) =
    rw (horner_from_lem c (n * c + d) ds, horner_from_lem c (0 * c + d) ds, pow-succ', add-mul (n * c) d, ← mul_assoc, zero-mul, zero-add) (add_assoc _ _ _)

pub horner-cons : (c d : ℕ) (ds : List ℕ) → horner c (d ∷ ds) ≡ d * c ^ length ds + horner c ds
horner-cons c d ds = rw (zero-mul, zero-add) (horner_from_lem c d ds)

pub horner-append : (c : ℕ) (ds es : List ℕ) → horner c (ds ++ es) ≡ horner c ds * c ^ length es + horner c es
horner-append c ds es = from 0 ds
  where
    from : (n : ℕ) (ds : List ℕ) → horner_from c n (ds ++ es) ≡ horner_from c n ds * c ^ length es + horner c es
    from n [] = horner_from_lem c n es
    from n (d ∷ ds) = from (n * c + d) ds

pub horner_snoc : (c d : ℕ) (ds : List ℕ) → horner c (ds ++ (d ∷ [])) ≡ horner c ds * c + d
horner_snoc c d ds = from 0 ds
  where
    from : (n : ℕ) (ds : List ℕ) → horner_from c n (ds ++ (d ∷ [])) ≡ horner_from c n ds * c + d
    from n [] = refl
    from n (e ∷ ds) = from (n * c + e) ds

pub horner_two : (c d e : ℕ) → horner c (d ∷ e ∷ []) ≡ c * d + e
horner_two c d e = rw (zero-mul, zero-add, mul_comm d)

pub horner_below : (c : ℕ) (ds : List ℕ) → All (λ d. d < c) ds → horner c ds < c ^ length ds
horner_below c [] a = rw pow-zero (omega arith)
horner_below c (d ∷ ds) a = rw (zero-mul, zero-add, horner_from_lem c d ds, pow-succ') (digits_lt a.0 (horner_below c ds a.1))

-- ---- digits of a number

pub digits_length : (c w n : ℕ) → length (digits_of c w n) ≡ w
digits_length c zero n = refl
digits_length c (suc w) n = length-append (digits_of c w (n / c)) (n % c ∷ []) ∙ rw (digits_length c w (n / c), add-one)

-- the first of w + 1 digits
pub digits_first : (c w n : ℕ) → digits_of c (suc w) n ≡ n / c ^ w % c ∷ digits_of c w n
digits_first c zero n = rw (pow-zero, div-one)
digits_first c (suc w) n = rw (digits_first c w (n / c), div-div-eq-div-mul, pow-succ')

-- of a number that fits it is the quotient itself
pub digits_top : (c w n : ℕ) → n < c ^ suc w → n / c ^ w % c ≡ n / c ^ w
digits_top zero w n h = let z : n < 0 = rw (pow-succ', zero-mul) at h in absurd (omega arith)
digits_top (suc c) w n h = mod-eq_of_lt ((div-lt_iff_lt-mul (one-le-pow w (suc c) (omega arith))).1 (rw pow-succ' at h))

-- a number's last four bytes
pub four_bytes : (n : ℕ) → bytes_of 4 n ≡ n / 16777216 % 256 ∷ n / 65536 % 256 ∷ n / 256 % 256 ∷ n % 256 ∷ []
four_bytes n = digits_first 256 3 n ∙ ap (λ (bs : List ℕ). n / 16777216 % 256 ∷ bs) (digits_first 256 2 n)

pub digits_below : (c w n : ℕ) → 0 < c → All (λ d. d < c) (digits_of c w n)
digits_below c zero n h = tt
digits_below c (suc w) n h = All-append (λ d. d < c) (digits_of c w (n / c)) (n % c ∷ []) (digits_below c w (n / c) h) (mod-lt n h, tt)

-- the last w digits do not depend on what stands before them
pub digits_skip : (c w q r : ℕ) → 0 < c → digits_of c w (q * c ^ w + r) ≡ digits_of c w r
digits_skip c zero q r h = refl
digits_skip c (suc w) q r h = rw (pow-succ', mul_comm c, ← mul_assoc, mul-add-div_right h (q * c ^ w) r, mul-add-mod_self_right, digits_skip c w q (r / c) h)

-- the digits of a digit before others
pub digits_cons : (c w d r : ℕ) → d < c → r < c ^ w → digits_of c (suc w) (d * c ^ w + r) ≡ d ∷ digits_of c w r
digits_cons c w d r hd hr = digits_first c w (d * c ^ w + r) ∙ rw (digits_div d hr, mod-eq_of_lt hd, digits_skip c w d r (omega arith))

pub horner-mod : (c w n : ℕ) → 0 < c → horner c (digits_of c w n) ≡ n % c ^ w
horner-mod c zero n h = rw (pow-zero, mod-one)
horner-mod c (suc w) n h =
    horner_snoc c (n % c) (digits_of c w (n / c)) ∙ rw (horner-mod c w (n / c) h, pow-succ', mul_comm c, mod-mul n (one-le-pow w c h) h)

pub horner_digits : (c w n : ℕ) → n < c ^ w → horner c (digits_of c w n) ≡ n
horner_digits c zero n h = let z : n < 1 = rw pow-zero at h in omega arith
horner_digits zero (suc w) n h = let z : n < 0 = rw (pow-succ', zero-mul) at h in absurd (omega arith)
horner_digits (suc c) (suc w) n h = horner-mod (suc c) (suc w) n (omega arith) ∙ mod-eq_of_lt h

-- a number below c ^ w shows that there is a digit to write, where one is written
pub digits_fit : (c w n : ℕ) → n < c ^ w → All (λ d. d < c) (digits_of c w n)
digits_fit c zero n h = tt
digits_fit zero (suc w) n h = let z : n < 0 = rw (pow-succ', zero-mul) at h in absurd (omega arith)
digits_fit (suc c) (suc w) n h = digits_below (suc c) (suc w) n (omega arith)

pub digits_horner : (c : ℕ) (ds : List ℕ) → All (λ d. d < c) ds → digits_of c (length ds) (horner c ds) ≡ ds
digits_horner c [] a = refl
digits_horner c (d ∷ ds) a =
    ap (digits_of c (suc (length ds))) (horner-cons c d ds)
    ∙ digits_cons c (length ds) d (horner c ds) a.0 (horner_below c ds a.1)
    ∙ ap (λ (es : List ℕ). d ∷ es) (digits_horner c ds a.1)

pub horner_apart : (c : ℕ) (ds es : List ℕ) → length ds ≡ length es → All (λ d. d < c) ds → All (λ d. d < c) es → horner c ds ≡ horner c es → ds ≡ es
horner_apart c ds es l a b e = sym (digits_horner c ds a) ∙ rw (l, e) (digits_horner c es b)

-- ---- bytes, the low byte first

pub low_length : (w n : ℕ) → length (low_bytes w n) ≡ w
low_length w n = length-reverse (bytes_of w n) ∙ digits_length 256 w n

-- a number is read where its bytes stand
pub low_held : (w n : ℕ) (bs : List ℕ) (at : ℕ) → n < 256 ^ w → ((j : ℕ) → j < w → get_or bs (at + j) 0 ≡ get_or (low_bytes w n) j 0) → low_number w bs at ≡ n
low_held w n bs at h same =
    let long : length (low_bytes w n) ≡ w = low_length w n in
    rw (tabulate_of (λ j. get_or bs (at + j) 0) 0 (low_bytes w n) w (sym long) (λ j l. same j (omega arith)), reverse-reverse) (horner_digits 256 w n h)

pub low_back : (w n : ℕ) (front back : List ℕ) → n < 256 ^ w → low_number w (front ++ low_bytes w n ++ back) (length front) ≡ n
low_back w n front back h =
    let long : length (low_bytes w n) ≡ w = low_length w n in
    low_held w n (front ++ low_bytes w n ++ back) (length front) h
    (λ j l.
    get_or-append (front ++ low_bytes w n) back 0 (length front + j) (rw length-append (omega arith)) ∙ get_or-append-add front (low_bytes w n) j 0)

-- two bytes
pub low_two : (bs : List ℕ) (at : ℕ) → low_number 2 bs at ≡ get_or bs at 0 + 256 * get_or bs (at + 1) 0
low_two bs at = rw add-zero (horner_two 256 (get_or bs (at + 1) 0) (get_or bs at 0) ∙ add_comm (256 * get_or bs (at + 1) 0) (get_or bs at 0))

pub two_back : (n : ℕ) → n < 65536 → n % 256 + 256 * (n / 256 % 256) ≡ n
two_back n h = sym (low_two (low_bytes 2 n) 0) ∙ low_back 2 n [] [] h

-- ---- the digits that an odometer turns

pub horner_zeros : (c k : ℕ) → horner c (replicate k 0) ≡ 0
horner_zeros c zero = refl
horner_zeros c (suc k) = horner-cons c 0 (replicate k 0) ∙ rw (zero-mul, zero-add) (horner_zeros c k)

-- digits that cannot grow stand for one less than a power
pub horner_full : (c w : ℕ) → 0 < c → horner c (replicate w (c - 1)) + 1 ≡ c ^ w
horner_full c zero h = rw pow-zero
horner_full c (suc w) h =
    let rest : horner c (replicate w (c - 1)) + 1 ≡ c ^ w = horner_full c w h in
    let whole : c ≡ suc (c - 1) = omega arith in
    let power : c ^ suc w ≡ (c - 1) * c ^ w + c ^ w = pow-succ' c w ∙ ap (λ (x : ℕ). x * c ^ w) whole ∙ suc-mul (c - 1) (c ^ w) in
    rw (horner-cons c (c - 1) (replicate w (c - 1)), length-replicate) (omega arith)

-- one more: the last digit that can grow does, and those after it become 0
pub horner_next : (c : ℕ) (ds front : List ℕ) (d k : ℕ) → ds ≡ front ++ (d ∷ replicate k (c - 1)) → 0 < c
    → horner c (front ++ ((d + 1) ∷ replicate k 0)) ≡ horner c ds + 1
horner_next c ds front d k e h =
    let full : horner c (replicate k (c - 1)) + 1 ≡ c ^ k = horner_full c k h in
    let before : horner c ds ≡ horner c front * c ^ suc k + (d * c ^ k + horner c (replicate k (c - 1))) =
    rw (e, horner-append c front (d ∷ replicate k (c - 1)), horner-cons c d (replicate k (c - 1)), length-replicate) in
    let after : horner c (front ++ ((d + 1) ∷ replicate k 0)) ≡ horner c front * c ^ suc k + ((d + 1) * c ^ k + 0) =
    rw (horner-append c front ((d + 1) ∷ replicate k 0), horner-cons c (d + 1) (replicate k 0), length-replicate, horner_zeros c k) in
    omega arith

-- ---- all lists of digits, in order

-- the tuples that begin with a given number
module _ (c w : ℕ) (rest : tuples c w ≡ tabulate (digits_of c w) (c ^ w)) where
  abbrev from : ℕ → List (List ℕ)
  from a = map (λ t. a ∷ t) (tuples c w)

  tuples_from : (a : ℕ) → a < c → from a ≡ tabulate (λ i. digits_of c (suc w) (a * c ^ w + i)) (c ^ w)
  tuples_from a h =
      ap {B = List (List ℕ)} (map (λ t. a ∷ t)) rest
      ∙ tabulate-map (λ t. a ∷ t) (digits_of c w) (c ^ w)
      ∙ tabulate_same (λ i. a ∷ digits_of c w i) (λ i. digits_of c (suc w) (a * c ^ w + i)) (c ^ w) (λ i l. sym (digits_cons c w a i h l))

-- the tuple at place i is the digits of i
pub tuples_at : (c w : ℕ) → tuples c w ≡ tabulate (digits_of c w) (c ^ w)
tuples_at c zero = rw pow-zero
tuples_at c (suc w) = flat_rows (from c w (tuples_at c w)) (digits_of c (suc w)) (c ^ w) c (tuples_from c w (tuples_at c w)) ∙ rw pow-succ'

pub tuples_count : (c w : ℕ) → length (tuples c w) ≡ c ^ w
tuples_count c w = ap length (tuples_at c w) ∙ tabulate-length (digits_of c w) (c ^ w)

abbrev pub Tuple : ℕ → ℕ → List ℕ → Type 0
Tuple c w t = (length t ≡ w) × All (λ d. d < c) t

pub tuples_each : (c w : ℕ) → All (λ t. (length t ≡ w) × All (λ d. d < c) t) (tuples c w)
tuples_each c zero = ((refl, tt), tt)
tuples_each c (suc w) =
    all_flat (λ a. map (λ t. a ∷ t) (tuples c w)) (Tuple c (suc w)) (tabulate (λ a. a) c)
    (All-tabulate (λ a. All (Tuple c (suc w)) (map (λ t. a ∷ t) (tuples c w))) (λ a. a) c (before (tuples_each c w)))
  where
    before : All (Tuple c w) (tuples c w) → (a : ℕ) → a < c → All (Tuple c (suc w)) (map (λ t. a ∷ t) (tuples c w))
    before each a h =
        all_mapped (λ t. a ∷ t) (Tuple c (suc w)) (tuples c w)
        (all_map (Tuple c w) (λ t. Tuple c (suc w) (a ∷ t)) (λ t p. (ap suc p.0, (h, p.1))) (tuples c w) each)

-- and each such list is among them
pub tuples-Any : (c w : ℕ) (P : List ℕ → Type 0) (t : List ℕ) → Tuple c w t → P t → Any P (tuples c w)
tuples-Any c w P t each p =
    let small : horner c t < c ^ w = subst (λ (k : ℕ). horner c t < c ^ k) each.0 (horner_below c t each.1) in
    let back : t ≡ digits_of c w (horner c t) = sym (digits_horner c t each.1) ∙ ap (λ (k : ℕ). digits_of c k (horner c t)) each.0 in
    subst (λ (ts : List (List ℕ)). Any P ts) (sym (tuples_at c w)) (Any-tabulate P (digits_of c w) (c ^ w) (horner c t) small (subst P back p))
