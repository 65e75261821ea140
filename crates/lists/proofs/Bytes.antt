-- Laws of `pad`, `same_list` and `spliced`, of bytes set and of parts lent, and of records laid one after another.
use Prim.Native.Nat.{ℕ, zero, suc, ◌+◌, ◌-◌, ◌*◌, ◌≤◌, ◌<◌}
use mathlib.Core.List.{List, [], ◌∷◌, ◌++◌, append_assoc, append-nil}
use mathlib.Core.Path.{◌≡◌, refl, sym, ap, ◌∙◌}
use native.Mathlib.Nat.{add-zero, zero-add, suc-add, add_assoc, mul-zero, mul-suc, add-sub_of_le}
use native.Mathlib.Omega.{arith}
use lib.ListN.{length, take, drop, get_or, set, replicate, length-append, length-replicate, length-take, length-drop, replicate-append-replicate, drop_of_length-le, take-append-drop, get_or-append}
use lib.Seq.{set_at, set-append_seam, take_at, drop_at, get_or-append-add, get_or-take, get_or-drop, drop-nil, drop-append-add, drop-drop, length-take-le, ext_get_or}
use Rattle.lists.specs.Bytes.{pad}
use Rattle.lists.specs.terms.Spliced.{spliced}
use Rattle.lists.specs.Member.{All}
use Rattle.lists.specs.Tabulate.{tabulate}
use Rattle.lists.proofs.Tabulate.{tabulate-length, tabulate_at}

-- ---- a member by its place

pub all_at {ℓ} : {A : Type 0} (P : A → Type ℓ) (xs : List A) (d : A) (i : ℕ) → i < length xs → All P xs → P (get_or xs i d)
all_at P [] d i h a = absurd (omega arith)
all_at P (x ∷ xs) d zero h a = a.0
all_at P (x ∷ xs) d (suc i) h a = all_at P xs d i (omega arith) a.1

-- element i after the first n
pub get_d_skip : (xs ys : List ℕ) (n i : ℕ) → length xs ≡ n → get_or (xs ++ ys) (n + i) 0 ≡ get_or ys i 0
get_d_skip xs ys n i e = rw (← e) (get_or-append-add xs ys i 0)

-- the element that a list's end begins with, and the end after it
pub drop_next : (xs : List ℕ) (i b : ℕ) (rest : List ℕ) → drop i xs ≡ b ∷ rest → (i < length xs) × (get_or xs i 0 ≡ b) × (drop (suc i) xs ≡ rest)
drop_next [] i b rest e = let z : ◌≡◌ {A = ℕ} 0 1 = cc (drop-nil {A = ℕ} i) in absurd (omega arith)
drop_next (x ∷ xs) zero b rest e = (omega arith, (cc), (cc))
drop_next (x ∷ xs) (suc i) b rest e = let r = drop_next xs i b rest e in (omega arith, r.1, r.2)

-- a list is what its elements make
pub tabulate_of : {A : Type 0} (f : ℕ → A) (d : A) (xs : List A) (n : ℕ) → n ≡ length xs → ((i : ℕ) → i < length xs → f i ≡ get_or xs i d) → tabulate f n ≡ xs
tabulate_of f d xs n e same =
    ext_get_or d (tabulate f n) xs (tabulate-length f n ∙ e) element
  where
    element : (i : ℕ) → i < length (tabulate f n) → get_or (tabulate f n) i d ≡ get_or xs i d
    element i h =
        let below : i < n = omega (arith, tabulate-length f n) in
        tabulate_at f d n i below ∙ same i (omega arith)

pub tabulate_part : (xs : List ℕ) (a n : ℕ) → a + n ≤ length xs → tabulate (λ j. get_or xs (a + j) 0) n ≡ take n (drop a xs)
tabulate_part xs a n h =
    tabulate_of (λ j. get_or xs (a + j) 0) 0 (take n (drop a xs)) n (sym size) element
  where
    size : length (take n (drop a xs)) ≡ n
    size = length-take-le n (drop a xs) (simp length-drop (omega arith))

    element : (i : ℕ) → i < length (take n (drop a xs)) → get_or xs (a + i) 0 ≡ get_or (take n (drop a xs)) i 0
    element i l =
        let below : i < n = omega (arith, size) in
        sym (get_or-take n (drop a xs) i 0 below ∙ get_or-drop a xs i 0)

-- ---- zeros at the end are what is read there anyway

pub zeros_at : (n i : ℕ) → ◌≡◌ {A = ℕ} (get_or (replicate n 0) i 0) 0
zeros_at zero i = refl
zeros_at (suc n) zero = refl
zeros_at (suc n) (suc i) = zeros_at n i

pub at_zeros : (xs : List ℕ) (n i : ℕ) → get_or (xs ++ replicate n 0) i 0 ≡ get_or xs i 0
at_zeros [] n i = zeros_at n i
at_zeros (x ∷ xs) n zero = refl
at_zeros (x ∷ xs) n (suc i) = at_zeros xs n i

pub pad_at : (n : ℕ) (xs : List ℕ) (i : ℕ) → get_or (pad n xs) i 0 ≡ get_or xs i 0
pad_at n xs i = at_zeros xs (n - length xs) i

pub pad-length : (n : ℕ) (xs : List ℕ) → length xs ≤ n → length (pad n xs) ≡ n
pad-length n xs h = length-append xs (replicate (n - length xs) 0) ∙ rw (length-replicate) (add-sub_of_le h)

pub zeros_split : (k m : ℕ) → m ≤ k → ◌≡◌ {A = List ℕ} (replicate k 0) (replicate m 0 ++ replicate (k - m) 0)
zeros_split k m h =
    let e : m + (k - m) ≡ k = omega arith in
    sym (replicate-append-replicate m (k - m) 0 ∙ ap (λ (n : ℕ). replicate n 0) e)

-- w of the zeros after xs apart, and with w bytes in their place
pub pad_split : (n w : ℕ) (xs : List ℕ) → length xs + w ≤ n → pad n xs ≡ xs ++ (replicate w 0 ++ replicate (n - length xs - w) 0)
pad_split n w xs h = ap (λ (l : List ℕ). xs ++ l) (zeros_split (n - length xs) w (omega arith))

pub pad-append : (n w : ℕ) (xs ys : List ℕ) → length ys ≡ w → pad n (xs ++ ys) ≡ xs ++ (ys ++ replicate (n - length xs - w) 0)
pad-append n w xs ys e =
    let left : n - length (xs ++ ys) ≡ n - length xs - w = rw (length-append xs ys) (omega arith) in
    ap (λ (m : ℕ). (xs ++ ys) ++ replicate m 0) left ∙ append_assoc xs ys (replicate (n - length xs - w) 0)

-- one byte more, in place of the first zero
pub pad_more : (n : ℕ) (xs : List ℕ) (b : ℕ) → length xs < n → set (pad n xs) (length xs) b ≡ pad n (xs ++ (b ∷ []))
pad_more n xs b h =
    let z : List ℕ = replicate (n - length xs - 1) 0 in
    ap (λ (l : List ℕ). set l (length xs) b) (pad_split n 1 xs (omega arith))
    ∙ set-append_seam xs 0 z b
    ∙ sym (pad-append n 1 xs (b ∷ []) refl)

-- ---- bytes set behind others

set-append-add : (xs ys : List ℕ) (i a : ℕ) → set (xs ++ ys) (length xs + i) a ≡ xs ++ set ys i a
set-append-add [] ys i a = rw (zero-add i)
set-append-add (x ∷ xs) ys i a = rw (suc-add (length xs) i, set-append-add xs ys i a)

pub set_skip : (xs ys : List ℕ) (n i a : ℕ) → length xs ≡ n → set (xs ++ ys) (n + i) a ≡ xs ++ set ys i a
set_skip xs ys n i a e = rw (← e) (set-append-add xs ys i a)

-- three bytes, set from place n on
pub set_three : (xs : List ℕ) (y z u : ℕ) (ys : List ℕ) (n a b d : ℕ) → length xs ≡ n
    → set (set (set (xs ++ (y ∷ z ∷ u ∷ ys)) n a) (n + 1) b) (n + 2) d ≡ xs ++ (a ∷ b ∷ d ∷ ys)
set_three xs y z u ys n a b d e =
    ap (λ (l : List ℕ). set (set l (n + 1) b) (n + 2) d) (set_at xs y (z ∷ u ∷ ys) a n e)
    ∙ ap (λ (l : List ℕ). set l (n + 2) d) (set_skip xs (a ∷ z ∷ u ∷ ys) n 1 b e)
    ∙ set_skip xs (a ∷ b ∷ u ∷ ys) n 2 d e

-- ---- parts lent

-- xs, whose k bytes from a on were lent and have come back as ys
abbrev pub part_with : ℕ → ℕ → List ℕ → List ℕ → List ℕ
part_with a k xs ys = take a xs ++ (ys ++ drop k (drop a xs))

pub part_length : (a k : ℕ) (xs ys : List ℕ) → length ys ≡ k → a + k ≤ length xs → length (part_with a k xs ys) ≡ length xs
part_length a k xs ys e h = simp (length-append, length-take, length-drop) (omega arith)

pub part_back : (xs zs ys r : List ℕ) (a k : ℕ) → length xs ≡ a → length zs ≡ k → part_with a k (xs ++ (zs ++ ys)) r ≡ xs ++ (r ++ ys)
part_back xs zs ys r a k e f = rw (take_at xs (zs ++ ys) a e, drop_at xs (zs ++ ys) a e, drop_at zs ys k f)

-- so many of the zeros after xs are lent, and come back as ys
pub part_zeros : (n a k : ℕ) (xs : List ℕ) → length xs ≡ a → a + k ≤ n → take k (drop a (pad n xs)) ≡ replicate k 0
part_zeros n a k xs e h =
    let z : List ℕ = replicate (n - length xs - k) 0 in
    ap (λ (l : List ℕ). take k (drop a l)) (pad_split n k xs (omega arith))
    ∙ ap (take k) (drop_at xs (replicate k 0 ++ z) a e)
    ∙ take_at (replicate k 0) z k (length-replicate k 0)

pub part_filled : (n a k : ℕ) (xs ys : List ℕ) → length xs ≡ a → length ys ≡ k → a + k ≤ n → part_with a k (pad n xs) ys ≡ pad n (xs ++ ys)
part_filled n a k xs ys e l h =
    ap (λ (p : List ℕ). part_with a k p ys) (pad_split n k xs (omega arith))
    ∙ part_back xs (replicate k 0) (replicate (n - length xs - k) 0) ys a k e (length-replicate k 0)
    ∙ sym (pad-append n k xs ys l)

-- the bytes before it are left alone
pub part_first : (xs ys : List ℕ) (a k : ℕ) → 0 < a → a ≤ length xs → get_or (part_with a k xs ys) 0 0 ≡ get_or xs 0 0
part_first xs ys a k some within =
    get_or-append (take a xs) (ys ++ drop k (drop a xs)) 0 0 (rw (length-take-le a xs within) some) ∙ get_or-take a xs 0 0 some

pub part_bound : (xs ys : List ℕ) (a k m : ℕ) → 0 < a → a ≤ length xs → get_or xs 0 0 ≤ m → get_or (part_with a k xs ys) 0 0 ≤ m
part_bound xs ys a k m some within h = rw (part_first xs ys a k some within) h

-- a part copied over as a whole
pub copied_whole : (ys r xs : List ℕ) (k : ℕ) → length r ≡ k → ys ≡ r ++ drop (length r) (take k xs) → ys ≡ r
copied_whole ys r xs k e s =
    let short : length (take k xs) ≤ length r = rw (length-take k xs) (omega arith) in
    s ∙ rw (drop_of_length-le (take k xs) short) (append-nil r)

-- ---- bytes put over others, one after another

pub splice_none : (a : ℕ) (e : List ℕ) → e ≡ spliced a [] e
splice_none a e = rw (append-nil, add-zero) (sym (take-append-drop a e))

pub splice_then : (a : ℕ) (bs cs e : List ℕ) → a + length bs + length cs ≤ length e → spliced (a + length bs) cs (spliced a bs e) ≡ spliced a (bs ++ cs) e
splice_then a bs cs e h =
    let fore : length (take a e ++ bs) ≡ a + length bs = length-append (take a e) bs ∙ rw (length-take-le a e (omega arith)) in
    let start : take (a + length bs) (spliced a bs e) ≡ take a e ++ bs = take_at (take a e ++ bs) (drop (a + length bs) e) (a + length bs) fore in
    let whole : a + length bs + length cs ≡ a + length (bs ++ cs) = omega (arith, length-append bs cs) in
    let rest : drop (a + length bs + length cs) (spliced a bs e) ≡ drop (a + length (bs ++ cs)) e =
    ap (λ (n : ℕ). drop (n + length cs) (spliced a bs e)) (sym fore)
    ∙ drop-append-add (take a e ++ bs) (drop (a + length bs) e) (length cs)
    ∙ drop-drop (length cs) (a + length bs) e
    ∙ ap (λ (n : ℕ). drop n e) whole
    in
    rw (start, rest, append_assoc (take a e) bs cs)

-- ---- records one after another: each is made of a running number, to which it adds, and of an element

module _ {A : Type 0} (adds : A → ℕ) where
  abbrev pub total : List A → ℕ
  total [] = 0
  total (x ∷ xs) = adds x + total xs

  pub total_snoc : (xs : List A) (x : A) → total (xs ++ (x ∷ [])) ≡ total xs + adds x
  total_snoc [] x = omega arith
  total_snoc (y ∷ xs) x = rw (total_snoc xs x, add_assoc)

  pub total-take : (k : ℕ) (xs : List A) → total (take k xs) ≤ total xs
  total-take zero xs = omega arith
  total-take (suc k) [] = omega arith
  total-take (suc k) (x ∷ xs) = omega (arith, total-take k xs)

  -- what the elements up to one add, itself included, is at most the whole
  pub total_upto : (d : A) (k : ℕ) (xs : List A) → k < length xs → total (take k xs) + adds (get_or xs k d) ≤ total xs
  total_upto d k [] h = absurd (omega arith)
  total_upto d zero (x ∷ xs) h = omega arith
  total_upto d (suc k) (x ∷ xs) h = omega (arith, total_upto d k xs (omega arith))

module _ {A : Type 0} (record_of : ℕ → A → List ℕ) (adds : A → ℕ) where
  abbrev pub records : ℕ → List A → List ℕ
  records s [] = []
  records s (x ∷ xs) = record_of s x ++ records (s + adds x) xs

  pub records_snoc : (s : ℕ) (xs : List A) (x : A) → records s (xs ++ (x ∷ [])) ≡ records s xs ++ record_of (s + total adds xs) x
  records_snoc s [] x = rw (add-zero, append-nil)
  records_snoc s (y ∷ xs) x = rw (records_snoc (s + adds y) xs x, add_assoc, append_assoc)

  module _ (w : ℕ) where
    -- a record is w bytes long, whatever its running number
    abbrev pub Wide : A → Type 0
    Wide x = (s : ℕ) → length (record_of s x) ≡ w

    pub records-length : (s : ℕ) (xs : List A) → All Wide xs → length (records s xs) ≡ w * length xs
    records-length s [] a = rw mul-zero
    records-length s (x ∷ xs) a =
        length-append (record_of s x) (records (s + adds x) xs) ∙ rw (a.0 s, records-length (s + adds x) xs a.1, mul-suc) (omega arith)

    pub records_at : (d : A) (s : ℕ) (xs : List A) → All Wide xs → (k i : ℕ) → k < length xs → i < w → get_or (records s xs) (w * k + i) 0 ≡ get_or (record_of (s + total adds (take k xs)) (get_or xs k d)) i 0
    records_at d s [] a k i hk hi = absurd (omega arith)
    records_at d s (x ∷ xs) a zero i hk hi = rw (mul-zero, zero-add, add-zero) (get_or-append (record_of s x) (records (s + adds x) xs) 0 i (rw (a.0 s) hi))
    records_at d s (x ∷ xs) a (suc k) i hk hi =
        let place : w * suc k + i ≡ length (record_of s x) + (w * k + i) = rw (a.0 s, mul-suc) (omega arith) in
        ap (λ (n : ℕ). get_or (record_of s x ++ records (s + adds x) xs) n 0) place
        ∙ get_or-append-add (record_of s x) (records (s + adds x) xs) (w * k + i) 0
        ∙ rw (← add_assoc) (records_at d (s + adds x) xs a.1 k i (omega arith) hi)
