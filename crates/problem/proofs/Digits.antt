-- Laws of digits: a digit's byte and its value determine each other, so do a byte and its pair of digits, and where a byte's value is looked for.
use Prim.Native.Nat.{ℕ, zero, suc, ◌-◌, ◌≤◌, ◌<◌}
use mathlib.Core.Bool.{Bool, true, false, not, cond, ◌&&◌}
use mathlib.Core.List.{List, [], ◌∷◌, map}
use mathlib.Core.Logic.{◌⊎◌, inl, inr}
use mathlib.Core.Path.{◌≡◌, ap, subst, ◌∙◌}
use native.Mathlib.Nat.{eq-or-lt_of_le}
use native.Mathlib.Omega.{arith}
use borrow.Author.Tests.{le-ltb}
use lib.Dec.{T, eqb, ltb, eqb→eq, ltb→lt, lt→ltb}
use lib.ListN.{length, get_or}
use Rattle.lists.specs.Digits.{horner}
use Rattle.lists.specs.Member.{All}
use Rattle.lists.proofs.Digits.{horner_below, digits_horner}
use Rattle.lists.specs.Test.{T_left, T_right}
use Rattle.problem.specs.Digit.{digits, place_of, digit_of, is_digit, hex_byte}

-- what stands at the place of b is b
pub place_back : (ds : List ℕ) (b : ℕ) → place_of ds b < length ds → get_or ds (place_of ds b) 0 ≡ b
place_back [] b h = absurd (omega arith)
place_back (d ∷ ds) b h = go (eqb d b) (eqb→eq d b) (place_back ds b) h
  where
    go : (t : Bool) → (T t → d ≡ b) → (place_of ds b < length ds → get_or ds (place_of ds b) 0 ≡ b)
        → cond t 0 (suc (place_of ds b)) < suc (length ds) → get_or (d ∷ ds) (cond t 0 (suc (place_of ds b))) 0 ≡ b
    go true e f l = e tt
    go false e f l = f (omega arith)

-- the test passes at 0, 1, .. n - 1
abbrev passes : (ℕ → Bool) → ℕ → Bool
passes p zero = true
passes p (suc n) = passes p n && p n

passes_at : (p : ℕ → Bool) (n : ℕ) → T (passes p n) → (b : ℕ) → b < n → T (p b)
passes_at p zero t b h = absurd (omega arith)
passes_at p (suc n) t b h = go (eq-or-lt_of_le h) (passes_at p n (T_left (passes p n) (p n) t) b)
  where
    go : (suc b ≡ suc n) ⊎ (suc b < suc n) → (b < n → T (p b)) → T (p b)
    go (inl e) f = let same : n ≡ b = omega arith in subst (λ (k : ℕ). T (p k)) same (T_right (passes p n) (p n) t)
    go (inr l) f = f (omega arith)

pub digit_is : (b : ℕ) → digit_of b < 16 → T (is_digit b)
unfolding is_digit
digit_is b h = lt→ltb (digit_of b) 16 h

pub digit_other : (b : ℕ) → 16 ≤ digit_of b → T (not (is_digit b))
unfolding is_digit
digit_other b h = rw (le-ltb (digit_of b) 16 h) tt

pub digit_small : (b : ℕ) → T (is_digit b) → digit_of b < 16
unfolding is_digit
digit_small b t = ltb→lt (digit_of b) 16 t

-- a digit is the one of its value
pub digit_back : (b : ℕ) → T (is_digit b) → get_or digits (digit_of b) 0 ≡ b
unfolding digit_of is_digit
digit_back b t = place_back digits b (ltb→lt (place_of digits b) 16 t)

-- k, if it is the value of the digit b; else 16
abbrev valued : ℕ → ℕ → ℕ
valued b k = cond (ltb k 16 && eqb (get_or digits k 0) b) k 16

-- where the value of a byte is looked for
abbrev sought : ℕ → ℕ
sought b = cond (ltb b 48) 16 (cond (ltb b 65) (valued b (b - 48)) (valued b (b - 55)))

found : ℕ → Bool
found b = eqb (digit_of b) (sought b)

pub digit_found : (b : ℕ) → b < 256 → digit_of b ≡ sought b
unfolding digit_of found
digit_found b h = eqb→eq (digit_of b) (sought b) (passes_at found 256 tt b h)

module _ (h l : ℕ) (p : T (is_digit h)) (q : T (is_digit l)) where
  small_each : All (λ d. d < 16) (digit_of h ∷ digit_of l ∷ [])
  small_each = (digit_small h p, (digit_small l q, tt))

  pub hex_small : horner 16 (digit_of h ∷ digit_of l ∷ []) < 256
  hex_small = horner_below 16 (digit_of h ∷ digit_of l ∷ []) small_each

  -- two digits are those of the byte that they stand for
  pub hex_back : hex_byte (horner 16 (digit_of h ∷ digit_of l ∷ [])) ≡ h ∷ l ∷ []
  unfolding hex_byte
  hex_back =
      ap (map (λ d. get_or digits d 0)) (digits_horner 16 (digit_of h ∷ digit_of l ∷ []) small_each) ∙ rw (digit_back h p, digit_back l q)

-- the pair of digits of a byte stands for it
abbrev spelled : ℕ → Bool
spelled b =
    let h = get_or (hex_byte b) 0 0 in
    let l = get_or (hex_byte b) 1 0 in
    is_digit h && is_digit l && eqb (horner 16 (digit_of h ∷ digit_of l ∷ [])) b

pub hex_spelled : (b : ℕ) → b < 256 → T (spelled b)
unfolding digit_of is_digit hex_byte
hex_spelled b h = passes_at spelled 256 tt b h
