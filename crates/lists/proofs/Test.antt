-- Tests as types: what `&&`, `||`, `not`, a decided test and the tests of two numbers give.
use Prim.Native.Nat.{ℕ, ◌≤◌, ◌<◌}
use mathlib.Core.Bool.{Bool, true, false, not, ◌||◌}
use mathlib.Core.Logic.{◌⊎◌, inl, inr}
use mathlib.Core.Path.{◌≡◌, refl}
use borrow.Author.Tests.{eqb-true, eqb-false, ltb-true, ltb-false}
use lib.Dec.{T, eqb, ltb}

pub or_left : (a b : Bool) → T a → T (a || b)
or_left true b p = tt
or_left false b p = absurd p

pub or_right : (a b : Bool) → T b → T (a || b)
or_right true b p = tt
or_right false b p = p

pub T-or : (a b : Bool) → T (a || b) → T a ⊎ T b
T-or true b p = inl tt
T-or false b p = inr p

-- a test passes or fails
pub decided : (b : Bool) → T b ⊎ T (not b)
decided true = inl tt
decided false = inr tt

-- two numbers are equal or not
pub same_or_other : (a b : ℕ) → (a ≡ b) ⊎ (a ≡ b → ⊥)
same_or_other a b = go (eqb a b) refl
  where
    go : (t : Bool) → eqb a b ≡ t → (a ≡ b) ⊎ (a ≡ b → ⊥)
    go true e = inl (eqb-true a b e)
    go false e = inr (eqb-false a b e)

-- a number is below another or not
pub lt_or_le : (a b : ℕ) → (a < b) ⊎ (b ≤ a)
lt_or_le a b = go (ltb a b) refl
  where
    go : (t : Bool) → ltb a b ≡ t → (a < b) ⊎ (b ≤ a)
    go true e = inl (ltb-true a b e)
    go false e = inr (ltb-false a b e)

pub T-true : (b : Bool) → T b → b ≡ true
T-true true p = refl
T-true false p = absurd p

pub T-false : (b : Bool) → T (not b) → b ≡ false
T-false true p = absurd p
T-false false p = refl

pub fails : (b : Bool) → (T b → ⊥) → T (not b)
fails true f = f tt
fails false f = tt

pub not-not : (b : Bool) → T (not (not b)) → T b
not-not true p = tt
not-not false p = p

-- tests that pass alike are equal
pub same_test : (a b : Bool) → (T a → T b) → (T b → T a) → a ≡ b
same_test true true f g = refl
same_test true false f g = absurd (f tt)
same_test false true f g = absurd (g tt)
same_test false false f g = refl
