-- What holds of the members that pass a test, and what they weigh.
use Prim.Native.Nat.{ℕ, ◌+◌, ◌≤◌}
use mathlib.Core.Bool.{Bool, true, false, cond}
use mathlib.Core.List.{List, [], ◌∷◌}
use mathlib.Core.Logic.{inl, inr}
use mathlib.Core.Path.{◌≡◌, refl}
use native.Mathlib.Omega.{arith}
use lib.Dec.{T}
use lib.ListN.{length}
use Rattle.lists.specs.Member.{All, Any}
use Rattle.problem.specs.Problem.{Clause, weight, weights}
use Rattle.parting.specs.Parts.{only}

module _ {ℓ} {A : Type 0} (t : A → Bool) (P : A → Type ℓ) where
  -- what holds of all holds of these
  pub only-All : (xs : List A) → All P xs → All P (only t xs)
  only-All [] a = tt
  only-All (x ∷ xs) a = go (t x) a.0 (only-All xs a.1)
    where
      go : (b : Bool) → P x → All P (only t xs) → All P (cond b (x ∷ only t xs) (only t xs))
      go true p h = (p, h)
      go false p h = h

  -- and what holds of these holds of each that passes
  pub All-only : (xs : List A) → All P (only t xs) → All (λ x. T (t x) → P x) xs
  All-only [] a = tt
  All-only (x ∷ xs) a = go (t x) a (All-only xs)
    where
      go : (b : Bool) → All P (cond b (x ∷ only t xs) (only t xs)) → (All P (only t xs) → All (λ y. T (t y) → P y) xs) → (T b → P x) × All (λ y. T (t y) → P y) xs
      go true h on = (λ u. h.0, on h.1)
      go false h on = (λ u. absurd u, on h)

-- one that passes, with a property, is among them
pub Any-only : {A : Type 0} (t : A → Bool) (P : A → Type 0) (xs : List A) → Any (λ x. T (t x) × P x) xs → Any P (only t xs)
Any-only {A = A} t P [] x' = elim x' [ ]
Any-only t P (x ∷ xs) (inl h) = go (t x) h.0 h.1
  where
    go : (b : Bool) → T b → P x → Any P (cond b (x ∷ only t xs) (only t xs))
    go true u p = inl p
    go false u p = absurd u
Any-only t P (x ∷ xs) (inr h) = go (t x) (Any-only t P xs h)
  where
    go : (b : Bool) → Any P (only t xs) → Any P (cond b (x ∷ only t xs) (only t xs))
    go true m = inr m
    go false m = m

pub only_none : {A : Type 0} (t : A → Bool) (xs : List A) → All (λ x. t x ≡ false) xs → only t xs ≡ []
only_none t [] a = refl
only_none t (x ∷ xs) a = rw a.0 (only_none t xs a.1)

pub only_few : {A : Type 0} (t : A → Bool) (xs : List A) → length (only t xs) ≤ length xs
only_few t [] = omega arith
only_few t (x ∷ xs) = go (t x) (only_few t xs)
  where
    go : (b : Bool) → length (only t xs) ≤ length xs → length (cond b (x ∷ only t xs) (only t xs)) ≤ length (x ∷ xs)
    go true h = omega arith
    go false h = omega arith

pub only_weigh : (c : ℕ) (t : Clause → Bool) (ks : List Clause) → weights c (only t ks) ≤ weights c ks
only_weigh c t [] = omega arith
only_weigh c t (k ∷ ks) = go (t k) (only_weigh c t ks)
  where
    go : (b : Bool) → weights c (only t ks) ≤ weights c ks → weights c (cond b (k ∷ only t ks) (only t ks)) ≤ weight c k + weights c ks
    go true h = omega arith
    go false h = omega arith
