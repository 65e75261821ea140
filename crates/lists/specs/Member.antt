-- What holds of every member of a list, of some member, and membership by an equality test.
use Rattle.std.specs.Prelude.{ℕ, suc, Bool, true, false, cond, ◌&&◌, ◌||◌, List, [], ◌∷◌, ◌++◌, ◌⊎◌, ◌↔◌, ◌≡◌, T}
use Rattle.std.proofs.Math.Option.{Option, none, some}
use Rattle.lists.specs.Key.{Key}

abbrev pub All {ℓ} : {A : Type 0} → (A → Type ℓ) → List A → Type ℓ
All P [] = Unit
All P (x ∷ xs) = P x × All P xs

abbrev pub Any : {A : Type 0} → (A → Type 0) → List A → Type 0
Any P [] = ⊥
Any P (x ∷ xs) = P x ⊎ Any P xs

abbrev pub every : {A : Type 0} → (A → Bool) → List A → Bool
every p [] = true
every p (x ∷ xs) = p x && every p xs

-- the first member that passes a test
abbrev pub first : {A : Type 0} → (A → Bool) → List A → Option A
first p [] = none
first p (x ∷ xs) = cond (p x) (some x) (first p xs)

-- x is the first member of which P holds
pub record FirstOf {A : Type 0} (P : A → Type 0) (xs : List A) (x : A) : Type 0 where
  pub before : List A
  pub after : List A
  pub order : xs ≡ before ++ (x ∷ after)
  pub none_before : All (λ y. P y → ⊥) before
  pub here : P x

abbrev pub has : {K : Type 0} → Key K → List K → K → Bool
has k [] x = false
has k (y ∷ s) x = k.same y x || has k s x

-- x is a member of s
abbrev pub In : {K : Type 0} → Key K → List K → K → Type 0
In k s x = T (has k s x)

-- no member stands twice
abbrev pub Distinct : {K : Type 0} → Key K → List K → Type 0
Distinct k [] = Unit
Distinct k (x ∷ s) = (In k s x → ⊥) × Distinct k s

-- the members that are not equal to x
abbrev pub others : {K : Type 0} → Key K → K → List K → List K
others k x [] = []
others k x (y ∷ ys) = cond (k.same x y) (others k x ys) (y ∷ others k x ys)

-- each member once, in order of first appearance: one that is equal to an earlier one is passed over
abbrev pub firsts : {K : Type 0} → Key K → List K → List K
firsts k [] = []
firsts k (x ∷ xs) = x ∷ others k x (firsts k xs)

-- y stands in xs, and those before it are the members of us
pub record StandsAfter {K : Type 0} (k : Key K) (us : List K) (y : K) (xs : List K) : Type 0 where
  pub before : List K
  pub after : List K
  pub place : xs ≡ before ++ (y ∷ after)
  pub members : (x : K) → In k before x ↔ In k us x

-- ys has the members of xs, each once, in the order in which they first appear: where y stands in ys, what ys has before it is what xs has before it.
-- Since y is not among those, it is the first appearance
pub record EachOnce {K : Type 0} (k : Key K) (xs ys : List K) : Type 0 where
  pub members : (x : K) → In k xs x ↔ In k ys x
  pub once : Distinct k ys
  pub order : (us : List K) (y : K) (vs : List K) → ys ≡ us ++ (y ∷ vs) → StandsAfter k us y xs

-- how many hold from the left, before the first that does not
abbrev pub lead : (ℕ → Bool) → List ℕ → ℕ
lead t [] = 0
lead t (a ∷ atoms) = cond (t a) (suc (lead t atoms)) 0
