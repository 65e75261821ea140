-- The ground problem: what document 01, "Logic of a ticket", says of instances, chaining, splitting and a fitting.
-- Ground atoms are the numbers below `atoms`, and "false" is the number `atoms`.
use Rattle.std.specs.Prelude.{ℕ, ◌<◌, Bool, true, false, List, [], ◌∷◌, T, get_or}
use Rattle.lists.specs.Member.{All, Any}

-- I names the instances: a clause and the values of its variables
pub record Ground (I : Type 0) : Type 0 where
  pub atoms : ℕ
  -- in the walk's order
  pub instances : List I
  pub conds : I → List ℕ
  pub alts : I → List ℕ

-- every condition and alternative is a ground atom
abbrev pub Proper : {I : Type 0} → Ground I → Type 0
Proper p = All (λ i. All (λ a. a < p.atoms) (p.conds i) × All (λ a. a < p.atoms) (p.alts i)) p.instances

-- a model (01: fitting): each instance with all conditions in the set has an alternative in it. The set is any set of numbers, decidable or not
abbrev pub Model : {I : Type 0} → Ground I → (ℕ → Type 0) → Type 0
Model p M = All (λ i. All M (p.conds i) → ∥ Any M (p.alts i) ∥₁) p.instances

-- "No alternatives means the atom false"
abbrev pub or_false : ℕ → List ℕ → List ℕ
or_false A [] = A ∷ []
or_false A (a ∷ ds) = a ∷ ds

abbrev pub goals : {I : Type 0} → Ground I → I → List ℕ
goals p i = or_false p.atoms (p.alts i)

-- m of 2 or more: disjunctive (01: a splitting clause). The others are Horn (01: chaining)
abbrev pub disjunctive : List ℕ → Bool
disjunctive [] = false
disjunctive (a ∷ []) = false
disjunctive (a ∷ b ∷ ds) = true

-- how a node is found: closed, open with the bits of its model, or split at an instance, with the alternatives to enter
pub data Found (I : Type 0) : Type 0 where
  closed : Found I
  opened : List Bool → Found I
  split : I → List ℕ → Found I

-- the set that bits stand for: atom a is in it where bit a is true
abbrev pub Marked : List Bool → ℕ → Type 0
Marked bits a = T (get_or bits a false)
