-- What is claimed of the ground problem, whatever the code. `proofs/Theorems.antt` proves `Theorems`.
use Rattle.std.specs.Prelude.{ℕ, ◌<◌, List, [], ◌∷◌, ◌++◌, map, ◌↔◌, ◌⊎◌, ◌≡◌}
use Rattle.lists.specs.Digits.{horner}
use Rattle.lists.specs.Member.{All, Any}
use Rattle.lists.specs.Tabulate.{tabulate}
use Rattle.search.specs.Ground.{Proper}
use Rattle.problem.specs.Problem.{Problem, Fits, atom_count}
use Rattle.ground.specs.Cases.{CasesHold, RefusalsPrinted}
use Rattle.ground.specs.Instance.{Instance, GroundAtom, AtomOf, InstanceOf, ground_number, ground_of}
use Rattle.ground.specs.Report.{atoms_in_order}

-- an atom as it is printed, its predicate and then its arguments: a ground atom, and its number
abbrev pub Listed : Problem → List ℕ → Type 0
Listed q [] = ⊥
Listed q (p ∷ args) = GroundAtom q.constants q.arities p args

abbrev pub listed_number : Problem → List ℕ → ℕ
listed_number q [] = 0
listed_number q (p ∷ args) = ground_number q.constants q.arities p args

pub record Theorems : Type 0 where
  -- different ground atoms have different numbers, and every number below A is that of one
  pub apart : (c : ℕ) (arities : List ℕ) (p₁ p₂ : ℕ) (args₁ args₂ : List ℕ) → GroundAtom c arities p₁ args₁ → GroundAtom c arities p₂ args₂
      → ground_number c arities p₁ args₁ ≡ ground_number c arities p₂ args₂ → (p₁ ≡ p₂) × (args₁ ≡ args₂)
  pub onto : (c : ℕ) (arities : List ℕ) (n : ℕ) → n < atom_count c arities → AtomOf c arities n
  -- the atoms are listed in number order, each once: their numbers are 0, 1, .. A - 1
  pub atoms_listed : (q : Problem) → All (Listed q) (atoms_in_order q)
  pub atoms_stand_in_order : (q : Problem) → map (listed_number q) (atoms_in_order q) ≡ tabulate (λ n. n) (atom_count q.constants q.arities)
  pub atoms_all : (q : Problem) (p : ℕ) (args : List ℕ) → GroundAtom q.constants q.arities p args → Any (λ a. a ≡ p ∷ args) (atoms_in_order q)
  -- the instances are all assignments of constants to a clause's variables, each once: the later of two has the larger clause or, of one clause, the larger values with
  -- 80 slowest
  pub instances_all : (q : Problem) (i : Instance) → Any (λ j. j ≡ i) (ground_of q).instances ↔ InstanceOf q i
  pub instances_in_order : (q : Problem) (front mid back : List Instance) (i j : Instance) → (ground_of q).instances ≡ front ++ (i ∷ mid ++ (j ∷ back))
      → (i.clause < j.clause) ⊎ ((i.clause ≡ j.clause) × (horner q.constants i.values < horner q.constants j.values))
  -- every condition and alternative of an instance is a ground atom
  pub proper : (q : Problem) → Fits q → Proper (ground_of q)
  -- K1 to K9, from the text to the printed lines, by both walks
  pub cases_hold : CasesHold
  -- and what is printed of a refusal
  pub refusals_printed : RefusalsPrinted
