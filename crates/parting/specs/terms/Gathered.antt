-- The table of a part, by the part's name: its lowest predicate, or 32 and the number of a clause without atoms.
use Rattle.std.specs.Prelude.{ℕ, ◌+◌, Bool, cond, eqb, ltb, length, get_or}
use mathlib.Core.List.{List, [], ◌∷◌, flat_map}
use Rattle.lists.specs.Tabulate.{tabulate}
use Rattle.problem.specs.Problem.{Clause, Problem}
use Rattle.problem.specs.Layout.{problem_in}
use Rattle.problem.specs.Extended.{with_clauses}
use Rattle.ground.specs.Instance.{clause_of}
use Rattle.parting.specs.terms.Labels.{lead_at, labels_in}

-- whether clause k is of part x
abbrev pub belongs : List ℕ → ℕ → ℕ → Bool
belongs tb x k = cond (ltb x 32) (eqb (get_or (labels_in tb) (lead_at tb k) 0) x) (eqb x (32 + k))

-- a clause, where it is taken
abbrev pub taken : Bool → Clause → List Clause
taken b k = cond b (k ∷ []) []

-- those of the first n clauses that are of part x, in order
abbrev pub gathered_upto : List ℕ → ℕ → ℕ → List Clause
gathered_upto tb x n = flat_map (λ k. taken (belongs tb x k) (clause_of (problem_in tb) k)) (tabulate (λ k. k) n)

-- the problem with the clauses of part x
abbrev pub gathered : List ℕ → ℕ → Problem
gathered tb x = with_clauses (problem_in tb) (gathered_upto tb x (length (problem_in tb).clauses))
