-- The chaining clauses of a table, as a table: marks follow through them alone in a stage, so that marking by that table is what a stage takes in.
use Rattle.std.specs.Prelude.{Bool, cond, List, [], ◌∷◌, ◌≡◌, ℕ, ltb, length, take}
use Rattle.problem.specs.Problem.{Clause, Problem}
use Rattle.problem.specs.Layout.{layout, problem_in}
use Rattle.problem.specs.Extended.{with_clauses}

-- a clause with fewer than two alternatives
abbrev pub chains : Clause → Bool
chains k = ltb (length k.alts) 2

unfoldable pub chain_clauses : List Clause → List Clause
chain_clauses [] = []
chain_clauses (k ∷ ks) = cond (chains k) (k ∷ chain_clauses ks) (chain_clauses ks)

-- the problem of the chaining clauses
abbrev pub chain_part : Problem → Problem
chain_part q = with_clauses q (chain_clauses q.clauses)

-- horn is the table of those of a table's first k clauses that are chaining, and of all
abbrev pub ChainsBefore : List ℕ → ℕ → List ℕ → Type 0
ChainsBefore tb k horn = horn ≡ layout (with_clauses (problem_in tb) (chain_clauses (take k (problem_in tb).clauses)))

abbrev pub ChainTable : List ℕ → List ℕ → Type 0
ChainTable tb horn = horn ≡ layout (chain_part (problem_in tb))
