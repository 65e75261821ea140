-- What appending a clause's record to a table leaves.
use Rattle.std.specs.Prelude.{ℕ, List, ◌≡◌, length}
use Rattle.problem.specs.Problem.{Clause, Fits}
use Rattle.problem.specs.Layout.{clause_record, layout, problem_in}
use Rattle.problem.specs.Extended.{with_clause}

-- the table of the problem with the clause after the others, whatever the record says that the clauses before it weigh
pub record Appended (tb rec left : List ℕ) : Type 0 where
  pub size : length left ≡ length tb
  pub table : (k : Clause) (before : ℕ) → Fits (with_clause (problem_in tb) k)
      → rec ≡ clause_record (problem_in tb).constants (problem_in tb).arities before k → left ≡ layout (with_clause (problem_in tb) k)
