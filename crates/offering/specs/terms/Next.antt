-- What judging a frame as the next clause line leaves in a clause record.
use Rattle.std.specs.Prelude.{ℕ, List, ◌≡◌, length, Ok}
use Rattle.problem.specs.Problem.{weights}
use Rattle.problem.specs.Judge.{Judged, clause_at}
use Rattle.problem.specs.Layout.{clause_record, problem_in}
use Rattle.problem.specs.Extended.{judge_next, next_read}
use Rattle.reading.specs.Read.{table_of}
use Rattle.offering.specs.Offer.{Offering, offering_of}

pub record NextFilled (tb f : List ℕ) (r : Judged) (rec : List ℕ) : Type 0 where
  pub judged : r ≡ judge_next (problem_in tb) f
  pub filled : (v : ℕ) → r ≡ Ok v
      → rec ≡ clause_record (problem_in tb).constants (problem_in tb).arities (weights (problem_in tb).constants (problem_in tb).clauses) (clause_at (problem_in tb).arities f v)
  pub size : length rec ≡ 56

-- a frame's clause added to a table: the table of the longer problem, or a refusal that leaves it as it was
pub record Added (tb f : List ℕ) (r : Offering) (left : List ℕ) : Type 0 where
  pub said : r ≡ offering_of (judge_next (problem_in tb) f)
  pub table : left ≡ table_of (next_read (problem_in tb) f (judge_next (problem_in tb) f)) tb
