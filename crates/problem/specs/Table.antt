-- Which tables are valid.
use Rattle.std.specs.Prelude.{ℕ, Bool, false, List, ◌≡◌}
use Rattle.lists.specs.Bytes.{same_list}
use Rattle.problem.specs.Problem.{Problem, Fits}
use Rattle.problem.specs.Parse.{Parsed, refused, parsed, parse}
use Rattle.problem.specs.Layout.{layout, problem_in}
use Rattle.problem.specs.Print.{print}

-- A table is valid if its 4,096 bytes are what some accepted text reads to
pub record Valid (tb : List ℕ) : Type 0 where
  pub text : List ℕ
  pub problem : Problem
  pub accepted : parse text ≡ parsed problem
  pub bytes : layout problem ≡ tb

-- so it is the table of a problem that keeps every bound: the one found in it
pub record Lawful (tb : List ℕ) : Type 0 where
  pub fits : Fits (problem_in tb)
  pub laid : layout (problem_in tb) ≡ tb

-- decided by writing it out and reading that
abbrev pub reads_to : Parsed → List ℕ → Bool
reads_to (refused e line) tb = false
reads_to (parsed q) tb = same_list (layout q) tb

unfoldable pub is_valid : List ℕ → Bool
is_valid tb = reads_to (parse (print tb)) tb
