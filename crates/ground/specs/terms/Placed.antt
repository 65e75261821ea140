-- What the functions on an atom, on an instance and on the values ask.
use Rattle.std.specs.Prelude.{ℕ, ◌+◌, ◌^◌, ◌≤◌, ◌<◌, List, ◌≡◌, length, take, drop, get_or}
use Rattle.lists.specs.Digits.{horner}
use Rattle.lists.specs.Member.{All}
use Rattle.problem.specs.Problem.{AtomFits, atom_count}
use Rattle.problem.specs.Layout.{atom_in, arities_in, problem_in}
use Rattle.ground.specs.Instance.{value_of, clause_of}

-- the slot at a place of a table holds an atom whose arguments have values below c
pub record Numbered (tb : List ℕ) (at : ℕ) (values : List ℕ) : Type 0 where
  pub room : at + 6 ≤ 4096
  pub four : length values ≡ 4
  pub atom_fits : AtomFits (get_or tb 0 0) (arities_in tb) 4 (atom_in (arities_in tb) tb at)
  pub values_below : All (λ b. value_of values b < get_or tb 0 0) (atom_in (arities_in tb) tb at).args

-- clause k has values below c for its variables, and there is a flag for each atom
pub record Placed (tb : List ℕ) (k : ℕ) (values flags : List ℕ) : Type 0 where
  pub known : k < length (problem_in tb).clauses
  pub four : length values ≡ 4
  pub below : All (λ d. d < get_or tb 0 0) (take (clause_of (problem_in tb) k).vars values)
  pub flagged : atom_count (problem_in tb).constants (problem_in tb).arities ≤ length flags

-- the next values of v variables, unless these were the last
pub record Stepped (v c : ℕ) (before after : List ℕ) : Type 0 where
  pub rest : drop v after ≡ drop v before
  pub below : All (λ d. d < c) (take v after)
  pub next : horner c (take v before) + 1 < c ^ v → horner c (take v after) ≡ horner c (take v before) + 1
