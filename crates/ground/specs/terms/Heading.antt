-- Bytes that begin as a table does, with the counts and the arities of a problem in the first 144: a table, and a rules buffer.
use Rattle.std.specs.Prelude.{ℕ, ◌+◌, ◌*◌, ◌≤◌, ◌<◌, List, ◌≡◌, length, get_or}
use Rattle.lists.specs.Member.{All}
use Rattle.problem.specs.Problem.{AtomFits, atom_count, first_atom}
use Rattle.problem.specs.Layout.{atom_in, arities_in}
use Rattle.ground.specs.Instance.{value_of}

-- the record of predicate p
pub record PredicateAt (bs : List ℕ) (p : ℕ) : Type 0 where
  pub few : get_or (arities_in bs) p 0 ≤ 3
  pub arity : get_or bs (16 + 4 * p) 0 ≡ get_or (arities_in bs) p 0
  pub first : get_or bs (16 + 4 * p + 1) 0 + 256 * get_or bs (16 + 4 * p + 2) 0 ≡ first_atom (get_or bs 0 0) (arities_in bs) p

pub record Headed (bs : List ℕ) : Type 0 where
  pub long : 144 ≤ length bs
  pub short : length bs ≤ 16384
  pub constants : get_or bs 0 0 ≤ 32
  pub count : get_or bs 1 0 ≡ length (arities_in bs)
  pub some_predicate : 1 ≤ length (arities_in bs)
  pub few : length (arities_in bs) ≤ 32
  pub atoms : atom_count (get_or bs 0 0) (arities_in bs) ≤ 1024
  pub each : (p : ℕ) → p < length (arities_in bs) → PredicateAt bs p

-- the four bytes at a place hold an atom whose arguments have values below c
pub record NumberedIn (bs : List ℕ) (at : ℕ) (values : List ℕ) : Type 0 where
  pub room : at + 4 ≤ length bs
  pub four : length values ≡ 4
  pub atom_fits : AtomFits (get_or bs 0 0) (arities_in bs) 4 (atom_in (arities_in bs) bs at)
  pub values_below : All (λ b. value_of values b < get_or bs 0 0) (atom_in (arities_in bs) bs at).args
