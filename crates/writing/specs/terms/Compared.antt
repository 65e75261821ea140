-- What a table is known to be before it is compared with other bytes.
use Rattle.std.specs.Prelude.{ℕ, ◌+◌, ◌*◌, ◌-◌, ◌≤◌, List, ◌≡◌, length, drop, get_or, replicate}

-- all that stands after the table's clauses is zero
pub record Ended (tb : List ℕ) : Type 0 where
  pub size : length tb ≡ 4096
  pub few : get_or tb 2 0 ≤ 64
  pub rest : drop (144 + 56 * get_or tb 2 0) tb ≡ replicate (3952 - 56 * get_or tb 2 0) 0
