-- What reading knows of a first line.
use Rattle.std.specs.Prelude.{ℕ, ◌≤◌, ◌<◌, List, ◌≡◌, length}
use Rattle.lists.specs.Member.{All}

-- the bounds that a first line gives
pub record Sized (c p : ℕ) (limit : List ℕ) : Type 0 where
  pub constants_fit : c ≤ 32
  pub some_predicate : 1 ≤ p
  pub predicates_fit : p ≤ 32
  pub limit_four : length limit ≡ 4
  pub limit_bytes : All (λ b. b < 256) limit
