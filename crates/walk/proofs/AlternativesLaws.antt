-- Listing the alternatives of a split node one by one.
use Rattle.std.specs.Prelude.{ℕ, ◌≤◌, List, ◌≡◌, length, take}

-- the first n of them are listed
pub record FirstListed (ds atoms : List ℕ) (n : ℕ) : Type 0 where
  pub four : length atoms ≡ 4
  pub within : n ≤ 4
  pub part : n ≤ length ds
  pub are : take n atoms ≡ take n ds
