-- What the functions that write leave in the text out.
use Rattle.std.specs.Prelude.{ℕ, ◌+◌, ◌≤◌, List, ◌≡◌, length}
use Rattle.lists.specs.terms.Spliced.{spliced}

-- these bytes, at most so many, were put over the text out from a place on, and r is the place after them
pub record Put (out : List ℕ) (at : ℕ) (bytes : List ℕ) (most r : ℕ) (left : List ℕ) : Type 0 where
  pub next : r ≡ at + length bytes
  pub few : length bytes ≤ most
  pub leaves : left ≡ spliced at bytes out
