-- Where a walk stands. It began at a place s that counts as its entry b and brought a deepest figure d: the root, 0 and 0 for a first run.
use Rattle.std.specs.Prelude.{ℕ, ◌-◌, ◌≤◌, Bool, List, ◌≡◌, length}
use Rattle.std.proofs.Math.Option.{Option}
use Rattle.search.specs.Ground.{Found, opened}
use Rattle.search.specs.Machine.{Branch, Place, next_path, last, longest, entries}

module _ {I : Type 0} (find : List ℕ → Found I) where
  -- t is entry number n of the walk, and e the longest path that it has entered, where d was brought
  pub record AtEntry (s : Place I) (d b n : ℕ) (t : Place I) (e : ℕ) : Type 0 where
    pub begun : b ≤ n
    pub made : length (entries find (n - b) s) ≡ n - b
    pub here : last s (entries find (n - b) s) ≡ t
    pub deep : longest d (entries find (n - b) s) ≡ e

  -- n entries are made, the latest is not open, and o is the path of the next entry, where there is one
  pub record NextEntry (s : Place I) (d b n : ℕ) (o : Option (List (Branch I))) (e : ℕ) : Type 0 where
    pub latest : Place I
    pub at_latest : AtEntry s d b n latest e
    pub unopened : (bits : List Bool) → latest.found ≡ opened bits → ⊥
    pub next : next_path latest ≡ o
