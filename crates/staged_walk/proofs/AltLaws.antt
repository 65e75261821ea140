-- A split node's record names the same site, with the same alternatives, as in the relevancy engine's walk.
use Prim.Native.Nat.{ℕ}
use mathlib.Core.List.{List}
use Rattle.std.specs.Prelude.{Option}
use Rattle.ground.specs.terms.Branching.{NextOf}
use Rattle.walk.specs.terms.Path.{site_at, alts_at}
use Rattle.relevancy_walk.specs.terms.Place.{relevancy_walker}
use Rattle.staged_walk.specs.terms.Place.{staged_walker}

module _ (tb path : List ℕ) (depth : ℕ) where
  pub named_alike : (staged_walker tb).Named (site_at (staged_walker tb) path depth) → (relevancy_walker tb).Named (site_at (relevancy_walker tb) path depth)
  unfolding site_at
  named_alike named = named

  pub next_alike : (j : ℕ) (r : Option ℕ) → NextOf (alts_at (relevancy_walker tb) path depth) j r → NextOf (alts_at (staged_walker tb) path depth) j r
  unfolding site_at
  next_alike j r next = next
