-- A ticket shuffled by hand, text by text: each constant is renumbered in conditions and alternatives, variables stay, the clause lines stand in another order, and the limit is another.
use Prim.Native.String.{String}
use Rattle.std.specs.Prelude.{◌≡◌}
use Rattle.problem.specs.Problem.{Problem}
use Rattle.problem.specs.Parse.{parsed, parse}
use Rattle.problem.specs.Cases.{quoted}
use Rattle.shuffling.specs.Shuffled.{Shuffled}

-- two accepted texts, the second of the first one's problem shuffled
pub record TextsShuffled (x y : String) : Type 0 where
  pub before : Problem
  pub after : Problem
  pub before_read : parse (quoted x) ≡ parsed before
  pub after_read : parse (quoted y) ≡ parsed after
  pub shuffled : Shuffled before after

-- constants 00, 01, 02 become 01, 02, 00
abbrev pub CaseShuffled : Type 0
CaseShuffled =
    TextsShuffled "0101030200000064 / 0202 / 0201 / 030001000001 / 03010200808101800102 / 0301000101 / FF03"
    "0101030200000005 / 0202 / 0201 / 0301000102 / 030001000102 / 03010200808101800100 / FF03"
