-- Document 01's K1 to K9, of K9 with the count of document 02, and a refused text, from text to printed lines.
use Prim.Native.String.{String}
use Rattle.std.specs.Prelude.{List, [], ◌∷◌, map, ◌≡◌}
use Rattle.problem.specs.Cases.{quoted}
use Rattle.ground.specs.Walks.{relevancy, magic, printed}

pub record Case : Type 0 where
  pub text : String
  pub output : String

abbrev pub cases : List Case
cases =
    record { text = "0101020300000064 / 0201 / 0201 / 0201 / 0300010000 / 030102008001800280 / 0301000100 / 0301000280 / FF04"; output = "810000000002" }
    ∷ record { text = "0101020300000002 / 0201 / 0201 / 0201 / 0300010000 / 030102008001800280 / 0301000100 / 0301000280 / FF04"; output = "810000000002" }
    ∷ record { text = "0101020300000001 / 0201 / 0201 / 0201 / 0300010000 / 030102008001800280 / 0301000100 / 0301000280 / FF04"; output = "810200000001" }
    ∷ record { text = "0101020300000000 / 0201 / 0201 / 0201 / 0300010000 / 030102008001800280 / 0301000100 / 0301000280 / FF04"; output = "810200000000" }
    ∷ record { text = "0101020300000064 / 0201 / 0201 / 0201 / 0300010000 / 030102008001800280 / 0301000100 / FF03"; output = "810100000000 / 820000 / 820001 / 820101 / 820200 / 820201" }
    ∷ record { text = "0101020300000064 / 0201 / 0201 / 0201 / 0300010000 / 030102008001800280 / 0301000100 / 03020002800001 / FF04"; output = "810100000002 / 820000 / 820101 / 820200" }
    ∷ record { text = "0101000100000064 / 0200 / FF00"; output = "810100000000 / 8200" }
    ∷ record { text = "0101000100000064 / 0200 / 030000 / FF01"; output = "810000000000" }
    ∷ record { text = "0101000100000064 / 0200 / 0300020000 / 03010000 / FF02"; output = "810000000001" }
    ∷ []

-- K10 with a further predicate
abbrev pub refusals : List Case
refusals = record { text = "0101200200000064 / 0202 / 0200 / FF00"; output = "8F090003" } ∷ []

-- in every case each walk, the relevancy walk first, prints what the papers say
abbrev pub Printed : List Case → Type 0
Printed ks = map (λ k. printed relevancy (quoted k.text) ∷ printed magic (quoted k.text) ∷ []) ks ≡ map (λ k. quoted k.output ∷ quoted k.output ∷ []) ks

abbrev pub CasesHold : Type 0
CasesHold = Printed cases

abbrev pub RefusalsPrinted : Type 0
RefusalsPrinted = Printed refusals
