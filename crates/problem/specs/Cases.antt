-- Texts that are refused, with the number and the line: document 01's list of faults, case by case.
use Rattle.std.specs.Prelude.{ℕ, true, false, ◌≡◌, eqb, replicate}
use Prim.Native.Char.{code}
use Prim.Native.String.{String}
use Prim.Native.String as Text
use mathlib.Core.List.{List, [], ◌∷◌, ◌++◌, map, flat_map}
use Rattle.problem.specs.Faults.{fault_number}
use Rattle.problem.specs.Numbers.{Numbers, refused_at, answered}
use Rattle.problem.specs.Parse.{Parsed, refused, parsed, parse}

-- a quoted text's bytes: a stroke between spaces ends a line, and nothing ends the last line
abbrev pub unended : String → List ℕ
unended Text.[] = []
unended (Text.◌∷◌ c s) = elim (eqb (code c) 32) [ true ↦ unended s | false ↦ elim (eqb (code c) 47) [ true ↦ 10 ∷ unended s | false ↦ code c ∷ unended s ] ]

-- and with the end of the last line
abbrev pub quoted : String → List ℕ
quoted s = unended s ++ (10 ∷ [])

-- 64 clause lines
abbrev pub full : List ℕ
full = quoted "0101000100000064 / 0200" ++ flat_map quoted (replicate 64 "030000")

-- a text, and its refusal's number and line
abbrev pub refusals : List (List ℕ × ℕ × ℕ)
refusals =
    -- 1: no digits, an odd number, more than 70 (70 are a line), a foreign byte, no 0A at the end
    (quoted "", 1, 1)
    ∷ (quoted "0101000100000064 / 020", 1, 2)
    ∷ (quoted "0101000100000064 / 0200 / FF0000000000000000000000000000000000000000000000000000000000000000000000", 1, 3)
    ∷ (quoted "0101000100000064 / 0200 / FF00000000000000000000000000000000000000000000000000000000000000000000", 3, 3)
    ∷ (quoted "0101000100000064 / 02G0", 1, 2)
    ∷ (unended "0101000100000064 / 0200 / FF00", 1, 3)
    -- 1 before 2, at a small letter
    ∷ (quoted "Ff00", 1, 1)
    -- 2: a kind unknown, or out of place, whatever follows it
    ∷ (quoted "0101000100000064 / 0200 / 04", 2, 3)
    ∷ (quoted "0209", 2, 1)
    ∷ (quoted "0101000100000064 / 0101000100000064", 2, 2)
    ∷ (quoted "0101000200000064 / 0200 / 03", 2, 3)
    ∷ (quoted "0101000200000064 / 0200 / FF00", 2, 3)
    ∷ (quoted "0101000100000064 / 0200 / 0209", 2, 3)
    -- a line after FF: well formed, badly formed, blank
    ∷ (quoted "0101000100000064 / 0200 / FF00 / FF00", 2, 4)
    ∷ (quoted "0101000100000064 / 0200 / FF00 / FF0", 1, 4)
    ∷ (quoted "0101000100000064 / 0200 / FF00 / ", 1, 4)
    -- at the line after the last, a missing FF: also of the empty text, and where predicates are missing too
    ∷ ([], 2, 1)
    ∷ (quoted "0101000300000064 / 0200", 2, 3)
    ∷ (quoted "0101000100000064 / 0200 / 030000", 2, 4)
    -- 3: a byte is missing
    ∷ (quoted "01", 3, 1)
    ∷ (quoted "01010001000000", 3, 1)
    ∷ (quoted "0101000100000064 / 02", 3, 2)
    ∷ (quoted "0101000100000064 / 0200 / 03", 3, 3)
    ∷ (quoted "0101000100000064 / 0200 / 030100", 3, 3)
    ∷ (quoted "0101000100000064 / 0200 / FF", 3, 3)
    -- 4: version; 5: a count, an arity, a wrong number of clause lines. The first byte that is bad decides, and not what is missing after it or left over
    ∷ (quoted "0102", 4, 1)
    ∷ (quoted "010121", 5, 1)
    ∷ (quoted "01010000", 5, 1)
    ∷ (quoted "01010021", 5, 1)
    ∷ (quoted "0101000100000064 / 020400", 5, 2)
    ∷ (quoted "0101000100000064 / 0200 / 0305", 5, 3)
    ∷ (quoted "0101000100000064 / 0200 / 030005", 5, 3)
    ∷ (quoted "0101000100000064 / 0200 / FF0100", 5, 3)
    -- the first faulty line decides
    ∷ (quoted "0101000100000064 / 0204 / 0", 5, 2)
    -- 6: an unknown predicate, a constant that is not there, a byte that is no argument; 7: variable numbering. By the bytes' order, not by the numbers'
    ∷ (quoted "0101020100000064 / 0201 / 03010001", 6, 3)
    ∷ (quoted "0101020100000064 / 0201 / 0301000002", 6, 3)
    ∷ (quoted "0101000100000064 / 0201 / 0301000000", 6, 3)
    ∷ (quoted "0101200100000064 / 0201 / 0301000020", 6, 3)
    ∷ (quoted "0101200100000064 / 0201 / 030100007F", 6, 3)
    ∷ (quoted "0101200100000064 / 0201 / 0301000084", 6, 3)
    ∷ (quoted "0101200100000064 / 0201 / 03010000FF", 6, 3)
    ∷ (quoted "0101020100000064 / 0201 / 0301000081", 7, 3)
    ∷ (quoted "0101020100000064 / 0202 / 030100008102", 7, 3)
    ∷ (quoted "0101020100000064 / 0202 / 030100000281", 6, 3)
    -- of an alternative a new variable with a wrong number is 7, with the right one 8
    ∷ (quoted "0101020100000064 / 0201 / 03010100800082", 7, 3)
    ∷ (quoted "0101020100000064 / 0201 / 03010100800081", 8, 3)
    -- 3, bytes left over, before 8, 9 and 10; 8 before 10
    ∷ (quoted "010100010000006400", 3, 1)
    ∷ (quoted "0101020100000064 / 0201 / 030001008000", 3, 3)
    ∷ (quoted "0101200100000064 / 020300", 3, 2)
    ∷ (quoted "0101200100000064 / 0201 / 03030000800081008200", 3, 3)
    ∷ (quoted "0101200100000064 / 0201 / 0303010080008100820083", 8, 3)
    ∷ (quoted "0101200100000064 / 0201 / 030300008000810082", 10, 3)
    -- K10 with a further predicate, K11 with a fifth clause
    ∷ (quoted "0101200200000064 / 0202 / 0200 / FF00", 9, 3)
    ∷ (
      quoted
          "0101200100000064 / 0202 / 030400008081008081008081008081 / 030400008081008081008081008081 / 030400008081008081008081008081 / 030400008081008081008081008081 / 030400008081008081008081008081 / FF05",
      10,
      7,
    )
    -- the 65th clause line is 5 before its bytes, but 1 where it is badly formed
    ∷ (full ++ quoted "03", 5, 67)
    ∷ (full ++ quoted "0", 1, 67)
    ∷ []

-- what reading says, in the papers' numbers
abbrev pub parsed_numbers : Parsed → Numbers
parsed_numbers (refused e line) = refused_at (fault_number e) line
parsed_numbers (parsed q) = answered 0 0

abbrev pub RefusalsHold : Type 0
RefusalsHold = map (λ r. parsed_numbers (parse r.0)) refusals ≡ map (λ r. refused_at r.1 r.2) refusals
