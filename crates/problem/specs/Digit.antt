-- "The sixteen digits are 0 to 9 and A to F, as those bytes; small letters are refused."
use Rattle.std.specs.Prelude.{ℕ, suc, Bool, cond, eqb, ltb, get_or}
use mathlib.Core.List.{List, [], ◌∷◌, ◌++◌, map, flat_map}
use Rattle.lists.specs.Digits.{digits_of}

abbrev pub digits : List ℕ
digits = 48 ∷ 49 ∷ 50 ∷ 51 ∷ 52 ∷ 53 ∷ 54 ∷ 55 ∷ 56 ∷ 57 ∷ 65 ∷ 66 ∷ 67 ∷ 68 ∷ 69 ∷ 70 ∷ []

-- where b stands in a list; its length where it does not
abbrev pub place_of : List ℕ → ℕ → ℕ
place_of [] b = 0
place_of (d ∷ ds) b = cond (eqb d b) 0 (suc (place_of ds b))

-- a digit's value, and 16 for any other byte
unfoldable pub digit_of : ℕ → ℕ
digit_of b = place_of digits b

unfoldable pub is_digit : ℕ → Bool
is_digit b = ltb (digit_of b) 16

-- a byte as a pair of digits
unfoldable pub hex_byte : ℕ → List ℕ
hex_byte b = map (λ d. get_or digits d 0) (digits_of 16 2 b)

-- a frame as a line
unfoldable pub hex_line : List ℕ → List ℕ
hex_line frame = flat_map hex_byte frame ++ (10 ∷ [])
