-- "Each line is one frame, written as pairs of hexadecimal digits and ended by byte 0A." Fault 1: "no digits, an odd number, more than 70, a foreign
-- byte, or no 0A at the end".
use Rattle.std.specs.Prelude.{ℕ, zero, suc, ◌+◌, ◌*◌, ◌/◌, ◌%◌, Bool, cond, ◌&&◌, List, [], ◌∷◌, eqb, ltb, length, get_or}
use Rattle.lists.specs.Digits.{horner}
use Rattle.lists.specs.Tabulate.{tabulate}
use Rattle.problem.specs.declared.line.Line.{Line}
use Rattle.problem.specs.declared.line.Line.TheVariants.{Absent, Bad, Holds}
use Rattle.problem.specs.Digit.{digit_of, is_digit}

-- how many digits stand in the text x from a place on, at most n
unfoldable pub run : List ℕ → ℕ → ℕ → ℕ
run x at zero = 0
run x at (suc n) = cond (is_digit (get_or x at 0)) (suc (run x (suc at) n)) 0

-- d digits, at most 71 of which were counted, are a line
abbrev pub is_line : List ℕ → ℕ → ℕ → Bool
is_line x at d = ltb 0 d && ltb d 71 && eqb (d % 2) 0 && eqb (get_or x (at + d) 0) 10

abbrev pub line_of : List ℕ → ℕ → ℕ → Line
line_of x at d = cond (is_line x at d) (Holds (d / 2)) Bad

-- the line that starts at a place of the text
unfoldable pub line_at : List ℕ → ℕ → Line
line_at x at = cond (ltb at (length x)) (line_of x at (run x at 71)) Absent

-- the byte that two digits from a place on stand for
unfoldable pub byte_at : List ℕ → ℕ → ℕ
byte_at x at = horner 16 (digit_of (get_or x at 0) ∷ digit_of (get_or x (suc at) 0) ∷ [])

-- the n bytes of the line that starts at a place
unfoldable pub frame_at : List ℕ → ℕ → ℕ → List ℕ
frame_at x at n = tabulate (λ j. byte_at x (at + 2 * j)) n

-- where the line after it starts
abbrev pub after_line : ℕ → ℕ → ℕ
after_line at n = at + 2 * n + 1
