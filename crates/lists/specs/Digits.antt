-- Numbers and their digits to any base c and of any width, the first digit slowest. The numbers of the paper are written so: bytes to base 256, and a
-- byte's two digits to base 16.
use Rattle.std.specs.Prelude.{ℕ, zero, suc, ◌+◌, ◌*◌, ◌/◌, ◌%◌, get_or}
use mathlib.Core.List.{List, [], ◌∷◌, ◌++◌, map, flat_map, reverse}
use Rattle.lists.specs.Tabulate.{tabulate}

-- the number that digits stand for, after those that stand for n
abbrev pub horner_from : ℕ → ℕ → List ℕ → ℕ
horner_from c n [] = n
horner_from c n (d ∷ ds) = horner_from c (n * c + d) ds

abbrev pub horner : ℕ → List ℕ → ℕ
horner c ds = horner_from c 0 ds

-- the last w digits of n
abbrev pub digits_of : ℕ → ℕ → ℕ → List ℕ
digits_of c zero n = []
digits_of c (suc w) n = digits_of c w (n / c) ++ (n % c ∷ [])

-- a number as w bytes, the high byte first; and the low byte first
abbrev pub bytes_of : ℕ → ℕ → List ℕ
bytes_of w n = digits_of 256 w n

abbrev pub low_bytes : ℕ → ℕ → List ℕ
low_bytes w n = reverse (bytes_of w n)

-- the number whose w bytes stand from a place on, the low byte first
abbrev pub low_number : ℕ → List ℕ → ℕ → ℕ
low_number w bs at = horner 256 (reverse (tabulate (λ j. get_or bs (at + j) 0) w))

-- all lists of w numbers below c, the first number slowest
abbrev pub tuples : ℕ → ℕ → List (List ℕ)
tuples c zero = [] ∷ []
tuples c (suc w) = flat_map (λ a. map (λ t. a ∷ t) (tuples c w)) (tabulate (λ a. a) c)
