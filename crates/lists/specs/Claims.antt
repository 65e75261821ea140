-- What is claimed of lists of numbers: "Facts on powers and digits are shown for any width". `proofs/Theorems.antt` proves `Theorems`.
use Rattle.std.specs.Prelude.{ℕ, suc, ◌+◌, ◌*◌, ◌^◌, ◌/◌, ◌%◌, ◌≤◌, ◌<◌, Bool, not, List, [], ◌∷◌, ◌++◌, ◌↔◌, ◌≡◌, T, eqb, length, take, get_or}
use Rattle.lists.specs.Digits.{horner, digits_of, low_bytes, low_number, tuples}
use Rattle.lists.specs.Key.{Key}
use Rattle.lists.specs.Member.{All, every, firsts, EachOnce, lead}
use Rattle.lists.specs.Powers.{powers}
use Rattle.lists.specs.Tabulate.{tabulate}

pub record Theorems : Type 1 where
  -- "0 to the power 0 is 1"
  pub no_power : (c : ℕ) → c ^ 0 ≡ 1
  pub next_power : (c w : ℕ) → c ^ suc w ≡ c * c ^ w
  -- the first digit is the slowest
  pub no_digit : (c : ℕ) → horner c [] ≡ 0
  pub first_slowest : (c d : ℕ) (ds : List ℕ) → horner c (d ∷ ds) ≡ d * c ^ length ds + horner c ds
  -- w digits below c and a number below c to the power w determine each other
  pub digits_many : (c w n : ℕ) → length (digits_of c w n) ≡ w
  pub digits_below : (c w n : ℕ) → n < c ^ w → All (λ d. d < c) (digits_of c w n)
  pub number_back : (c w n : ℕ) → n < c ^ w → horner c (digits_of c w n) ≡ n
  pub number_below : (c : ℕ) (ds : List ℕ) → All (λ d. d < c) ds → horner c ds < c ^ length ds
  pub digits_back : (c : ℕ) (ds : List ℕ) → All (λ d. d < c) ds → digits_of c (length ds) (horner c ds) ≡ ds
  -- of any number the last w digits are kept
  pub kept : (c w n : ℕ) → 0 < c → horner c (digits_of c w n) ≡ n % c ^ w
  -- all lists of w digits, each at the place of its number
  pub listed : (c w : ℕ) → tuples c w ≡ tabulate (digits_of c w) (c ^ w)
  -- the first of w + 1 digits
  pub first_digit : (c w n : ℕ) → digits_of c (suc w) n ≡ n / c ^ w % c ∷ digits_of c w n
  -- a number written as w bytes with the low byte first, among others, is read there again
  pub low_back : (w n : ℕ) (front back : List ℕ) → n < 256 ^ w → low_number w (front ++ low_bytes w n ++ back) (length front) ≡ n
  -- as many as hold from the left do hold, and the next one, if there is one, does not
  pub lead_holds : (t : ℕ → Bool) (atoms : List ℕ) → All (λ a. T (t a)) (take (lead t atoms) atoms)
  pub lead_stops : (t : ℕ → Bool) (atoms : List ℕ) → lead t atoms < length atoms → T (not (t (get_or atoms (lead t atoms) 0)))
  -- as many hold from the left as there are, exactly if all hold; as tests too
  pub leads : (t : ℕ → Bool) (atoms : List ℕ) → (lead t atoms ≡ length atoms) ↔ All (λ a. T (t a)) atoms
  pub all_hold : (t : ℕ → Bool) (atoms : List ℕ) → every t atoms ≡ eqb (lead t atoms) (length atoms)
  -- `firsts` has each member once, in order of first appearance
  pub each_once : {K : Type 0} (k : Key K) (xs : List K) → EachOnce k xs (firsts k xs)
  -- the table of powers: 165 numbers, and the rule at each
  pub powers_many : length powers ≡ 165
  pub powers_rule : (c k : ℕ) → c ≤ 32 → k ≤ 4 → get_or powers (5 * c + k) 0 ≡ c ^ k
