-- The alternatives of a split in slots one after another, in bytes that begin as a table does: slot i stands at first + stride * i.
use Rattle.std.specs.Prelude.{ℕ, ◌+◌, ◌*◌, ◌≤◌, ◌<◌, List, ◌≡◌, length, get_or, Option, Some, None}
use Rattle.lists.specs.Tabulate.{tabulate}
use Rattle.problem.specs.Layout.{atom_in, arities_in}
use Rattle.ground.specs.Instance.{number}
use Rattle.ground.specs.terms.Heading.{NumberedIn}

-- the atom in slot i by its number, and those of the first slots
abbrev pub number_in : List ℕ → ℕ → ℕ → List ℕ → ℕ → ℕ
number_in bs first stride values i = number (get_or bs 0 0) (arities_in bs) values (atom_in (arities_in bs) bs (first + stride * i))

abbrev pub slot_numbers : List ℕ → ℕ → ℕ → List ℕ → ℕ → List ℕ
slot_numbers bs first stride values count = tabulate (number_in bs first stride values) count

-- there are at most four slots, and each holds an atom that has a number
pub record SlotsNumbered (bs : List ℕ) (first stride count : ℕ) (values : List ℕ) : Type 0 where
  pub few : count ≤ 4
  pub each : (i : ℕ) → i < count → NumberedIn bs (first + stride * i) values

-- of the alternatives that are entered it is the one after n others, or there are no more than n
abbrev pub NextOf : List ℕ → ℕ → Option ℕ → Type 0
NextOf ds n (Some a) = (n < length ds) × (a ≡ get_or ds n 0)
NextOf ds n None = length ds ≤ n
