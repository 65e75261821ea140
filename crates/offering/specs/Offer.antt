-- What offering a rule and setting it give, and what they leave (02: U4). A slip is 37 bytes: the number of clauses seen, the frame's length, and the
-- frame, with zeros where it has fewer than 35 bytes. The table is not lent for writing to an offer, nor the slip to a setting.
use Rattle.problem.specs.Judge.{Judged}
use Rattle.std.specs.Prelude.{ℕ, cond, ◌||◌, List, ◌∷◌, ◌++◌, eqb, ltb, length, take, drop, get_or, Result, Ok, Err}
use Rattle.problem.specs.declared.fault.Fault.TheVariants.{BadLength, ShortBuffer, NoTable, StaleSlip}
use Rattle.problem.specs.declared.fault.Fault.{Fault}
use Rattle.lists.specs.Bytes.{pad}
use Rattle.problem.specs.Faults.{fault_number}
use Rattle.problem.specs.Numbers.{Numbers, refused_as, answered}
use Rattle.problem.specs.Problem.{Problem}
use Rattle.problem.specs.Layout.{problem_in}
use Rattle.problem.specs.Table.{is_valid}
use Rattle.problem.specs.Extended.{judge_next, text_with}
use Rattle.reading.specs.Read.{read_leaves}

-- refused, or done
abbrev pub Offering : Type 0
Offering = Result (Unit {0}) Fault

abbrev pub offering_numbers : Offering → Numbers
offering_numbers (Err e) = refused_as (fault_number e)
offering_numbers (Ok u) = answered 0 0

-- a slip over what a buffer held
abbrev pub slip_over : ℕ → List ℕ → List ℕ → List ℕ
slip_over count f slip = count ∷ length f ∷ pad 35 f ++ drop 37 slip

-- what a slip holds: how many clauses were seen, and the frame
abbrev pub count_held : List ℕ → ℕ
count_held slip = get_or slip 0 0

abbrev pub frame_held : List ℕ → List ℕ
frame_held slip = take (get_or slip 1 0) (drop 2 slip)

abbrev pub offering_of : Judged → Offering
offering_of (Err e) = Err e
offering_of (Ok v) = Ok tt

-- of what was judged, one thing for a fault, another for a clause
abbrev pub unless_fault : Judged → List ℕ → List ℕ → List ℕ
unless_fault (Err e) kept done = kept
unless_fault (Ok v) kept done = done

-- 11 if the table or the slip is too short, 31 if the table's first 4,096 bytes are not valid; else what is said of the problem in them
abbrev pub lent_with : {R : Type 0} → List ℕ → List ℕ → (Fault → R) → (Problem → R) → R
lent_with tb slip refused said =
    cond (ltb (length tb) 4096 || ltb (length slip) 37) (refused ShortBuffer) (cond (is_valid (take 4096 tb)) (said (problem_in (take 4096 tb))) (refused NoTable))

-- Offering the bytes f: the refusal that reading them as the next clause line would give; else the slip holds them, and the number of clauses seen
unfoldable pub offer_result : List ℕ → List ℕ → List ℕ → Offering
offer_result tb f slip = lent_with tb slip Err (λ q. offering_of (judge_next q f))

unfoldable pub offer_leaves : List ℕ → List ℕ → List ℕ → List ℕ
offer_leaves tb f slip = lent_with tb slip (λ e. slip) (λ q. unless_fault (judge_next q f) slip (slip_over (length q.clauses) f slip))

-- A slip may hold anything: 43 if the number of clauses seen is not the ticket's, 3 if its frame is longer than its room; only then is the frame judged again
unfoldable pub judge_slip : Problem → List ℕ → Judged
judge_slip q slip =
    cond (eqb (count_held slip) (length q.clauses)) (cond (ltb (get_or slip 1 0) 36) (judge_next q (frame_held slip)) (Err BadLength)) (Err StaleSlip)

-- Setting: the table is the one that the written-out text with this line before FF, and FF one higher, reads to
unfoldable pub set_result : List ℕ → List ℕ → Offering
set_result tb slip = lent_with tb slip Err (λ q. offering_of (judge_slip q slip))

unfoldable pub set_leaves : List ℕ → List ℕ → List ℕ
set_leaves tb slip = lent_with tb slip (λ e. tb) (λ q. unless_fault (judge_slip q slip) tb (read_leaves (text_with q (frame_held slip)) tb))
