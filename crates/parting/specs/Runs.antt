-- The parts of a problem run one after another, by either engine, and what a call says and leaves.
use Rattle.std.specs.Prelude.{ℕ, ◌+◌, Bool, true, false, not, cond, List, [], ◌∷◌, ◌++◌, map, length, take, drop, get_or}
use Rattle.lists.specs.Bytes.{bit}
use Rattle.lists.specs.Member.{every}
use Rattle.lists.specs.Tabulate.{tabulate}
use Rattle.search.specs.Ground.{Found}
use Rattle.search.specs.Relevancy.{find_r}
use Rattle.search.specs.Machine.{Outcome, Satisfied, Refuted, Exhausted, outcome}
use Rattle.problem.specs.Numbers.{Numbers, refused_as, answered}
use Rattle.problem.specs.Problem.{Problem, limit_of, atom_count}
use Rattle.problem.specs.Layout.{problem_in}
use Rattle.problem.specs.Table.{is_valid}
use Rattle.ground.specs.Instance.{Instance, ground_of}
use Rattle.ground.specs.Report.{atoms_in_order}
use Rattle.ground.specs.Verdict.{verdict_of, verdict_numbers}
use Rattle.rewriting.specs.Facts.{find_in}
use Rattle.rewriting.specs.RulesLayout.{rules_layout}
use Rattle.parting.specs.Parts.{part_of, parts_of}
use Rattle.parting.specs.declared.parts.Parting.{Parting}
use Rattle.parting.specs.declared.parts.Parting.TheVariants as parting

-- ---- the runs

-- how an engine finds a node of a problem: the magic engine by the rules that it is rewritten to
abbrev pub find_by : Bool → Problem → List ℕ → Found Instance
find_by true q = find_in (rules_layout q)
find_by false q = find_r (ground_of q)

-- the outcome of its walk under the limit
unfoldable pub run_by : Bool → Problem → Outcome
run_by magic q = outcome (find_by magic q) (limit_of q.limit)

abbrev pub is_refuted : Outcome → Bool
is_refuted (Satisfied n bits) = false
is_refuted (Refuted n) = true
is_refuted (Exhausted n) = false

abbrev pub is_exhausted : Outcome → Bool
is_exhausted (Satisfied n bits) = false
is_exhausted (Refuted n) = false
is_exhausted (Exhausted n) = true

-- "The first none ends it": the outcomes up to the first that is none, and that one
abbrev pub up_to_refuted : List Outcome → List Outcome
up_to_refuted [] = []
up_to_refuted (o ∷ os) = o ∷ cond (is_refuted o) [] (up_to_refuted os)

-- the outcomes of the runs that are made, the first part's first
unfoldable pub runs_of : Bool → Problem → List Outcome
runs_of magic q = up_to_refuted (map (run_by magic) (parts_of q))

-- ---- what they say

-- "The first none ends it with none; failing that, any spent part makes it spent"; otherwise all of them fit
abbrev pub said_by : List Outcome → Parting
said_by os = cond (every (λ o. not (is_refuted o)) os) (cond (every (λ o. not (is_exhausted o)) os) parting.Satisfied parting.Exhausted) parting.Refuted

-- "The count is the sum"
abbrev pub sum_of : List Outcome → ℕ
sum_of [] = 0
sum_of (o ∷ os) = (verdict_numbers (verdict_of o)).value + sum_of os

-- the bits of an outcome's model
abbrev pub bits_of : Outcome → List Bool
bits_of (Satisfied n bits) = bits
bits_of (Refuted n) = []
bits_of (Exhausted n) = []

-- the predicate of an atom as it is printed, and of the atom with a number
abbrev pub predicate_in : List ℕ → ℕ
predicate_in [] = 0
predicate_in (p ∷ args) = p

abbrev pub predicate_at : Problem → ℕ → ℕ
predicate_at q a = predicate_in (get_or (atoms_in_order q) a [])

-- "the parts' fittings, each over its own predicates, are joined": an atom's bit is that of the part that its predicate belongs to
unfoldable pub joined_bits : Bool → Problem → List Bool
joined_bits magic q = tabulate (λ a. get_or (bits_of (run_by magic (part_of q (predicate_at q a)))) a false) (atom_count q.constants q.arities)

-- 0 none, 1 fits, 2 spent, as an engine's verdict
abbrev pub parting_numbers : Parting → Numbers
parting_numbers (parting.Refused e) = refused_as e
parting_numbers parting.Refuted = answered 0 0
parting_numbers parting.Satisfied = answered 1 0
parting_numbers parting.Exhausted = answered 2 0

-- ---- what a call says and leaves, where `short` tells whether a lent buffer is too short: 11, then 31, then the runs

abbrev pub screened : {R : Type 0} → Bool → List ℕ → (ℕ → R) → (Problem → R) → R
screened short tb refused runs = cond short (refused 11) (cond (is_valid (take 4096 tb)) (runs (problem_in (take 4096 tb))) (refused 31))

unfoldable pub parts_result : Bool → Bool → List ℕ → Parting
parts_result magic short tb = screened short tb (λ e. parting.Refused e) (λ q. said_by (runs_of magic q))

-- "The count is the sum": the lent number, which a refusal leaves
unfoldable pub parts_count : Bool → Bool → List ℕ → ℕ → ℕ
parts_count magic short tb count = screened short tb (λ e. count) (λ q. sum_of (runs_of magic q))

-- "none and spent leave the answer untouched"
abbrev pub answer_by : Parting → List Bool → List ℕ → List ℕ
answer_by (parting.Refused e) bits answer = answer
answer_by parting.Refuted bits answer = answer
answer_by parting.Satisfied bits answer = map bit bits ++ drop (length bits) answer
answer_by parting.Exhausted bits answer = answer

unfoldable pub parts_answer : Bool → Bool → List ℕ → List ℕ → List ℕ
parts_answer magic short tb answer = screened short tb (λ e. answer) (λ q. answer_by (said_by (runs_of magic q)) (joined_bits magic q) answer)
