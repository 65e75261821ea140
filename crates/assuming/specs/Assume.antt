-- Assumptions (02: U11, open facts): ground atoms that may be added to a problem, each as a clause without conditions. A call runs the problem by itself, then with
-- all of them; what it says and leaves is fixed by the outcomes of the runs that it makes.
use Rattle.std.specs.Prelude.{ℕ, ◌+◌, Bool, true, false, cond, not, ◌&&◌, List, [], ◌∷◌, ◌++◌, map, ltb, leb, length, take, drop, get_or, replicate}
use Rattle.lists.specs.Key.{nat_key}
use Rattle.lists.specs.Member.{has}
use Rattle.search.specs.Machine.{Outcome, Satisfied, Refuted, Exhausted}
use Rattle.problem.specs.Numbers.{Numbers, refused_as, answered}
use Rattle.problem.specs.Problem.{Atom, Clause, Problem, atom_count}
use Rattle.problem.specs.Layout.{layout, problem_in}
use Rattle.problem.specs.Table.{is_valid}
use Rattle.ground.specs.Report.{atoms_in_order}
use Rattle.ground.specs.Verdict.{verdict_of, verdict_numbers}
use Rattle.assuming.specs.declared.assume.Assumed.{Assumed}
use Rattle.assuming.specs.declared.assume.Assumed.TheVariants as assumed

-- ---- facts added to a problem

-- an atom as it is printed, its predicate and then its arguments
abbrev pub atom_of : List ℕ → Atom
atom_of [] = record { pred = 0; args = [] }
atom_of (p ∷ args) = record { pred = p; args = args }

-- "clauses without conditions": the one whose only alternative is the ground atom with this number
abbrev pub fact_clause : Problem → ℕ → Clause
fact_clause q a = record { vars = 0; conds = []; alts = atom_of (get_or (atoms_in_order q) a []) ∷ [] }

-- a problem with facts after its clauses, in this order
abbrev pub assuming : Problem → List ℕ → Problem
assuming q facts = record { constants = q.constants; limit = q.limit; arities = q.arities; clauses = q.clauses ++ map (fact_clause q) facts }

-- the table of it
abbrev pub assumed_table : List ℕ → List ℕ → List ℕ
assumed_table tb facts = layout (assuming (problem_in tb) facts)

-- "which open facts to add": those whose bit is true
abbrev pub picked : List Bool → List ℕ → List ℕ
picked [] facts = []
picked (b ∷ bits) [] = []
picked (true ∷ bits) (a ∷ facts) = a ∷ picked bits facts
picked (false ∷ bits) (a ∷ facts) = picked bits facts

-- ---- what is refused

-- numbers of atoms, none of them repeated
abbrev pub are_atoms : ℕ → List ℕ → Bool
are_atoms n [] = true
are_atoms n (a ∷ facts) = ltb a n && not (has nat_key facts a) && are_atoms n facts

-- "5 if clauses and open facts together pass 64, then 45 for more than 16 open facts, for an atom number of A or more, or for one repeated"; 0 where nothing is refused
unfoldable pub facts_refusal : Problem → List ℕ → ℕ
facts_refusal q facts = cond (ltb 64 (length q.clauses + length facts)) 5 (cond (leb (length facts) 16 && are_atoms (atom_count q.constants q.arities) facts) 0 45)

-- ---- the runs of a call

-- a call is refused, or it makes one run or two, with these outcomes
pub data Runs : Type 0 where
  declined : ℕ → Runs
  once : Outcome → Runs
  twice : Outcome → Outcome → Runs

-- "If the first run is none, the second is not made": the outcomes of the problem by itself and with all facts
abbrev pub runs : Outcome → Outcome → Runs
runs (Refuted n) all = once (Refuted n)
runs (Satisfied n bits) all = twice (Satisfied n bits) all
runs (Exhausted n) all = twice (Exhausted n) all

abbrev pub unless_refused : ℕ → Runs → Runs
unless_refused e r = cond (ltb 0 e) (declined e) r

-- 11, then 31, then 5 and 45
abbrev pub screened : Bool → List ℕ → List ℕ → Runs → Runs
screened short tb facts r = cond short (declined 11) (cond (is_valid (take 4096 tb)) (unless_refused (facts_refusal (problem_in (take 4096 tb)) facts) r) (declined 31))

-- ---- what it says

-- "spent in a run that is made gives spent"
abbrev pub assumed_of_two : Outcome → Outcome → Assumed
assumed_of_two (Satisfied n bits) (Satisfied m more) = assumed.Never
assumed_of_two (Satisfied n bits) (Refuted m) = assumed.Sometimes
assumed_of_two (Satisfied n bits) (Exhausted m) = assumed.Exhausted
assumed_of_two (Exhausted n) all = assumed.Exhausted
assumed_of_two (Refuted n) all = assumed.Always

abbrev pub assumed_of : Runs → Assumed
assumed_of (declined e) = assumed.Refused e
assumed_of (once alone) = assumed.Always
assumed_of (twice alone all) = assumed_of_two alone all

-- 0 "none always", 1 "none never", 2 spent, 3 "none with some"
abbrev pub assumed_numbers : Assumed → Numbers
assumed_numbers (assumed.Refused e) = refused_as e
assumed_numbers assumed.Always = answered 0 0
assumed_numbers assumed.Never = answered 1 0
assumed_numbers assumed.Exhausted = answered 2 0
assumed_numbers assumed.Sometimes = answered 3 0

-- ---- what it leaves; after a refusal, all is as it was

-- the count that an engine gives with an outcome
abbrev pub count_of : Outcome → ℕ
count_of o = (verdict_numbers (verdict_of o)).value

-- "Each run's count is given, 0 for one not made": the two lent numbers
abbrev pub first_left : Runs → ℕ → ℕ
first_left (declined e) held = held
first_left (once alone) held = count_of alone
first_left (twice alone all) held = count_of alone

abbrev pub second_left : Runs → ℕ → ℕ
second_left (declined e) held = held
second_left (once alone) held = 0
second_left (twice alone all) held = count_of all

-- "Work bytes are zero afterwards, up to 65,536."
abbrev pub work_left : Runs → List ℕ → List ℕ
work_left (declined e) work = work
work_left (once alone) work = replicate 65536 0 ++ drop 65536 work
work_left (twice alone all) work = replicate 65536 0 ++ drop 65536 work
