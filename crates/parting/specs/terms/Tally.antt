-- The parts turn by turn: first a turn for each clause, then one for each predicate. What the runs made so far say, and the joined bits so far.
use Rattle.std.specs.Prelude.{ℕ, ◌+◌, ◌-◌, ◌*◌, ◌≤◌, ◌<◌, Bool, true, false, not, cond, ◌≡◌, eqb, ltb, length, take, get_or}
use mathlib.Core.List.{List, [], ◌∷◌, map, flat_map}
use Rattle.lists.specs.Bytes.{bit}
use Rattle.lists.specs.Member.{every}
use Rattle.lists.specs.Tabulate.{tabulate}
use Rattle.search.specs.Machine.{Outcome}
use Rattle.problem.specs.Problem.{Problem, atom_count}
use Rattle.problem.specs.Layout.{problem_in}
use Rattle.ground.specs.declared.verdict.Verdict.{Verdict}
use Rattle.ground.specs.declared.verdict.Verdict.TheVariants.{Refused, Satisfied as IsSatisfied, Refuted as IsRefuted, Exhausted as IsExhausted}
use Rattle.ground.specs.Verdict.{verdict_numbers}
use Rattle.parting.specs.Parts.{part_of}
use Rattle.parting.specs.Runs.{run_by, runs_of, is_refuted, said_by, sum_of, parting_numbers, bits_of, predicate_at, joined_bits}
use Rattle.parting.specs.declared.parts.Parting.{Parting}
use Rattle.parting.specs.declared.parts.Parting.TheVariants as parting
use Rattle.parting.specs.terms.Labels.{clause_at, labels_in}
use Rattle.parting.specs.terms.Gathered.{gathered}

-- the name of the part of turn i, 255 where it has none
abbrev pub name_at : List ℕ → ℕ → ℕ
name_at tb i =
    cond (ltb i (get_or tb 2 0))
    (cond (eqb (get_or tb (clause_at i) 0 + get_or tb (clause_at i + 1) 0) 0) (32 + i) 255)
    (cond (eqb (get_or (labels_in tb) (i - get_or tb 2 0) 0) (i - get_or tb 2 0)) (i - get_or tb 2 0) 255)

-- the parts of the first n turns
abbrev pub parts_named : List ℕ → ℕ → List Problem
parts_named tb x = cond (eqb x 255) [] (gathered tb x ∷ [])

abbrev pub parts_upto : List ℕ → ℕ → List Problem
parts_upto tb n = flat_map (λ i. parts_named tb (name_at tb i)) (tabulate (λ i. i) n)

-- the outcomes of their runs
abbrev pub outcomes_upto : Bool → List ℕ → ℕ → List Outcome
outcomes_upto magic tb n = map (run_by magic) (parts_upto tb n)

-- what runs say, as a number, and their sum
pub record Tallied (os : List Outcome) (verdict count : ℕ) : Type 0 where
  pub said : verdict ≡ (parting_numbers (said_by os)).number
  pub sum : count ≡ sum_of os

-- the answer that such a number stands for
abbrev pub parting_by : ℕ → Parting
parting_by n = cond (eqb n 0) parting.Refuted (cond (eqb n 1) parting.Satisfied parting.Exhausted)

-- the number after one run more: none and spent are kept
abbrev pub verdict_after : ℕ → Verdict → ℕ
verdict_after n (Refused e) = n
verdict_after n (IsSatisfied m) = n
verdict_after n (IsRefuted m) = 0
verdict_after n (IsExhausted m) = 2

-- one run more is counted
pub record Counting (verdict count : ℕ) (v : Verdict) (said sum : ℕ) : Type 0 where
  pub said_is : said ≡ verdict_after verdict v
  pub sum_is : sum ≡ count + (verdict_numbers v).value
  pub small : sum ≤ count + 4294967295

-- the bit of an atom in the joined model
abbrev pub joined_bit : Bool → Problem → ℕ → Bool
joined_bit magic q a = get_or (bits_of (run_by magic (part_of q (predicate_at q a)))) a false

-- the label of each atom's predicate; bytes past the atoms have none
pub record Marked (tb marks : List ℕ) : Type 0 where
  pub size : length marks ≡ 1024
  pub marks_are : (a : ℕ) → a < atom_count (problem_in tb).constants (problem_in tb).arities → get_or marks a 0 ≡ get_or (labels_in tb) (predicate_at (problem_in tb) a) 0

-- the bits of the atoms with a mark, over those that were there
abbrev pub joined_as : List ℕ → ℕ → List ℕ → List ℕ → ℕ → ℕ
joined_as marks x bits joined a = cond (eqb (get_or marks a 0) x) (get_or bits a 0) (get_or joined a 0)

-- after n turns, where no run was none
pub record Running (magic : Bool) (tb joined : List ℕ) (n verdict count : ℕ) : Type 0 where
  pub none_refuted : every (λ o. not (is_refuted o)) (outcomes_upto magic tb n) ≡ true
  pub tallied : Tallied (outcomes_upto magic tb n) verdict count
  pub small : count ≤ n * 4294967295
  pub size : length joined ≡ 1024
  pub bits_are : (a : ℕ) → a < atom_count (problem_in tb).constants (problem_in tb).arities → get_or tb 2 0 + get_or (labels_in tb) (predicate_at (problem_in tb) a) 0 < n
      → get_or joined a 0 ≡ bit (joined_bit magic (problem_in tb) a)

-- one turn more: the run of its part, if it has one, is counted, and its bits are joined
pub record Turned (magic : Bool) (tb joined : List ℕ) (n verdict count : ℕ) : Type 0 where
  pub tallied : Tallied (outcomes_upto magic tb n) verdict count
  pub size : length joined ≡ 1024
  pub ended : verdict ≡ 0 → runs_of magic (problem_in tb) ≡ outcomes_upto magic tb n
  pub goes_on : (verdict ≡ 0 → ⊥) → Running magic tb joined n verdict count

-- all runs are made
pub record Ran (magic : Bool) (q : Problem) (joined : List ℕ) (verdict count : ℕ) : Type 0 where
  pub tallied : Tallied (runs_of magic q) verdict count
  pub size : length joined ≡ 1024
  pub bits_are : verdict ≡ 1 → take (atom_count q.constants q.arities) joined ≡ map bit (joined_bits magic q)
