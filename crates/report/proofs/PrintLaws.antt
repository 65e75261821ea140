-- What is printed of a text: a refusal of its reading, or what is told of the table that it was read into.
use Prim.Native.Nat.{ℕ, ◌≤◌}
use mathlib.Core.Bool.{Bool, true}
use mathlib.Core.List.{List, ◌++◌, append-nil}
use mathlib.Core.Path.{◌≡◌, refl, sym, ap, ap₂, ◌∙◌}
use native.Mathlib.Omega.{arith}
use borrow.Author.Tests.{le-ltb}
use lib.ListN.{length, take, drop, length-append, drop_of_length-le}
use lib.Seq.{take_all, length-take-le}
use Rattle.lists.proofs.Test.{T-true}
use Rattle.search.specs.Ground.{Found}
use Rattle.search.specs.Relevancy.{find_r}
use Rattle.search.specs.Machine.{Outcome, Satisfied, outcome}
use Rattle.search.proofs.Theorems.{theorems}
use Rattle.std.specs.Prelude.{Ok, Err}
use Rattle.problem.specs.declared.fault.Refusal.{Refusal}
use Rattle.problem.specs.Faults.{fault_number}
use Rattle.problem.specs.Problem.{Problem, Fits, atom_count, limit_of}
use Rattle.problem.specs.Numbers.{refused_at}
use Rattle.problem.specs.Parse.{Parsed, refused, parsed, parse}
use Rattle.problem.specs.Layout.{layout, problem_in}
use Rattle.problem.specs.Table.{Valid, Lawful, is_valid}
use Rattle.reading.specs.Read.{reading_of, read_result, read_leaves}
use Rattle.reading.proofs.TextRead.{text_read}
use Rattle.writing.specs.terms.Printed.{Put}
use Rattle.problem.proofs.Parse.{parse-Fits}
use Rattle.problem.proofs.TableLayout.{layout-length, problem_back}
use Rattle.writing.proofs.WriteLaws.{put_count, put_front}
use Rattle.problem.proofs.Theorems.{valid_to, Valid-Lawful}
use Rattle.ground.specs.Instance.{Instance, ground_of}
use Rattle.ground.specs.Report.{head_line, report}
use Rattle.ground.specs.Names.{instance_key}
use Rattle.ground.specs.Walks.{relevancy, magic, printed}
use Rattle.ground.proofs.Instances.{ground_proper}
use Rattle.ground.specs.declared.verdict.Verdict.{Verdict}
use Rattle.relevancy.specs.Engine.{outcome_in, fit_result, fit_answer}
use Rattle.ground.specs.Verdict.{verdict_of, answer_of}
use Rattle.relevancy.proofs.EngineLaws.{long_enough}
use Rattle.rewriting.specs.RulesLayout.{rules_layout}
use Rattle.magic.specs.Engine.{rules_outcome, magic_outcome, magic_result, magic_answer}
use Rattle.rewriting.proofs.RegroupLaws.{find_by_lem}
use Rattle.magic.proofs.EngineLaws.{long_enough as all-long}
use Rattle.report.specs.terms.Told.{told}
use Rattle.report.proofs.ToldLaws.{told-Outcome}

abbrev Walk : Type 0
Walk = Problem → List ℕ → Found Instance

-- the table that a text was read into
pub record ReadInto (x tb : List ℕ) : Type 0 where
  pub problem : Problem
  pub accepted : parse x ≡ parsed problem
  pub bytes : tb ≡ layout problem

-- ---- what reading a text into 4,096 bytes says

module _ (x tb : List ℕ) (size : length tb ≡ 4096) where
  pub refusal_printed : (walk : Walk) (e : Refusal) → Err e ≡ read_result x tb → head_line (refused_at (fault_number e.fault) e.line) ≡ printed walk x
  unfolding read_result printed
  refusal_printed walk e r = go (parse x) (r ∙ rw (le-ltb (length tb) 4096 (omega arith)))
    where
      go : (what : Parsed) → Err e ≡ reading_of what
          → head_line (refused_at (fault_number e.fault) e.line) ≡ elim what [ refused d l ↦ head_line (refused_at (fault_number d) l) | parsed q ↦ report q (outcome (walk q) (limit_of q.limit)) ]
      go (refused d l) s =
          let number : e.fault ≡ d = cc in
          let at : e.line ≡ l = cc in
          rw (number, at)
      go (parsed q) s = let z : ◌≡◌ {A = ℕ} 0 1 = cc in absurd (omega arith)

  pub text_taken : (left : List ℕ) → Ok tt ≡ read_result x tb → left ≡ read_leaves x tb → ReadInto x left
  text_taken left r l =
      let t = text_read x tb (sym r) in
      let short : length tb ≤ 4096 = omega arith in
      record { problem = t.problem; accepted = t.accepted; bytes = l ∙ t.left ∙ rw (drop_of_length-le tb short) (append-nil (layout t.problem)) }

-- ---- a table that a text was read into

module _ (x tb : List ℕ) (t : ReadInto x tb) where
  taken_fits : Fits t.problem
  taken_fits = parse-Fits x t.problem t.accepted

  pub taken_size : length tb ≡ 4096
  taken_size = ap length t.bytes ∙ layout-length t.problem taken_fits

  valid : Valid tb
  valid = record { text = x; problem = t.problem; accepted = t.accepted; bytes = sym t.bytes }

  pub taken_lawful : Lawful tb
  taken_lawful = Valid-Lawful tb valid

  pub taken_valid : is_valid tb ≡ true
  taken_valid = T-true (is_valid tb) (valid_to tb valid)

  same : problem_in tb ≡ t.problem
  same = ap problem_in t.bytes ∙ problem_back t.problem taken_fits

  -- what a walk's outcome has printed
  pub report-printed : (walk : Walk) → report (problem_in tb) (outcome (walk (problem_in tb)) (limit_of (problem_in tb).limit)) ≡ printed walk x
  unfolding printed
  report-printed walk =
      ap (λ (q : Problem). report q (outcome (walk q) (limit_of q.limit))) same
      ∙ ap {B = List ℕ} (λ (what : Parsed). elim what [ refused e line ↦ head_line (refused_at (fault_number e) line) | parsed q ↦ report q (outcome (walk q) (limit_of q.limit)) ]) (sym t.accepted)

  -- ---- an engine's answer

  abbrev limit : ℕ
  limit = limit_of (problem_in tb).limit

  bits_all : (n : ℕ) (bits : List Bool) → outcome_in tb ≡ Satisfied n bits → length bits ≡ atom_count (problem_in tb).constants (problem_in tb).arities
  unfolding outcome_in ground_of
  bits_all n bits o =
      let p = ground_of (problem_in tb) in
      ((theorems.sound_walk p (find_r p) (theorems.relevancy_sound p (ground_proper (problem_in tb) taken_lawful.fits))).satisfied limit n bits o).0

  -- the outcome of a walk that is one with the relevancy walk
  Outcome-printed : (walk : Walk) (o : Outcome) → o ≡ outcome (walk (problem_in tb)) limit → o ≡ outcome_in tb
      → (answer left : List ℕ) (v : Verdict) → v ≡ verdict_of o → left ≡ answer_of o answer → told (problem_in tb) v left ≡ printed walk x
  Outcome-printed walk o own one answer left v r l =
      rw (r, l)
      (told-Outcome (problem_in tb) o answer (λ n bits e. bits_all n bits (sym one ∙ e)) ∙ ap (report (problem_in tb)) own ∙ report-printed walk)

  whole : take 4096 tb ≡ tb
  whole = take_all 4096 tb (omega (arith, taken_size))

  pub fit_printed : (answer work left : List ℕ) (v : Verdict) → 1024 ≤ length answer → 65536 ≤ length work
      → v ≡ fit_result tb answer work → left ≡ fit_answer tb answer work → told (problem_in tb) v left ≡ printed relevancy x
  unfolding fit_result fit_answer outcome_in relevancy
  fit_printed answer work left v a w r l =
      let long = long_enough tb answer work (omega (arith, taken_size)) a w in
      Outcome-printed relevancy (outcome_in tb) refl refl answer left v (r ∙ rw (long, whole, taken_valid)) (l ∙ rw (long, whole, taken_valid))

  -- the walk by the rules written is the magic walk of the table's problem
  magic_own : (rules : List ℕ) → magic_outcome tb rules ≡ outcome (magic (problem_in tb)) limit
  unfolding rules_outcome
  magic_own rules =
      ap (λ (f : List ℕ → Found Instance). outcome f limit) (find_by_lem (problem_in tb) taken_lawful.fits (drop (length (rules_layout (problem_in tb))) rules))

  magic_one : (rules : List ℕ) → magic_outcome tb rules ≡ outcome_in tb
  unfolding magic outcome_in
  magic_one rules = magic_own rules ∙ (theorems.one_trail instance_key (ground_of (problem_in tb)) limit).outcomes

  pub magic-printed : (rules answer work left : List ℕ) (v : Verdict) → 16384 ≤ length rules → 1024 ≤ length answer → 65536 ≤ length work
      → v ≡ magic_result tb rules answer work → left ≡ magic_answer tb rules answer work → told (problem_in tb) v left ≡ printed magic x
  unfolding magic_result magic_answer
  magic-printed rules answer work left v b a w r l =
      let long = all-long tb rules answer work (omega (arith, taken_size)) b a w in
      let part : List ℕ = take 16384 rules in
      Outcome-printed magic (magic_outcome tb part) (magic_own part) (magic_one part) answer left v (r ∙ rw (long, whole, taken_valid)) (l ∙ rw (long, whole, taken_valid))

-- ---- what was printed from the start of a buffer

-- so many bytes, and the rest as it was
abbrev Out : List ℕ → List ℕ → ℕ → List ℕ → Type 0
Out e bs r x = (r ≡ length bs) × (x ≡ bs ++ drop r e)

pub Put-Out : {e x bs cs : List ℕ} {m r : ℕ} → Put e 0 bs m r x → bs ≡ cs → Out e cs r x
Put-Out {e} {x} {bs} p same = let n = put_count p in (rw same at n, put_front p ∙ ap₂ (λ (k : ℕ) (front : List ℕ). front ++ drop k e) (sym n) same)

module _ (walk : Walk) (text e : List ℕ) {x : List ℕ} {r : ℕ} (p : Out e (printed walk text) r x) where
  pub printed_within : r ≤ length x
  printed_within = omega (arith, p.0, ap length p.1, length-append (printed walk text) (drop r e))

  pub printed_size : r ≡ length (take r x)
  printed_size = sym (length-take-le r x printed_within)
