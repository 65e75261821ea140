-- The ways out of the operation, and what is told of its walk.
use Prim.Native.Nat.{ℕ, ◌+◌, ◌<◌}
use mathlib.Core.Bool.{Bool, true, false, cond, ◌||◌}
use mathlib.Core.List.{List, ◌++◌}
use mathlib.Core.Path.{◌≡◌, refl, ◌∙◌}
use lib.Dec.{ltb}
use lib.ListN.{length, take, drop, replicate}
use Rattle.lists.specs.Bytes.{is_set}
use Rattle.search.specs.Relevancy.{model_bits}
use Rattle.search.specs.Machine.{Outcome}
use Rattle.problem.specs.Problem.{limit_of}
use Rattle.problem.specs.Layout.{problem_in}
use Rattle.problem.specs.Table.{is_valid}
use Rattle.writing.specs.terms.Lent.{refusal_of}
use Rattle.ground.specs.declared.verdict.Verdict.{Verdict}
use Rattle.ground.specs.declared.verdict.Verdict.TheVariants.{Refused}
use Rattle.ground.specs.Verdict.{verdict_of, answer_of}
use Rattle.walk.specs.terms.Walker.{from_root}
use Rattle.walk.specs.terms.Path.{deepest_at}
use Rattle.walk.specs.terms.Walk.{Walks}
use Rattle.walk.specs.declared.answer.Walked.{Walked}
use Rattle.session.specs.terms.End.{answer_by, verdict_by}
use Rattle.session.proofs.EndLaws.{first_replied}
use Rattle.relevancy.specs.Engine.{outcome_in, too_short, fit_work}
use Rattle.relevancy.proofs.EngineLaws.{AllTaken, never_declined, refused_by}
use Rattle.relevancy.proofs.EngineLaws as relevancy
use Rattle.staged_walk.specs.terms.Place.{staged_walker}
use Rattle.staged_walk.specs.TiedLaws.{tied}
use Rattle.staged.specs.Engine.{staged_outcome, staged_result, staged_answer}

-- ---- the ways out of the operation

-- a run by either of two walks is refused alike
pub refused_either : (short valid : Bool) (o u : Outcome) (e : ℕ)
    → ◌≡◌ {A = Verdict} (cond short (Refused 11) (cond valid (verdict_of o) (Refused 31))) (Refused e)
    → ◌≡◌ {A = Verdict} (cond short (Refused 11) (cond valid (verdict_of u) (Refused 31))) (Refused e)
refused_either true valid o u e h = h
refused_either false true o u e h = absurd (never_declined o e h)
refused_either false false o u e h = h

module _ (tb answer work : List ℕ) where
  -- what the operation says and leaves
  abbrev pub Fitted : Verdict → List ℕ → List ℕ → Type 0
  Fitted r left rest = (r ≡ staged_result tb answer work) × (left ≡ staged_answer tb answer work) × (rest ≡ fit_work tb answer work)

  pub fit_refused : (e : ℕ) → e ≡ refusal_of tb (ltb (length answer) 1024 || ltb (length work) 65536) → 0 < e → Fitted (Refused e) answer work
  unfolding staged_result staged_answer
  fit_refused e is l = (
    refused_by tb answer work e is {A = Verdict} (λ x. Refused x) (verdict_of (staged_outcome (take 4096 tb))) l,
    refused_by tb answer work e is {A = List ℕ} (λ x. answer) (answer_of (staged_outcome (take 4096 tb)) answer) l,
    (relevancy.fit_refused tb answer work e is l).3,
  )

  pub fit_runs : AllTaken tb answer work → (r : Verdict) (left part : List ℕ)
      → (r ≡ verdict_of (staged_outcome (take 4096 tb))) × (left ≡ answer_of (staged_outcome (take 4096 tb)) answer) × (part ≡ replicate 65536 0)
      → Fitted r left (part ++ drop 65536 work)
  unfolding staged_result staged_answer
  fit_runs t r left part is =
      let e : too_short tb answer work ≡ false = relevancy.long_enough tb answer work t.table_long t.answer_long t.work_long in
      let v : is_valid (take 4096 tb) ≡ true = t.valid in
      let o = outcome_in (take 4096 tb) in
      (is.0 ∙ rw (e, v), is.1 ∙ rw (e, v), (relevancy.fit_runs tb answer work e v (verdict_of o) (answer_of o answer) part refl refl is.2).2)

-- ---- the end of a run under the table's own limit

pub run_told : (tb : List ℕ) (limit : ℕ) → limit ≡ limit_of (problem_in tb).limit → (y : Walked) (facts path answer : List ℕ) → Walks (staged_walker tb) (from_root (staged_walker tb) 0 limit) y facts path
    → (r : Verdict) → r ≡ verdict_by y limit → (left : List ℕ) (k : ℕ) → k ≡ (staged_walker tb).atoms
    → left ≡ answer_by y (model_bits k (is_set facts) (λ a. is_set facts (1025 + a))) answer
    → (r ≡ verdict_of (staged_outcome tb)) × (left ≡ answer_of (staged_outcome tb) answer)
unfolding staged_outcome
run_told tb limit e y facts path answer walks r verdict_is left k atoms_are answer_is =
    let told = first_replied (staged_walker tb) (tied tb) limit (limit_of (problem_in tb).limit) e y facts path answer walks
    (record { verdict = r; deepest = deepest_at path }) verdict_is refl left k atoms_are answer_is in
    (told.verdict_is, told.answer_is)
