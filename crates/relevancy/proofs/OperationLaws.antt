-- What is claimed of the operations, by each way out.
use Prim.Native.Nat.{ℕ, ◌<◌}
use mathlib.Core.Bool.{◌||◌}
use mathlib.Core.List.{List, ◌++◌}
use mathlib.Core.Path.{◌≡◌, ◌∙◌}
use lib.Dec.{ltb}
use lib.ListN.{length, take, drop, replicate}
use Rattle.search.specs.Relevancy.{find_r}
use Rattle.search.specs.Session.{first_session}
use Rattle.problem.specs.Problem.{limit_of}
use Rattle.problem.specs.Layout.{problem_in}
use Rattle.writing.specs.terms.Lent.{refusal_of}
use Rattle.ground.specs.declared.verdict.Verdict.TheVariants.{Refused}
use Rattle.ground.specs.Verdict.{verdict_of, answer_of}
use Rattle.ground.specs.Instance.{ground_in}
use Rattle.session.specs.declared.record.Session.{Session as Record}
use Rattle.session.specs.declared.record.Moved.{Moved}
use Rattle.session.specs.Record.{laid}
use Rattle.session.specs.Calls.{called_in, record_left}
use Rattle.session.proofs.CallLaws.{CallLeft, left_told}
use Rattle.session.proofs.EndLaws.{left_refused, left-Called, left_back}
use Rattle.relevancy.specs.Engine.{outcome_in, fit_result, fit_answer, fit_work}
use Rattle.relevancy.specs.Sessions.{begun, resumed}
use Rattle.relevancy.proofs.EngineLaws.{AllTaken, long_enough}
use Rattle.relevancy.proofs.SessionLaws.{begun_refused, begun_runs, begun_same, resumed_refused, resumed_runs}

module _ (tb answer work : List ℕ) (r : Record) where
  abbrev own : List ℕ
  own = take 4096 tb

  -- ---- a first run

  abbrev pub Begins : Moved → List ℕ → List ℕ → Type 0
  Begins m left rest =
      (m.verdict ≡ fit_result tb answer work) × (m.session ≡ record_left (begun tb answer work) r) × (left ≡ fit_answer tb answer work) × (rest ≡ fit_work tb answer work)

  as_fitted : (m : Moved) (left rest : List ℕ) → CallLeft (begun tb answer work) r answer work m.verdict m.session left rest → Begins m left rest
  as_fitted m left rest h = (h.0 ∙ (begun_same tb answer work).0, h.1, h.2 ∙ (begun_same tb answer work).1, h.3 ∙ (begun_same tb answer work).2)

  pub begin_refused : (e : ℕ) → e ≡ refusal_of tb (ltb (length answer) 1024 || ltb (length work) 65536) → 0 < e → (m : Moved) → (m.verdict ≡ Refused e) × (m.session ≡ r)
      → Begins m answer work
  begin_refused e lent l m is = as_fitted m answer work (left_refused (begun tb answer work) r answer work e (begun_refused tb answer work e lent l) m is)

  pub begin_runs : AllTaken tb answer work → (m : Moved) (left part : List ℕ)
      → (m.verdict ≡ verdict_of (outcome_in (take 4096 tb))) × (m.session ≡ laid (first_session (find_r (ground_in (take 4096 tb))) (limit_of (problem_in (take 4096 tb)).limit)))
      × (left ≡ answer_of (outcome_in (take 4096 tb)) answer) × (part ≡ replicate 65536 0)
      → Begins m left (part ++ drop 65536 work)
  unfolding outcome_in
  begin_runs t m left part is =
      as_fitted m left (part ++ drop 65536 work)
      (left_told (begun tb answer work) r answer work (outcome_in own) (first_session (find_r (ground_in own)) (limit_of (problem_in own).limit)) (begun_runs tb answer work (long_enough tb answer work t.table_long t.answer_long t.work_long) t.valid) m.verdict m.session left part
      is.0 is.1 is.2 is.3)

  -- ---- going on

  module _ (further : ℕ) where
    abbrev pub Resumes : Moved → List ℕ → List ℕ → Type 0
    Resumes m left rest = CallLeft (resumed r further tb answer work) r answer work m.verdict m.session left rest

    pub resume_refused : (e : ℕ) → e ≡ refusal_of tb (ltb (length answer) 1024 || ltb (length work) 65536) → 0 < e → (m : Moved) → (m.verdict ≡ Refused e) × (m.session ≡ r)
        → Resumes m answer work
    resume_refused e lent l = left_refused (resumed r further tb answer work) r answer work e (resumed_refused tb answer work r further e lent l)

    -- the run goes on in the first part of the work buffer
    pub resume_runs : AllTaken tb answer work → (m : Moved) (left part : List ℕ)
        → CallLeft (called_in (find_r (ground_in (take 4096 tb))) (ground_in (take 4096 tb)).atoms r further) r answer (take 65536 work) m.verdict m.session left part
        → Resumes m left (part ++ drop 65536 work)
    resume_runs t m left part h =
        left-Called (resumed r further tb answer work) (called_in (find_r (ground_in own)) (ground_in own).atoms r further) (resumed_runs tb answer work r further (long_enough tb answer work t.table_long t.answer_long t.work_long) t.valid) r answer work m.verdict m.session left (part ++ drop 65536 work)
        (left_back (called_in (find_r (ground_in own)) (ground_in own).atoms r further) r answer work t.work_long m.verdict m.session left part h)
