-- The ways out of the calls with a session, and a first run's other statements.
use Prim.Native.Nat.{ℕ, ◌<◌}
use mathlib.Core.Bool.{Bool, true, false, ◌||◌}
use mathlib.Core.List.{List}
use mathlib.Core.Path.{◌≡◌, refl, sym, ap, ◌∙◌}
use lib.Dec.{ltb}
use lib.ListN.{length, take, replicate}
use Rattle.search.specs.Relevancy.{find_r}
use Rattle.search.specs.Session.{Called, declined}
use Rattle.problem.specs.Problem.{limit_of}
use Rattle.problem.specs.Layout.{problem_in}
use Rattle.problem.specs.Table.{is_valid}
use Rattle.writing.specs.terms.Lent.{refusal_of}
use Rattle.ground.specs.declared.verdict.Verdict.TheVariants.{Refused}
use Rattle.ground.specs.Verdict.{verdict_of, answer_of}
use Rattle.ground.specs.Instance.{ground_in}
use Rattle.session.specs.declared.record.Session.{Session as Record}
use Rattle.session.specs.Calls.{deepest_told, called_in, begun_by, verdict_told, answer_left, work_left}
use Rattle.session.proofs.CallLaws.{screened-short, screened_invalid, screened_through, screened_first, declined_by, deepest_first}
use Rattle.relevancy.specs.Engine.{outcome_in, too_short, fit_result, fit_deepest, fit_answer, fit_work}
use Rattle.relevancy.specs.Sessions.{begun, resumed}
use Rattle.relevancy.proofs.EngineLaws.{refused_by, Fitted, fit_short, fit_invalid, fit_runs}

module _ (tb answer work : List ℕ) where
  abbrev own : List ℕ
  own = take 4096 tb

  abbrev run : Called
  run = begun_by (find_r (ground_in own)) (limit_of (problem_in own).limit)

  -- ---- a first run

  begun_short : too_short tb answer work ≡ true → begun tb answer work ≡ declined 11
  unfolding begun
  begun_short e = screened-short (too_short tb answer work) (is_valid own) run e

  begun_invalid : too_short tb answer work ≡ false → is_valid (take 4096 tb) ≡ false → begun tb answer work ≡ declined 31
  unfolding begun
  begun_invalid e v = screened_invalid (too_short tb answer work) (is_valid own) run e v

  pub begun_runs : too_short tb answer work ≡ false → is_valid (take 4096 tb) ≡ true
      → begun tb answer work ≡ begun_by (find_r (ground_in (take 4096 tb))) (limit_of (problem_in (take 4096 tb)).limit)
  unfolding begun
  begun_runs e v = screened_through (too_short tb answer work) (is_valid own) run e v

  pub begun_refused : (e : ℕ) → e ≡ refusal_of tb (ltb (length answer) 1024 || ltb (length work) 65536) → 0 < e → begun tb answer work ≡ declined e
  unfolding begun
  begun_refused e is l = sym (refused_by tb answer work e is {A = Called} (λ x. declined x) run l)

  -- its other statements are those of a run without a session
  pub begun_same : (verdict_told (begun tb answer work) ≡ fit_result tb answer work) × (answer_left (begun tb answer work) answer ≡ fit_answer tb answer work)
      × (work_left (begun tb answer work) work ≡ fit_work tb answer work)
  unfolding outcome_in
  begun_same = go (too_short tb answer work) (is_valid own) refl refl
    where
      Says : Called → Type 0
      Says c = Fitted tb answer work (verdict_told c) (answer_left c answer) (work_left c work)

      as_called : (c : Called) → begun tb answer work ≡ c → Says c → Says (begun tb answer work)
      as_called c e h =
          (ap verdict_told e ∙ h.0, ap (λ (x : Called). answer_left x answer) e ∙ h.1, ap (λ (x : Called). work_left x work) e ∙ h.2)

      go : (s v : Bool) → too_short tb answer work ≡ s → is_valid own ≡ v → Says (begun tb answer work)
      go true v e u = as_called (declined 11) (begun_short e) (fit_short tb answer work e)
      go false false e u = as_called (declined 31) (begun_invalid e u) (fit_invalid tb answer work e u)
      go false true e u =
          as_called run (begun_runs e u) (fit_runs tb answer work e u (verdict_of (outcome_in own)) (answer_of (outcome_in own) answer) (replicate 65536 0) refl refl refl)

  -- the figure that a first run tells
  pub begun_shows : deepest_told (begun tb answer work) ≡ fit_deepest tb answer work
  unfolding begun fit_deepest
  begun_shows = deepest_first (find_r (ground_in own)) (limit_of (problem_in own).limit) (too_short tb answer work) (is_valid own)

  -- ---- going on

  module _ (r : Record) (further : ℕ) where
    abbrev on : Called
    on = called_in (find_r (ground_in own)) (ground_in own).atoms r further

    pub resumed_refused : (e : ℕ) → e ≡ refusal_of tb (ltb (length answer) 1024 || ltb (length work) 65536) → 0 < e → resumed r further tb answer work ≡ declined e
    unfolding resumed
    resumed_refused e is l = sym (refused_by tb answer work e is {A = Called} (λ x. declined x) on l)

    pub resumed_runs : too_short tb answer work ≡ false → is_valid (take 4096 tb) ≡ true
        → resumed r further tb answer work ≡ called_in (find_r (ground_in (take 4096 tb))) (ground_in (take 4096 tb)).atoms r further
    unfolding resumed
    resumed_runs e v = screened_through (too_short tb answer work) (is_valid own) on e v

    -- what refuses a run without a session refuses it first
    pub resumed_first : (e : ℕ) → fit_result tb answer work ≡ Refused e → resumed r further tb answer work ≡ declined e
    unfolding begun resumed
    resumed_first e f =
        screened_first (find_r (ground_in own)) (limit_of (problem_in own).limit) (too_short tb answer work) (is_valid own) on e
        (declined_by (begun tb answer work) e (begun_same.0 ∙ f))
