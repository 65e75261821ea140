-- The ways out of the calls with a session, and a first run's other statements.
use Prim.Native.Nat.{ℕ, ◌<◌}
use mathlib.Core.Bool.{Bool, true, false, ◌||◌}
use mathlib.Core.List.{List}
use mathlib.Core.Path.{◌≡◌, refl, sym, ap, ◌∙◌}
use lib.Dec.{ltb}
use lib.ListN.{length, take, replicate}
use Rattle.search.specs.Session.{Called, declined}
use Rattle.problem.specs.Problem.{limit_of}
use Rattle.problem.specs.Layout.{problem_in}
use Rattle.problem.specs.Table.{is_valid}
use Rattle.writing.specs.terms.Lent.{refusal_of}
use Rattle.ground.specs.declared.verdict.Verdict.TheVariants.{Refused}
use Rattle.ground.specs.Instance.{ground_in}
use Rattle.ground.specs.Verdict.{verdict_of, answer_of}
use Rattle.rewriting.specs.Facts.{find_in}
use Rattle.rewriting.specs.Rewrite.{rules_over}
use Rattle.session.specs.declared.record.Session.{Session as Record}
use Rattle.session.specs.Calls.{deepest_told, called_in, begun_by, verdict_told, answer_left, work_left}
use Rattle.session.proofs.CallLaws.{screened-short, screened_invalid, screened_through, screened_first, declined_by, deepest_first}
use Rattle.magic.specs.Engine.{rules_outcome, magic_too_short, magic_outcome, magic_result, magic_deepest, magic_rules, magic_answer, magic_work}
use Rattle.magic.specs.Sessions.{magic_begun, magic_resumed, rules_left}
use Rattle.magic.proofs.EngineLaws.{refused_by, Fitted, fit_short, fit_invalid, fit_runs}

module _ (tb rules answer work : List ℕ) where
  abbrev own : List ℕ
  own = take 4096 tb

  -- the rules walked by
  abbrev bs : List ℕ
  bs = rules_over own (take 16384 rules)

  abbrev run : Called
  run = begun_by (find_in bs) (limit_of (problem_in own).limit)

  -- ---- a first run

  begun_short : magic_too_short tb rules answer work ≡ true → magic_begun tb rules answer work ≡ declined 11
  unfolding magic_begun
  begun_short e = screened-short (magic_too_short tb rules answer work) (is_valid own) run e

  begun_invalid : magic_too_short tb rules answer work ≡ false → is_valid (take 4096 tb) ≡ false → magic_begun tb rules answer work ≡ declined 31
  unfolding magic_begun
  begun_invalid e v = screened_invalid (magic_too_short tb rules answer work) (is_valid own) run e v

  pub begun_runs : magic_too_short tb rules answer work ≡ false → is_valid (take 4096 tb) ≡ true
      → magic_begun tb rules answer work ≡ begun_by (find_in (rules_over (take 4096 tb) (take 16384 rules))) (limit_of (problem_in (take 4096 tb)).limit)
  unfolding magic_begun
  begun_runs e v = screened_through (magic_too_short tb rules answer work) (is_valid own) run e v

  pub begun_refused : (e : ℕ) → e ≡ refusal_of tb (ltb (length rules) 16384 || ltb (length answer) 1024 || ltb (length work) 65536) → 0 < e → magic_begun tb rules answer work ≡ declined e
  unfolding magic_begun
  begun_refused e is l = sym (refused_by tb rules answer work e is {A = Called} (λ x. declined x) run l)

  -- its other statements are those of a run without a session
  pub begun_same : (verdict_told (magic_begun tb rules answer work) ≡ magic_result tb rules answer work)
      × (rules_left (magic_begun tb rules answer work) tb rules ≡ magic_rules tb rules answer work)
      × (answer_left (magic_begun tb rules answer work) answer ≡ magic_answer tb rules answer work)
      × (work_left (magic_begun tb rules answer work) work ≡ magic_work tb rules answer work)
  unfolding rules_outcome
  begun_same = go (magic_too_short tb rules answer work) (is_valid own) refl refl
    where
      Says : Called → Type 0
      Says c = Fitted tb rules answer work (verdict_told c) (rules_left c tb rules) (answer_left c answer) (work_left c work)

      as_called : (c : Called) → magic_begun tb rules answer work ≡ c → Says c → Says (magic_begun tb rules answer work)
      as_called c e h = (
        ap verdict_told e ∙ h.0,
        ap (λ (x : Called). rules_left x tb rules) e ∙ h.1,
        ap (λ (x : Called). answer_left x answer) e ∙ h.2,
        ap (λ (x : Called). work_left x work) e ∙ h.3,
      )

      go : (s v : Bool) → magic_too_short tb rules answer work ≡ s → is_valid own ≡ v → Says (magic_begun tb rules answer work)
      go true v e u = as_called (declined 11) (begun_short e) (fit_short tb rules answer work e)
      go false false e u = as_called (declined 31) (begun_invalid e u) (fit_invalid tb rules answer work e u)
      go false true e u =
          as_called run (begun_runs e u)
          (fit_runs tb rules answer work e u (verdict_of (magic_outcome own (take 16384 rules))) bs (answer_of (magic_outcome own (take 16384 rules)) answer) (replicate 65536 0) refl refl refl refl)

  -- the figure that a first run tells
  pub begun_shows : deepest_told (magic_begun tb rules answer work) ≡ magic_deepest tb rules answer work
  unfolding magic_begun magic_deepest
  begun_shows = deepest_first (find_in bs) (limit_of (problem_in own).limit) (magic_too_short tb rules answer work) (is_valid own)

  -- ---- going on

  module _ (r : Record) (further : ℕ) where
    abbrev on : Called
    on = called_in (find_in bs) (ground_in own).atoms r further

    pub resumed_refused : (e : ℕ) → e ≡ refusal_of tb (ltb (length rules) 16384 || ltb (length answer) 1024 || ltb (length work) 65536) → 0 < e → magic_resumed r further tb rules answer work ≡ declined e
    unfolding magic_resumed
    resumed_refused e is l = sym (refused_by tb rules answer work e is {A = Called} (λ x. declined x) on l)

    pub resumed_runs : magic_too_short tb rules answer work ≡ false → is_valid (take 4096 tb) ≡ true
        → magic_resumed r further tb rules answer work ≡ called_in (find_in (rules_over (take 4096 tb) (take 16384 rules))) (ground_in (take 4096 tb)).atoms r further
    unfolding magic_resumed
    resumed_runs e v = screened_through (magic_too_short tb rules answer work) (is_valid own) on e v

    -- what refuses a run without a session refuses it first
    pub resumed_first : (e : ℕ) → magic_result tb rules answer work ≡ Refused e → magic_resumed r further tb rules answer work ≡ declined e
    unfolding magic_begun magic_resumed
    resumed_first e f =
        screened_first (find_in bs) (limit_of (problem_in own).limit) (magic_too_short tb rules answer work) (is_valid own) on e
        (declined_by (magic_begun tb rules answer work) e (begun_same.0 ∙ f))
