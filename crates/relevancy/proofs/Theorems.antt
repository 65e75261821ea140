-- The claims of `specs/Claims.antt`, proved.
use Prim.Native.Nat.{ℕ, ◌≤◌, ◌<◌}
use mathlib.Core.Bool.{Bool, true, false}
use mathlib.Core.List.{List}
use mathlib.Core.Logic.{◌⊎◌, inl, inr}
use mathlib.Core.Path.{◌≡◌, refl, sym, subst}
use lib.Dec.{T}
use lib.ListN.{length, take}
use Rattle.lists.proofs.Test.{T-true, lt_or_le}
use Rattle.search.specs.Relevancy.{find_r}
use Rattle.search.specs.Machine.{outcome}
use Rattle.search.specs.Session.{first_session, declined, told}
use Rattle.search.proofs.Theorems.{theorems as walks}
use Rattle.problem.specs.Layout.{problem_in}
use Rattle.problem.specs.Table.{is_valid}
use Rattle.problem.proofs.Theorems.{theorems as tables}
use Rattle.ground.specs.declared.verdict.Verdict.TheVariants.{Refused}
use Rattle.ground.specs.Verdict.{verdict_of, answer_of}
use Rattle.ground.proofs.Instances.{ground_proper}
use Rattle.judging.specs.Demand2.{ground_lent, limit_lent, Demand2}
use Rattle.judging.proofs.Theorems.{theorems as judgings}
use Rattle.session.specs.declared.record.Session.{Session as Record}
use Rattle.relevancy.specs.Engine.{outcome_in, fit_result, fit_answer}
use Rattle.relevancy.specs.Sessions.{begun, resumed}
use Rattle.relevancy.specs.Claims.{Taken, Theorems}
use Rattle.relevancy.proofs.EngineLaws.{short_table, short_answer, short_work, long_enough, fit_short, fit_invalid}
use Rattle.relevancy.proofs.SessionLaws.{begun_runs, begun_same, begun_shows, resumed_first}

-- ---- a call that is taken

module _ (tb answer work : List ℕ) (taken : Taken tb answer work) where
  abbrev t : List ℕ
  t = take 4096 tb

  good : is_valid t ≡ true
  good = T-true (is_valid t) ((tables.valid t).1 taken.valid)

  -- its verdict and its answer are those of the table's walk
  pub verdict_is : fit_result tb answer work ≡ verdict_of (outcome (find_r (ground_lent tb)) (limit_lent tb))
  unfolding fit_result outcome_in
  verdict_is = rw (long_enough tb answer work taken.table_long taken.answer_long taken.work_long, good)

  pub answer_is : fit_answer tb answer work ≡ answer_of (outcome (find_r (ground_lent tb)) (limit_lent tb)) answer
  unfolding fit_answer outcome_in
  answer_is = rw (long_enough tb answer work taken.table_long taken.answer_long taken.work_long, good)

  demand_2 : Demand2 (find_r (ground_lent tb)) (ground_lent tb) (limit_lent tb) tb (fit_result tb answer work) (fit_answer tb answer work)
  demand_2 =
      let sound = walks.relevancy_sound (ground_lent tb) (ground_proper (problem_in t) (tables.lawful t taken.valid).fits) in
      rw (verdict_is, answer_is)
      (judgings.demand_2 (find_r (ground_lent tb)) (limit_lent tb) tb answer taken.table_long taken.answer_long taken.valid sound)

  -- with a session it tells the same, and leaves that walk's
  begun_told : begun tb answer work ≡ told (outcome (find_r (ground_lent tb)) (limit_lent tb)) (first_session (find_r (ground_lent tb)) (limit_lent tb))
  begun_told = begun_runs tb answer work (long_enough tb answer work taken.table_long taken.answer_long taken.work_long) good

-- ---- every other call

taken_or_refused : (tb answer work : List ℕ) → Taken tb answer work ⊎ (fit_result tb answer work ≡ Refused 11) ⊎ (fit_result tb answer work ≡ Refused 31)
taken_or_refused tb answer work = go (lt_or_le (length tb) 4096) (lt_or_le (length answer) 1024) (lt_or_le (length work) 65536)
  where
    Either : Type 0
    Either = Taken tb answer work ⊎ (fit_result tb answer work ≡ Refused 11) ⊎ (fit_result tb answer work ≡ Refused 31)

    by_table : 4096 ≤ length tb → 1024 ≤ length answer → 65536 ≤ length work → (v : Bool) → is_valid (take 4096 tb) ≡ v → Either
    by_table h l m true e = inl (record { table_long = h; answer_long = l; work_long = m; valid = (tables.valid (take 4096 tb)).0 (subst T (sym e) tt) })
    by_table h l m false e = inr (inr (sym (fit_invalid tb answer work (long_enough tb answer work h l m) e).0))

    go : (length tb < 4096) ⊎ (4096 ≤ length tb) → (length answer < 1024) ⊎ (1024 ≤ length answer) → (length work < 65536) ⊎ (65536 ≤ length work) → Either
    go (inl h) b c = inr (inl (sym (fit_short tb answer work (short_table tb answer work h)).0))
    go (inr h) (inl l) c = inr (inl (sym (fit_short tb answer work (short_answer tb answer work h l)).0))
    go (inr h) (inr l) (inl m) = inr (inl (sym (fit_short tb answer work (short_work tb answer work h l m)).0))
    go (inr h) (inr l) (inr m) = by_table h l m (is_valid (take 4096 tb)) refl

module _ (r : Record) (further : ℕ) (tb answer work : List ℕ) where
  first : (e : ℕ) → fit_result tb answer work ≡ Refused e → resumed r further tb answer work ≡ declined e
  first e f = resumed_first tb answer work r further e f

  resumed_or_refused : Taken tb answer work ⊎ (resumed r further tb answer work ≡ declined 11) ⊎ (resumed r further tb answer work ≡ declined 31)
  resumed_or_refused = go (taken_or_refused tb answer work)
    where
      go : Taken tb answer work ⊎ (fit_result tb answer work ≡ Refused 11) ⊎ (fit_result tb answer work ≡ Refused 31)
          → Taken tb answer work ⊎ (resumed r further tb answer work ≡ declined 11) ⊎ (resumed r further tb answer work ≡ declined 31)
      go (inl t) = inl t
      go (inr (inl f)) = inr (inl (first 11 f))
      go (inr (inr f)) = inr (inr (first 31 f))

pub theorems : Theorems
theorems =
    record {
      demand_2 = demand_2;
      taken_or_refused = taken_or_refused;
      begun_same = begun_same;
      begun_shows = begun_shows;
      begun_told = begun_told;
      resumed_or_refused = resumed_or_refused;
      resumed_first = first;
    }
