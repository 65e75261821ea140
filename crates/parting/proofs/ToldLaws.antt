-- What a call tells: of one that is taken the runs' word, sum and bits; of one that is refused nothing. And each run is the engine's own.
use Prim.Native.Nat.{ℕ}
use mathlib.Core.Bool.{Bool, true, false, cond}
use mathlib.Core.List.{List}
use mathlib.Core.Logic.{◌↔◌}
use mathlib.Core.Path.{◌≡◌, refl, sym, ap, subst, ◌∙◌}
use native.Mathlib.Omega.{arith}
use lib.ListN.{take}
use Rattle.lists.specs.Member.{every}
use Rattle.lists.proofs.Test.{T-true}
use Rattle.search.specs.Machine.{Outcome}
use Rattle.problem.specs.Problem.{Problem}
use Rattle.problem.specs.Layout.{problem_in}
use Rattle.problem.specs.Table.{Valid, is_valid}
use Rattle.problem.proofs.Theorems.{theorems as tables}
use Rattle.ground.specs.declared.verdict.Verdict.{Verdict}
use Rattle.ground.specs.declared.verdict.Verdict.TheVariants as verdict
use Rattle.ground.specs.Verdict.{verdict_of, answer_of, verdict_numbers}
use Rattle.relevancy.specs.Engine.{outcome_in, too_short, fit_result, fit_answer}
use Rattle.relevancy.specs.Claims.{Taken}
use Rattle.relevancy.proofs.EngineLaws as relevancy
use Rattle.relevancy.proofs.Theorems.{verdict_is, answer_is}
use Rattle.magic.specs.Engine.{magic_too_short, magic_outcome, magic_result, magic_answer}
use Rattle.magic.specs.Claims.{MagicTaken}
use Rattle.magic.proofs.EngineLaws as magic
use Rattle.parting.specs.declared.parts.Parting.{Parting}
use Rattle.parting.specs.declared.parts.Parting.TheVariants as parting
use Rattle.parting.specs.Runs.{run_by, runs_of, said_by, sum_of, joined_bits, answer_by, parting_numbers, parts_result, parts_count, parts_answer}
use Rattle.parting.specs.Listed.{Counted, RunByEngines, CallTells, RefusalKeeps}
use Rattle.parting.proofs.TallyLaws.{not_refuted, not_exhausted}
use Rattle.parting.proofs.TurnLaws.{magic_run}
use Rattle.parting.proofs.ClaimSaidLaws.{said_as}
use Rattle.parting.proofs.CountedLaws.{counted}

-- the runs refuse nothing
never_refused : (b d : Bool) (e : ℕ) → said_as b d ≡ parting.Refused e → ⊥
never_refused true true e h = let z : ◌≡◌ {A = ℕ} 0 1 = cc in omega arith
never_refused true false e h = let z : ◌≡◌ {A = ℕ} 0 1 = cc in omega arith
never_refused false d e h = let z : ◌≡◌ {A = ℕ} 0 1 = cc in omega arith

-- what they leave where not all fit
answer_kept : (b d : Bool) (bits : List Bool) (answer : List ℕ) → (said_as b d ≡ parting.Satisfied → ⊥) → answer_by (said_as b d) bits answer ≡ answer
answer_kept true true bits answer h = absurd (h refl)
answer_kept true false bits answer h = refl
answer_kept false d bits answer h = refl

-- ---- a call that is taken

module _ (by short : Bool) (tb : List ℕ) (fine : short ≡ false) (valid : Valid (take 4096 tb)) where
  abbrev q : Problem
  q = problem_in (take 4096 tb)

  abbrev runs : List Outcome
  runs = runs_of by q

  good : is_valid (take 4096 tb) ≡ true
  good = T-true (is_valid (take 4096 tb)) ((tables.valid (take 4096 tb)).1 valid)

  result_is : parts_result by short tb ≡ said_by (runs_of by (problem_in (take 4096 tb)))
  unfolding parts_result
  result_is = rw (fine, good)

  count_is : (count : ℕ) → parts_count by short tb count ≡ sum_of (runs_of by (problem_in (take 4096 tb)))
  unfolding parts_count
  count_is count = rw (fine, good)

  left_is : (answer : List ℕ) → parts_answer by short tb answer ≡ answer_by (said_by (runs_of by (problem_in (take 4096 tb)))) (joined_bits by (problem_in (take 4096 tb))) answer
  unfolding parts_answer
  left_is answer = rw (fine, good)

  call_tells : (count : ℕ) (answer : List ℕ)
      → CallTells by (problem_in (take 4096 tb)) (parts_result by short tb) (parts_count by short tb count) answer (parts_answer by short tb answer)
  call_tells count answer =
      record {
        said = result_is;
        counted = subst (Counted by q) (sym (count_is count)) (counted by q);
        given = λ e. left_is answer ∙ ap (λ (r : Parting). answer_by r (joined_bits by q) answer) (sym result_is ∙ e);
        untouched = λ h. left_is answer ∙ answer_kept (every not_refuted runs) (every not_exhausted runs) (joined_bits by q) answer (λ e. h (result_is ∙ e));
      }

pub relevancy_tells : (tb answer work : List ℕ) → Taken tb answer work → (count : ℕ)
    → CallTells false (problem_in (take 4096 tb)) (parts_result false (too_short tb answer work) tb) (parts_count false (too_short tb answer work) tb count) answer
    (parts_answer false (too_short tb answer work) tb answer)
relevancy_tells tb answer work t count =
    call_tells false (too_short tb answer work) tb (relevancy.long_enough tb answer work t.table_long t.answer_long t.work_long) t.valid count answer

pub magic_tells : (tb rules answer work : List ℕ) → MagicTaken tb rules answer work → (count : ℕ)
    → CallTells true (problem_in (take 4096 tb)) (parts_result true (magic_too_short tb rules answer work) tb) (parts_count true (magic_too_short tb rules answer work) tb count) answer
    (parts_answer true (magic_too_short tb rules answer work) tb answer)
magic_tells tb rules answer work t count =
    call_tells true (magic_too_short tb rules answer work) tb (magic.long_enough tb rules answer work t.table_long t.rules_long t.answer_long t.work_long) t.valid count answer

-- ---- a call that is refused

refused_keeps : (by short : Bool) (tb : List ℕ) (e : ℕ) → parts_result by short tb ≡ parting.Refused e
    → ((n : ℕ) → parts_count by short tb n ≡ n) × ((bytes : List ℕ) → parts_answer by short tb bytes ≡ bytes)
unfolding parts_result parts_count parts_answer
refused_keeps by true tb e h = (λ n. refl, λ bytes. refl)
refused_keeps by false tb e h = go (is_valid (take 4096 tb)) h
  where
    runs : List Outcome
    runs = runs_of by (problem_in (take 4096 tb))

    go : (v : Bool) → cond v (said_by (runs_of by (problem_in (take 4096 tb)))) (parting.Refused 31) ≡ parting.Refused e
        → ((n : ℕ) → cond v (sum_of (runs_of by (problem_in (take 4096 tb)))) n ≡ n)
        × ((bytes : List ℕ) → cond v (answer_by (said_by (runs_of by (problem_in (take 4096 tb)))) (joined_bits by (problem_in (take 4096 tb))) bytes) bytes ≡ bytes)
    go true u = absurd (never_refused (every not_refuted runs) (every not_exhausted runs) e u)
    go false u = (λ n. refl, λ bytes. refl)

pub refusal_keeps : (by short : Bool) (tb : List ℕ) → RefusalKeeps by short tb
refusal_keeps by short tb = record { count = λ e h. (refused_keeps by short tb e h).0; answer = λ e h. (refused_keeps by short tb e h).1 }

-- a walk refuses nothing either, so a call by parts and an engine's own run are refused alike: by a buffer too short, by a table that is not valid
alike : (short v b d : Bool) (o : Outcome) (e : ℕ)
    → (◌≡◌ {A = Parting} (cond short (parting.Refused 11) (cond v (said_as b d) (parting.Refused 31))) (parting.Refused e))
    ↔ (◌≡◌ {A = Verdict} (cond short (verdict.Refused 11) (cond v (verdict_of o) (verdict.Refused 31))) (verdict.Refused e))
alike true v b d o e = (λ s. ap verdict.Refused (ap (λ (r : Parting). (parting_numbers r).refusal) s), λ s. ap parting.Refused (ap (λ (r : Verdict). (verdict_numbers r).refusal) s))
alike false false b d o e = (λ s. ap verdict.Refused (ap (λ (r : Parting). (parting_numbers r).refusal) s), λ s. ap parting.Refused (ap (λ (r : Verdict). (verdict_numbers r).refusal) s))
alike false true b d o e = (λ s. absurd (never_refused b d e s), λ s. absurd (relevancy.never_declined o e s))

pub refused_alike : (tb answer work : List ℕ) (e : ℕ) → (parts_result false (too_short tb answer work) tb ≡ parting.Refused e) ↔ (fit_result tb answer work ≡ verdict.Refused e)
unfolding parts_result fit_result
refused_alike tb answer work e =
    let runs = runs_of false (problem_in (take 4096 tb)) in
    alike (too_short tb answer work) (is_valid (take 4096 tb)) (every not_refuted runs) (every not_exhausted runs) (outcome_in (take 4096 tb)) e

pub magic_refused_alike : (tb rules answer work : List ℕ) (e : ℕ)
    → (parts_result true (magic_too_short tb rules answer work) tb ≡ parting.Refused e) ↔ (magic_result tb rules answer work ≡ verdict.Refused e)
unfolding parts_result magic_result
magic_refused_alike tb rules answer work e =
    let runs = runs_of true (problem_in (take 4096 tb)) in
    alike (magic_too_short tb rules answer work) (is_valid (take 4096 tb)) (every not_refuted runs) (every not_exhausted runs) (magic_outcome (take 4096 tb) (take 16384 rules)) e

-- ---- a run

module _ (tb rules answer work : List ℕ) (t : MagicTaken tb rules answer work) where
  magic_good : is_valid (take 4096 tb) ≡ true
  magic_good = T-true (is_valid (take 4096 tb)) ((tables.valid (take 4096 tb)).1 t.valid)

  magic_long : magic_too_short tb rules answer work ≡ false
  magic_long = magic.long_enough tb rules answer work t.table_long t.rules_long t.answer_long t.work_long

  outcome_is : magic_outcome (take 4096 tb) (take 16384 rules) ≡ run_by true (problem_in (take 4096 tb))
  outcome_is = magic_run (take 4096 tb) (tables.lawful (take 4096 tb) t.valid) (take 16384 rules)

  magic_same : (magic_result tb rules answer work ≡ verdict_of (run_by true (problem_in (take 4096 tb))))
      × (magic_answer tb rules answer work ≡ answer_of (run_by true (problem_in (take 4096 tb))) answer)
  unfolding magic_result magic_answer
  magic_same = (rw (magic_long, magic_good) (ap verdict_of outcome_is), rw (magic_long, magic_good) (ap (λ (o : Outcome). answer_of o answer) outcome_is))

relevancy_same : (tb answer work : List ℕ) → Taken tb answer work
    → (fit_result tb answer work ≡ verdict_of (run_by false (problem_in (take 4096 tb)))) × (fit_answer tb answer work ≡ answer_of (run_by false (problem_in (take 4096 tb))) answer)
unfolding run_by
relevancy_same tb answer work t = (verdict_is tb answer work t, answer_is tb answer work t)

pub run_by_engines : (p : Problem) → RunByEngines p
run_by_engines p =
    record {
      relevancy = λ tb answer work t e.
          subst (λ (x : Problem). (fit_result tb answer work ≡ verdict_of (run_by false x)) × (fit_answer tb answer work ≡ answer_of (run_by false x) answer)) e (relevancy_same tb answer work t);
      magic = λ tb rules answer work t e.
          subst (λ (x : Problem). (magic_result tb rules answer work ≡ verdict_of (run_by true x)) × (magic_answer tb rules answer work ≡ answer_of (run_by true x) answer)) e (magic_same tb rules answer work t);
    }
