-- The claims of `specs/Claims.antt`, proved.
use Prim.Native.Nat.{ℕ, ◌≤◌}
use mathlib.Core.Bool.{Bool, true, false, cond}
use mathlib.Core.List.{List, ◌++◌}
use mathlib.Core.Logic.{◌⊎◌, inl, inr, ◌↔◌}
use mathlib.Core.Path.{◌≡◌, refl, subst}
use lib.Dec.{T}
use lib.ListN.{length, take, drop, replicate}
use Rattle.lists.specs.Bytes.{is_set}
use Rattle.lists.proofs.Test.{T-true}
use Rattle.search.specs.Ground.{Found}
use Rattle.search.specs.Staged.{find_s}
use Rattle.search.specs.Machine.{outcome}
use Rattle.search.proofs.Theorems.{theorems as walks}
use Rattle.problem.specs.Problem.{Problem, limit_of}
use Rattle.problem.specs.Layout.{problem_in}
use Rattle.problem.specs.Table.{is_valid}
use Rattle.problem.proofs.Parse.{parse_text}
use Rattle.problem.proofs.Theorems.{theorems as tables}
use Rattle.std.specs.Prelude.{Ok}
use Rattle.reading.specs.Read.{read_result, read_leaves}
use Rattle.reading.proofs.TextRead.{TextRead, text_read, text_fits, table_long, table_valid, table_back}
use Rattle.ground.specs.Instance.{Instance, ground_of}
use Rattle.ground.specs.declared.verdict.Verdict.{Verdict}
use Rattle.ground.specs.declared.verdict.Verdict.TheVariants.{Refused, Satisfied as IsSatisfied, Refuted as IsRefuted}
use Rattle.ground.specs.Verdict.{verdict_of, answer_of}
use Rattle.ground.proofs.Instances.{ground_proper}
use Rattle.judging.specs.Demand2.{ground_lent, limit_lent, Demand2}
use Rattle.judging.proofs.Theorems.{theorems as judgings}
use Rattle.relevancy.specs.Engine.{outcome_in, too_short, fit_result, fit_work}
use Rattle.relevancy.specs.Claims.{Taken}
use Rattle.relevancy.proofs.EngineLaws.{long_enough, never_declined}
use Rattle.relevancy.proofs.Theorems.{theorems as relevancy}
use Rattle.staged.specs.Engine.{staged_outcome, staged_result, staged_answer}
use Rattle.staged.specs.Claims.{Contradict, TextStaged, Theorems}
use Rattle.staged.proofs.EngineLaws.{refused_either}

-- ---- a call that is taken

module _ (tb answer work : List ℕ) (taken : Taken tb answer work) where
  abbrev t : List ℕ
  t = take 4096 tb

  good : is_valid t ≡ true
  good = T-true (is_valid t) ((tables.valid t).1 taken.valid)

  -- its verdict and its answer are those of the table's walk
  verdict_is : staged_result tb answer work ≡ verdict_of (outcome (find_s (ground_lent tb)) (limit_lent tb))
  unfolding staged_result staged_outcome
  verdict_is = rw (long_enough tb answer work taken.table_long taken.answer_long taken.work_long, good)

  answer_is : staged_answer tb answer work ≡ answer_of (outcome (find_s (ground_lent tb)) (limit_lent tb)) answer
  unfolding staged_answer staged_outcome
  answer_is = rw (long_enough tb answer work taken.table_long taken.answer_long taken.work_long, good)

  demand_2 : Demand2 (find_s (ground_lent tb)) (ground_lent tb) (limit_lent tb) tb (staged_result tb answer work) (staged_answer tb answer work)
  demand_2 =
      let sound = walks.staged_sound (ground_lent tb) (ground_proper (problem_in t) (tables.lawful t taken.valid).fits) in
      rw (verdict_is, answer_is)
      (judgings.demand_2 (find_s (ground_lent tb)) (limit_lent tb) tb answer taken.table_long taken.answer_long taken.valid sound)

  -- where one has a model the other has none to deny
  never_contradict : (find : List ℕ → Found Instance) (limit : ℕ) (r : Verdict) (left : List ℕ) → Demand2 find (ground_lent tb) limit tb r left
      → Contradict (staged_result tb answer work) r → ⊥
  never_contradict find limit r left other both = go both.1.1
    where
      go : ((staged_result tb answer work ≡ IsSatisfied both.0) × (r ≡ IsRefuted both.1.0)) ⊎ ((staged_result tb answer work ≡ IsRefuted both.0) × (r ≡ IsSatisfied both.1.0)) → ⊥
      go (inl e) = other.no_model both.1.0 e.1 (λ a. T (is_set (staged_answer tb answer work) a)) (demand_2.model both.0 e.0)
      go (inr e) = demand_2.no_model both.0 e.0 (λ a. T (is_set left a)) (other.model both.1.0 e.1)

-- ---- from a text to the verdict

module _ (x tb answer work : List ℕ) (accepted : read_result x tb ≡ Ok tt) (answer_long : 1024 ≤ length answer) (work_long : 65536 ≤ length work) where
  abbrev left : List ℕ
  left = read_leaves x tb

  read : TextRead x tb
  read = text_read x tb accepted

  text_taken : Taken left answer work
  text_taken = record { table_long = table_long x tb read; answer_long = answer_long; work_long = work_long; valid = table_valid x tb read }

  text_to_verdict : TextStaged x left answer work
  text_to_verdict =
      record {
        read = record { problem = read.problem; fits = text_fits x tb read; text = parse_text x read.problem read.accepted };
        table = table_back x tb read;
        demand_2 =
            subst
            (λ (q : Problem). Demand2 (find_s (ground_of q)) (ground_of q) (limit_of q.limit) left (staged_result left answer work) (staged_answer left answer work))
            (table_back x tb read)
            (demand_2 left answer work text_taken);
      }

-- ---- every other call

module _ (tb answer work : List ℕ) where
  abbrev short : Bool
  short = too_short tb answer work

  abbrev valid : Bool
  valid = is_valid (take 4096 tb)

  refused_alike : (e : ℕ) → (staged_result tb answer work ≡ Refused e) ↔ (fit_result tb answer work ≡ Refused e)
  unfolding staged_result fit_result
  refused_alike e =
      let o = staged_outcome (take 4096 tb) in
      let u = outcome_in (take 4096 tb) in
      (refused_either short valid o u e, refused_either short valid u o e)

  taken_or_refused : Taken tb answer work ⊎ (staged_result tb answer work ≡ Refused 11) ⊎ (staged_result tb answer work ≡ Refused 31)
  taken_or_refused = go (relevancy.taken_or_refused tb answer work)
    where
      go : Taken tb answer work ⊎ (fit_result tb answer work ≡ Refused 11) ⊎ (fit_result tb answer work ≡ Refused 31)
          → Taken tb answer work ⊎ (staged_result tb answer work ≡ Refused 11) ⊎ (staged_result tb answer work ≡ Refused 31)
      go (inl taken) = inl taken
      go (inr (inl f)) = inr (inl ((refused_alike 11).1 f))
      go (inr (inr f)) = inr (inr ((refused_alike 31).1 f))

  refused_kept : (e : ℕ) → staged_result tb answer work ≡ Refused e → (staged_answer tb answer work ≡ answer) × (fit_work tb answer work ≡ work)
  unfolding staged_result staged_answer fit_work
  refused_kept e = go short valid (replicate 65536 0 ++ drop 65536 work)
    where
      go : (s v : Bool) (zeroed : List ℕ) → ◌≡◌ {A = Verdict} (cond s (Refused 11) (cond v (verdict_of (staged_outcome (take 4096 tb))) (Refused 31))) (Refused e)
          → (cond s answer (cond v (answer_of (staged_outcome (take 4096 tb)) answer) answer) ≡ answer) × (cond s work (cond v zeroed work) ≡ work)
      go true v zeroed h = (refl, refl)
      go false true zeroed h = absurd (never_declined (staged_outcome (take 4096 tb)) e h)
      go false false zeroed h = (refl, refl)

pub theorems : Theorems
theorems =
    record {
      demand_2 = demand_2;
      told = λ tb answer work taken. (verdict_is tb answer work taken, answer_is tb answer work taken);
      text_to_verdict = text_to_verdict;
      never_contradict = never_contradict;
      taken_or_refused = taken_or_refused;
      refused_alike = refused_alike;
      refused_kept = refused_kept;
    }
