-- The claims of `specs/Assuming.antt`, proved: each run is a first run on its table, and so demand 3 holds of it.
use Prim.Native.Nat.{ℕ}
use mathlib.Core.List.{List, ◌++◌}
use mathlib.Core.Logic.{◌⊎◌, inl, inr}
use mathlib.Core.Path.{◌≡◌, sym, ap, ap₂, ◌∙◌}
use lib.ListN.{length, take, drop}
use Rattle.search.specs.Ground.{Found}
use Rattle.search.specs.Relevancy.{find_r}
use Rattle.search.specs.Machine.{outcome}
use Rattle.search.specs.Session.{first_session}
use Rattle.search.proofs.Theorems.{theorems as walks}
use Rattle.problem.specs.Problem.{Problem, Fits, limit_of}
use Rattle.problem.proofs.Theorems.{theorems as tables}
use Rattle.ground.specs.Instance.{Instance, ground_of}
use Rattle.ground.specs.Names.{instance_key}
use Rattle.ground.specs.Walks.{magic}
use Rattle.judging.specs.Demand2.{ground_lent, limit_lent}
use Rattle.rewriting.specs.RulesLayout.{rules_layout}
use Rattle.rewriting.specs.Facts.{find_in}
use Rattle.rewriting.specs.Rewrite.{rules_over}
use Rattle.rewriting.proofs.RegroupLaws.{find_by_lem}
use Rattle.magic.specs.Claims.{MagicTaken}
use Rattle.magic.specs.Engine.{magic_rules}
use Rattle.magic.proofs.Theorems.{theorems as magics}
use Rattle.assuming.specs.Assume.{assuming, assumed_table, facts_refusal, Runs, runs}
use Rattle.assuming.specs.Engines.{relevancy_runs, magic_runs, rules_left}
use Rattle.assuming.specs.Claims.{problem_lent, Assumable}
use Rattle.assuming.proofs.Theorems.{facts_or, fits, longer_fits, longer_whole, longer_long, longer-Valid, longer_problem, relevancy_by, relevancy_made, magic_by, magic_made}
use Rattle.agreement.specs.Claims.{BothTaken}
use Rattle.agreement.specs.Assuming.{AlikeRuns, Theorems}
use Rattle.agreement.proofs.Theorems.{outcomes, demand_3}

-- by the rules of a problem a walk has the outcome of the relevancy walk
alike : (q : Problem) → Fits q → (rest : List ℕ) (limit : ℕ) → outcome (find_in (rules_layout q ++ rest)) limit ≡ outcome (find_r (ground_of q)) limit
unfolding magic
alike q f rest limit = ap (λ (g : List ℕ → Found Instance). outcome g limit) (find_by_lem q f rest) ∙ (walks.one_trail instance_key (ground_of q) limit).outcomes

-- the rules that a first run leaves
first_rules : (tb rules answer work : List ℕ) → MagicTaken tb rules answer work → rules_over (take 4096 tb) (take 16384 rules) ++ drop 16384 rules ≡ magic_rules tb rules answer work
first_rules tb rules answer work t = let find = find_r (ground_lent tb) in magics.rules_left_when_told tb rules answer work t (outcome find 0) (first_session find 0)

module _ (tb facts rules answer work₁ work₂ : List ℕ) (taken : BothTaken tb rules answer work₁ work₂) where
  abbrev q : Problem
  q = problem_lent tb

  abbrev longer : List ℕ
  longer = assumed_table (take 4096 tb) facts

  abbrev R : Runs
  R = relevancy_runs tb facts answer work₁

  abbrev S : Runs
  S = magic_runs tb facts rules answer work₂

  module _ (asks : Assumable (problem_lent tb) facts) where
    abbrev whole : Fits (assuming q facts)
    whole = longer_fits tb facts taken.by_relevancy.table_long taken.by_relevancy.valid asks

    same_problem : problem_lent longer ≡ assuming q facts
    same_problem = longer_problem tb facts taken.by_relevancy.table_long taken.by_relevancy.valid asks

    same_runs : S ≡ R
    same_runs =
        magic_made tb facts rules answer work₂ taken.by_magic asks
        ∙ ap₂ runs
        (alike q (fits tb facts taken.by_relevancy.table_long taken.by_relevancy.valid asks) _ (limit_of q.limit))
        (two ∙ alike (assuming q facts) whole _ (limit_of q.limit))
        ∙ sym (relevancy_made tb facts answer work₁ taken.by_relevancy asks)
      where
        two : outcome (find_in (rules_over longer (take 16384 rules))) (limit_of q.limit)
            ≡ outcome (find_in (rules_layout (assuming q facts) ++ drop (length (rules_layout (assuming q facts))) (take 16384 rules))) (limit_of q.limit)
        two = ap (λ (x : Problem). outcome (find_in (rules_layout x ++ drop (length (rules_layout x)) (take 16384 rules))) (limit_of q.limit)) (tables.problem_back (assuming q facts) whole)

    both : BothTaken longer rules answer work₁ work₂
    both =
        let t = taken.by_relevancy in
        let m = taken.by_magic in
        let long = longer_long tb facts t.table_long t.valid asks in
        let valid = longer-Valid tb facts t.table_long t.valid asks in
        record {
          by_relevancy = record { table_long = long; answer_long = t.answer_long; work_long = t.work_long; valid = valid };
          by_magic = record { table_long = long; rules_long = m.rules_long; answer_long = m.answer_long; work_long = m.work_long; valid = valid };
        }

    made : R ≡ runs (outcome (find_r (ground_lent tb)) (limit_lent tb)) (outcome (find_r (ground_lent longer)) (limit_lent longer))
    made =
        relevancy_made tb facts answer work₁ taken.by_relevancy asks
        ∙ ap (λ (x : Problem). runs (outcome (find_r (ground_lent tb)) (limit_lent tb)) (outcome (find_r (ground_of x)) (limit_of x.limit))) (sym same_problem)

    alike_runs : AlikeRuns tb facts rules answer work₁ work₂ longer
    alike_runs =
        let own = longer_whole tb facts taken.by_relevancy.table_long taken.by_relevancy.valid asks in
        record {
          first = demand_3 tb rules answer work₁ work₂ taken;
          second = demand_3 longer rules answer work₁ work₂ both;
          made = made;
          magic_made = same_runs ∙ made ∙ sym (ap₂ runs (outcomes tb rules answer work₁ work₂ taken) (outcomes longer rules answer work₁ work₂ both));
          rules_once = λ o e. ap (λ (r : Runs). rules_left r tb facts rules) e ∙ first_rules tb rules answer work₂ taken.by_magic;
          rules_twice =
              λ o p e.
              ap (λ (r : Runs). rules_left r tb facts rules) e
              ∙ ap (λ (t : List ℕ). rules_over t (take 16384 rules) ++ drop 16384 rules) (sym own)
              ∙ first_rules longer rules answer work₂ both.by_magic;
        }

  calls : S ≡ R
  calls = go (facts_or (problem_lent tb) facts)
    where
      go : Assumable (problem_lent tb) facts ⊎ (facts_refusal (problem_lent tb) facts ≡ 5) ⊎ (facts_refusal (problem_lent tb) facts ≡ 45) → S ≡ R
      go (inl asks) = same_runs asks
      go (inr (inl e)) = magic_by tb facts rules answer work₂ taken.by_magic 5 e ∙ sym (relevancy_by tb facts answer work₁ taken.by_relevancy 5 e)
      go (inr (inr e)) = magic_by tb facts rules answer work₂ taken.by_magic 45 e ∙ sym (relevancy_by tb facts answer work₁ taken.by_relevancy 45 e)

pub theorems : Theorems
theorems = record { calls = calls; run_by_run = alike_runs }
