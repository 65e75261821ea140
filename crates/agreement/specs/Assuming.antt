-- U11 at the operations of both engines: they say the same, run by run. The contracts of `assume_relevancy` and `assume_magic` equate what they give and leave with
-- `relevancy_runs` and `magic_runs`, by `assuming/Assume`. `proofs/Assuming.antt` proves `Theorems`.
use Rattle.std.specs.Prelude.{ℕ, List, ◌≡◌, take}
use Rattle.search.specs.Relevancy.{find_r}
use Rattle.search.specs.Machine.{Outcome, outcome}
use Rattle.judging.specs.Demand2.{ground_lent, limit_lent}
use Rattle.rewriting.specs.Facts.{find_in}
use Rattle.magic.specs.Engine.{magic_rules}
use Rattle.assuming.specs.Assume.{assumed_table, once, twice, runs}
use Rattle.assuming.specs.Engines.{relevancy_runs, magic_runs, rules_left}
use Rattle.assuming.specs.Claims.{Assumable, problem_lent}
use Rattle.agreement.specs.Claims.{BothTaken, OneWalk}

-- a call whose facts are taken: the first run is a first run on the lent table, the second one on the table with all facts, with demand 3 of each
pub record AlikeRuns (tb facts rules answer work₁ work₂ longer : List ℕ) : Type 0 where
  pub first : OneWalk tb rules answer work₁ work₂ (magic_rules tb rules answer work₂)
  pub second : OneWalk longer rules answer work₁ work₂ (magic_rules longer rules answer work₂)
  -- the outcomes of these runs are what both calls are about
  pub made : relevancy_runs tb facts answer work₁ ≡ runs (outcome (find_r (ground_lent tb)) (limit_lent tb)) (outcome (find_r (ground_lent longer)) (limit_lent longer))
  pub magic_made : magic_runs tb facts rules answer work₂
      ≡ runs (outcome (find_in (magic_rules tb rules answer work₂)) (limit_lent tb)) (outcome (find_in (magic_rules longer rules answer work₂)) (limit_lent longer))
  -- "the rules buffer ends with the last run's rules": what that run leaves in the lent rules
  pub rules_once : (o : Outcome) → magic_runs tb facts rules answer work₂ ≡ once o → rules_left (magic_runs tb facts rules answer work₂) tb facts rules ≡ magic_rules tb rules answer work₂
  pub rules_twice : (o p : Outcome) → magic_runs tb facts rules answer work₂ ≡ twice o p
      → rules_left (magic_runs tb facts rules answer work₂) tb facts rules ≡ magic_rules longer rules answer work₂

pub record Theorems : Type 0 where
  -- the same answer and the same counts, or the same refusal, for any facts
  pub calls : (tb facts rules answer work₁ work₂ : List ℕ) → BothTaken tb rules answer work₁ work₂ → magic_runs tb facts rules answer work₂ ≡ relevancy_runs tb facts answer work₁
  pub run_by_run : (tb facts rules answer work₁ work₂ : List ℕ) → BothTaken tb rules answer work₁ work₂ → Assumable (problem_lent tb) facts
      → AlikeRuns tb facts rules answer work₁ work₂ (assumed_table (take 4096 tb) facts)
