-- The runs of a call with assumptions in either engine, for a lent table, and what the magic engine leaves in the rules buffer.
use Rattle.std.specs.Prelude.{ℕ, List, ◌++◌, take, drop}
use Rattle.relevancy.specs.Engine.{outcome_in, too_short}
use Rattle.rewriting.specs.Rewrite.{rules_over}
use Rattle.magic.specs.Engine.{magic_outcome, magic_too_short}
use Rattle.assuming.specs.Assume.{assumed_table, Runs, declined, once, twice, runs, screened}

-- by the relevancy engine, from the table, the facts, the answer and the work lent
unfoldable pub relevancy_runs : List ℕ → List ℕ → List ℕ → List ℕ → Runs
relevancy_runs tb facts answer work = screened (too_short tb answer work) tb facts (runs (outcome_in (take 4096 tb)) (outcome_in (assumed_table (take 4096 tb) facts)))

-- by the magic engine: each run by its own rules, over what the rules buffer was lent with
unfoldable pub magic_runs : List ℕ → List ℕ → List ℕ → List ℕ → List ℕ → Runs
magic_runs tb facts rules answer work =
    screened (magic_too_short tb rules answer work) tb facts
    (runs (magic_outcome (take 4096 tb) (take 16384 rules)) (magic_outcome (assumed_table (take 4096 tb) facts) (take 16384 rules)))

-- "the rules buffer ends with the last run's rules", and past them with what was lent; a refusal leaves it as it was
abbrev pub rules_after : Runs → List ℕ → List ℕ → List ℕ → List ℕ
rules_after (declined e) own facts rules = rules
rules_after (once alone) own facts rules = rules_over own rules
rules_after (twice alone all) own facts rules = rules_over (assumed_table own facts) rules

abbrev pub rules_left : Runs → List ℕ → List ℕ → List ℕ → List ℕ
rules_left r tb facts rules = rules_after r (take 4096 tb) facts (take 16384 rules) ++ drop 16384 rules
