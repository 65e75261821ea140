-- What the functions behind a call with assumptions give one another.
use Rattle.std.specs.Prelude.{ℕ, ◌+◌, ◌≤◌, Bool, true, false, cond, List, ◌≡◌, T, ltb, length, take}
use Rattle.problem.specs.Problem.{atom_count}
use Rattle.problem.specs.Layout.{problem_in}
use Rattle.ground.specs.declared.verdict.Verdict.{Verdict}
use Rattle.ground.specs.declared.verdict.Verdict.TheVariants as verdict
use Rattle.magic.specs.Engine.{magic_outcome}
use Rattle.writing.specs.terms.Lent.{refusal_of}
use Rattle.assuming.specs.declared.assume.Assumed.{Assumed}
use Rattle.assuming.specs.declared.assume.Assumed.TheVariants as assumed
use Rattle.assuming.specs.declared.assume.Counted.{Counted}
use Rattle.assuming.specs.Assume.{are_atoms, facts_refusal, assumed_table, Runs, runs, assumed_of, first_left, second_left}
use Rattle.assuming.specs.Engines.{rules_after}

-- facts that can be added to a table's problem
pub record Addable (tb facts : List ℕ) : Type 0 where
  pub room : length (problem_in tb).clauses + length facts ≤ 64
  pub atoms : T (are_atoms (atom_count (problem_in tb).constants (problem_in tb).arities) facts)

-- the answer and the counts of runs that were made
pub record Made (r : Runs) (c : Counted) : Type 0 where
  pub assumed : c.assumed ≡ assumed_of r
  pub first : c.first ≡ first_left r 0
  pub second : c.second ≡ second_left r 0

-- a verdict is none
abbrev pub is_refuted : Verdict → Bool
is_refuted (verdict.Refused e) = false
is_refuted (verdict.Satisfied n) = false
is_refuted (verdict.Refuted n) = true
is_refuted (verdict.Exhausted n) = false

-- what two runs with these verdicts say; a run is never refused
abbrev pub said_with_all : Verdict → Assumed
said_with_all (verdict.Refused e) = assumed.Exhausted
said_with_all (verdict.Satisfied n) = assumed.Never
said_with_all (verdict.Refuted n) = assumed.Sometimes
said_with_all (verdict.Exhausted n) = assumed.Exhausted

abbrev pub said_by : Verdict → Verdict → Assumed
said_by (verdict.Refused e) all = assumed.Exhausted
said_by (verdict.Satisfied n) all = said_with_all all
said_by (verdict.Refuted n) all = assumed.Always
said_by (verdict.Exhausted n) all = assumed.Exhausted

-- the runs of the magic engine on a table, with what they leave in the rules buffer
abbrev pub magic_runs_of : List ℕ → List ℕ → List ℕ → Runs
magic_runs_of tb facts rules = runs (magic_outcome tb rules) (magic_outcome (assumed_table tb facts) rules)

pub record MagicMade (tb facts rules : List ℕ) (c : Counted) (left : List ℕ) : Type 0 where
  pub made : Made (magic_runs_of tb facts rules) c
  pub left_rules : left ≡ rules_after (magic_runs_of tb facts rules) tb facts rules

-- what a call is refused for, or 0, where buffers beside the table may be too short
unfoldable pub call_refusal : List ℕ → List ℕ → Bool → ℕ
call_refusal tb facts short = cond (ltb 0 (refusal_of tb short)) (refusal_of tb short) (facts_refusal (problem_in (take 4096 tb)) facts)
