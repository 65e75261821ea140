-- Demand 2, of any engine: a verdict, with the answer left, is right by the logic, and the count is that of the engine's own walk under a limit.
use Rattle.std.specs.Prelude.{ℕ, ◌≤◌, ◌<◌, List, ◌↔◌, ◌⊎◌, ◌≡◌, T, length, take, Ok}
use Rattle.lists.specs.Bytes.{is_set}
use Rattle.search.specs.Ground.{Ground, Model, Found}
use Rattle.search.specs.Machine.{Place, FullWalk}
use Rattle.problem.specs.Problem.{limit_of}
use Rattle.problem.specs.Layout.{problem_in}
use Rattle.ground.specs.declared.verdict.Verdict.{Verdict}
use Rattle.ground.specs.declared.verdict.Verdict.TheVariants.{Satisfied as IsSatisfied, Refuted as IsRefuted, Exhausted as IsExhausted}
use Rattle.ground.specs.Instance.{Instance, ground_in}
use Rattle.judging.specs.declared.judge.Judgement.TheVariants.{Model as IsModel}
use Rattle.judging.specs.ModelCheck.{judge_result}

-- the ground problem of a lent table, and its limit L
abbrev pub ground_lent : List ℕ → Ground Instance
ground_lent tb = ground_in (take 4096 tb)

abbrev pub limit_lent : List ℕ → ℕ
limit_lent tb = limit_of (problem_in (take 4096 tb)).limit

-- `find` is how the engine finds a node, p the ground problem, and the table is lent to the judge
pub record Demand2 (find : List ℕ → Found Instance) (p : Ground Instance) (limit : ℕ) (tb : List ℕ) (r : Verdict) (answer : List ℕ) : Type 1 where
  -- fits comes with a model: no instance is violated, and the judge says so
  pub model : (n : ℕ) → r ≡ IsSatisfied n → Model p (λ a. T (is_set answer a))
  pub judged : (n : ℕ) → r ≡ IsSatisfied n → judge_result tb answer ≡ Ok IsModel
  -- none only where no set of atoms at all is a model
  pub no_model : (n : ℕ) → r ≡ IsRefuted n → (M : ℕ → Type 0) → Model p M → ⊥
  -- there is a walk without a limit, and only one
  pub full : (es : List (Place Instance)) × FullWalk find es
  pub full_one : (es fs : List (Place Instance)) → FullWalk find es → FullWalk find fs → es ≡ fs
  -- spent exactly where it has more entries than the limit, with the limit as the count
  pub exhausted : (es : List (Place Instance)) → FullWalk find es → (n : ℕ) → (r ≡ IsExhausted n) ↔ ((limit < length es) × (n ≡ limit))
  -- else fits or none, with the count of its entries
  pub settled : (es : List (Place Instance)) → FullWalk find es → (n : ℕ) → ((r ≡ IsSatisfied n) ⊎ (r ≡ IsRefuted n)) ↔ ((length es ≤ limit) × (n ≡ length es))
