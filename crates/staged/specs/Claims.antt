-- What is claimed of the staged engine, whatever the code: the contract of `fit::fit` equates what the operation gives and leaves with `staged_result`, `staged_answer`
-- and `fit_work`. `proofs/Theorems.antt` proves `Theorems`.
use Rattle.std.specs.Prelude.{ℕ, ◌≤◌, List, ◌⊎◌, ◌↔◌, ◌≡◌, length, take, Ok}
use Rattle.search.specs.Ground.{Found}
use Rattle.search.specs.Machine.{outcome}
use Rattle.search.specs.Staged.{find_s}
use Rattle.problem.specs.Problem.{limit_of}
use Rattle.problem.specs.Layout.{problem_in}
use Rattle.problem.specs.Print.{TextOfProblem}
use Rattle.reading.specs.Read.{read_result, read_leaves}
use Rattle.ground.specs.Instance.{Instance, ground_of}
use Rattle.ground.specs.declared.verdict.Verdict.{Verdict}
use Rattle.ground.specs.declared.verdict.Verdict.TheVariants.{Refused, Satisfied as IsSatisfied, Refuted as IsRefuted}
use Rattle.ground.specs.Verdict.{verdict_of, answer_of}
use Rattle.judging.specs.Demand2.{ground_lent, limit_lent, Demand2}
use Rattle.relevancy.specs.Engine.{fit_result, fit_work}
use Rattle.relevancy.specs.Claims.{Taken}
use Rattle.staged.specs.Engine.{staged_result, staged_answer}

-- fits by one verdict and none by the other
abbrev pub Contradict : Verdict → Verdict → Type 0
Contradict r s = (n : ℕ) × ((m : ℕ) × (((r ≡ IsSatisfied n) × (s ≡ IsRefuted m)) ⊎ ((r ≡ IsRefuted n) × (s ≡ IsSatisfied m))))

-- the table that a text was read into, fitted: demand 2, of the problem that has this text
pub record TextStaged (x tb answer work : List ℕ) : Type 1 where
  pub read : TextOfProblem x
  pub table : problem_in (take 4096 tb) ≡ read.problem
  pub demand_2 : Demand2 (find_s (ground_of read.problem)) (ground_of read.problem) (limit_of read.problem.limit) tb (staged_result tb answer work) (staged_answer tb answer work)

pub record Theorems : Type 1 where
  -- "Its fits and none are right", and "Its count and spent are those of its own walk"
  pub demand_2 : (tb answer work : List ℕ) → Taken tb answer work
      → Demand2 (find_s (ground_lent tb)) (ground_lent tb) (limit_lent tb) tb (staged_result tb answer work) (staged_answer tb answer work)
  -- a call that is taken tells the outcome of its own walk, and leaves the answer by it
  pub told : (tb answer work : List ℕ) → Taken tb answer work
      → (staged_result tb answer work ≡ verdict_of (outcome (find_s (ground_lent tb)) (limit_lent tb)))
      × (staged_answer tb answer work ≡ answer_of (outcome (find_s (ground_lent tb)) (limit_lent tb)) answer)
  pub text_to_verdict : (x tb answer work : List ℕ) → read_result x tb ≡ Ok tt → 1024 ≤ length answer → 65536 ≤ length work → TextStaged x (read_leaves x tb) answer work
  -- "even where another engine is spent": it never contradicts an engine that keeps demand 2 on the same table, as both others do, whatever that one's limit
  pub never_contradict : (tb answer work : List ℕ) → Taken tb answer work → (find : List ℕ → Found Instance) (limit : ℕ) (r : Verdict) (left : List ℕ)
      → Demand2 find (ground_lent tb) limit tb r left → Contradict (staged_result tb answer work) r → ⊥
  -- "in all else, refusals included, as a first run of the relevancy engine": every other call is refused, by the number that refuses a first run there, and no other is
  pub taken_or_refused : (tb answer work : List ℕ) → Taken tb answer work ⊎ (staged_result tb answer work ≡ Refused 11) ⊎ (staged_result tb answer work ≡ Refused 31)
  pub refused_alike : (tb answer work : List ℕ) (e : ℕ) → (staged_result tb answer work ≡ Refused e) ↔ (fit_result tb answer work ≡ Refused e)
  -- and then each lent byte is as it was
  pub refused_kept : (tb answer work : List ℕ) (e : ℕ) → staged_result tb answer work ≡ Refused e → (staged_answer tb answer work ≡ answer) × (fit_work tb answer work ≡ work)
