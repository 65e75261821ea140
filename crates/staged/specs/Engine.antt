-- What the staged engine gives for a lent table, and what it leaves in the answer. What is too short for it, and what it leaves in the work buffer, are the relevancy
-- engine's: `too_short` and `fit_work`.
use Rattle.std.specs.Prelude.{ℕ, cond, List, take}
use Rattle.search.specs.Staged.{find_s}
use Rattle.search.specs.Machine.{Outcome, outcome}
use Rattle.problem.specs.Problem.{limit_of}
use Rattle.problem.specs.Layout.{problem_in}
use Rattle.problem.specs.Table.{is_valid}
use Rattle.ground.specs.declared.verdict.Verdict.{Verdict}
use Rattle.ground.specs.declared.verdict.Verdict.TheVariants.{Refused}
use Rattle.ground.specs.Verdict.{verdict_of, answer_of}
use Rattle.ground.specs.Instance.{ground_in}
use Rattle.relevancy.specs.Engine.{too_short}

-- the outcome of a table's walk under its own limit
unfoldable pub staged_outcome : List ℕ → Outcome
staged_outcome tb = outcome (find_s (ground_in tb)) (limit_of (problem_in tb).limit)

-- 11, then 31, then the walk
unfoldable pub staged_result : List ℕ → List ℕ → List ℕ → Verdict
staged_result tb answer work =
    cond (too_short tb answer work) (Refused 11) (cond (is_valid (take 4096 tb)) (verdict_of (staged_outcome (take 4096 tb))) (Refused 31))

unfoldable pub staged_answer : List ℕ → List ℕ → List ℕ → List ℕ
staged_answer tb answer work = cond (too_short tb answer work) answer (cond (is_valid (take 4096 tb)) (answer_of (staged_outcome (take 4096 tb)) answer) answer)
