-- What the relevancy engine gives for a lent table, and what it leaves in each lent buffer.
use Rattle.std.specs.Prelude.{ℕ, Bool, cond, ◌||◌, List, ◌++◌, ltb, length, take, drop, replicate}
use Rattle.search.specs.Relevancy.{find_r}
use Rattle.search.specs.Machine.{Outcome, outcome, deepest_under}
use Rattle.problem.specs.Problem.{limit_of}
use Rattle.problem.specs.Layout.{problem_in}
use Rattle.problem.specs.Table.{is_valid}
use Rattle.ground.specs.declared.verdict.Verdict.{Verdict}
use Rattle.ground.specs.declared.verdict.Verdict.TheVariants.{Refused}
use Rattle.ground.specs.Verdict.{verdict_of, answer_of}
use Rattle.ground.specs.Instance.{ground_in}

-- the outcome of a table's walk under its own limit
unfoldable pub outcome_in : List ℕ → Outcome
outcome_in tb = outcome (find_r (ground_in tb)) (limit_of (problem_in tb).limit)

-- the longest path that it enters
abbrev pub deepest_in : List ℕ → ℕ
deepest_in tb = deepest_under (find_r (ground_in tb)) (limit_of (problem_in tb).limit)

abbrev pub too_short : List ℕ → List ℕ → List ℕ → Bool
too_short tb answer work = ltb (length tb) 4096 || ltb (length answer) 1024 || ltb (length work) 65536

-- 11, then 31, then the walk
unfoldable pub fit_result : List ℕ → List ℕ → List ℕ → Verdict
fit_result tb answer work =
    cond (too_short tb answer work) (Refused 11) (cond (is_valid (take 4096 tb)) (verdict_of (outcome_in (take 4096 tb))) (Refused 31))

-- the longest path entered
unfoldable pub fit_deepest : List ℕ → List ℕ → List ℕ → ℕ
fit_deepest tb answer work = cond (too_short tb answer work) 0 (cond (is_valid (take 4096 tb)) (deepest_in (take 4096 tb)) 0)

unfoldable pub fit_answer : List ℕ → List ℕ → List ℕ → List ℕ
fit_answer tb answer work = cond (too_short tb answer work) answer (cond (is_valid (take 4096 tb)) (answer_of (outcome_in (take 4096 tb)) answer) answer)

-- "Work bytes are zero afterwards, up to 65,536."
unfoldable pub fit_work : List ℕ → List ℕ → List ℕ → List ℕ
fit_work tb answer work = cond (too_short tb answer work) work (cond (is_valid (take 4096 tb)) (replicate 65536 0 ++ drop 65536 work) work)
