-- What the magic engine gives for a lent table, and what it leaves in each lent buffer.
use Rattle.std.specs.Prelude.{ℕ, Bool, cond, ◌||◌, List, ◌++◌, ltb, length, take, drop, replicate}
use Rattle.search.specs.Machine.{Outcome, outcome, deepest_under}
use Rattle.problem.specs.Problem.{limit_of}
use Rattle.problem.specs.Layout.{problem_in}
use Rattle.problem.specs.Table.{is_valid}
use Rattle.ground.specs.declared.verdict.Verdict.{Verdict}
use Rattle.ground.specs.declared.verdict.Verdict.TheVariants.{Refused}
use Rattle.ground.specs.Verdict.{verdict_of, answer_of}
use Rattle.rewriting.specs.Facts.{find_in}
use Rattle.rewriting.specs.Rewrite.{rules_over}

-- the outcome of the walk by a buffer's rules under a limit
unfoldable pub rules_outcome : List ℕ → ℕ → Outcome
rules_outcome bs limit = outcome (find_in bs) limit

abbrev pub magic_too_short : List ℕ → List ℕ → List ℕ → List ℕ → Bool
magic_too_short tb rules answer work = ltb (length tb) 4096 || ltb (length rules) 16384 || ltb (length answer) 1024 || ltb (length work) 65536

-- the outcome of the magic walk by the rules that are left in the rules buffer, under the table's limit
abbrev pub magic_outcome : List ℕ → List ℕ → Outcome
magic_outcome tb rules = rules_outcome (rules_over tb rules) (limit_of (problem_in tb).limit)

-- the longest path that it enters
abbrev pub magic_deepest_in : List ℕ → List ℕ → ℕ
magic_deepest_in tb rules = deepest_under (find_in (rules_over tb rules)) (limit_of (problem_in tb).limit)

-- 11, then 31, then the rewriting and the walk
unfoldable pub magic_result : List ℕ → List ℕ → List ℕ → List ℕ → Verdict
magic_result tb rules answer work =
    cond (magic_too_short tb rules answer work)
    (Refused 11)
    (cond (is_valid (take 4096 tb)) (verdict_of (magic_outcome (take 4096 tb) (take 16384 rules))) (Refused 31))

-- the longest path entered
unfoldable pub magic_deepest : List ℕ → List ℕ → List ℕ → List ℕ → ℕ
magic_deepest tb rules answer work =
    cond (magic_too_short tb rules answer work) 0 (cond (is_valid (take 4096 tb)) (magic_deepest_in (take 4096 tb) (take 16384 rules)) 0)

-- the rules stay, whatever the verdict
unfoldable pub magic_rules : List ℕ → List ℕ → List ℕ → List ℕ → List ℕ
magic_rules tb rules answer work =
    cond (magic_too_short tb rules answer work) rules (cond (is_valid (take 4096 tb)) (rules_over (take 4096 tb) (take 16384 rules) ++ drop 16384 rules) rules)

unfoldable pub magic_answer : List ℕ → List ℕ → List ℕ → List ℕ → List ℕ
magic_answer tb rules answer work =
    cond (magic_too_short tb rules answer work)
    answer
    (cond (is_valid (take 4096 tb)) (answer_of (magic_outcome (take 4096 tb) (take 16384 rules)) answer) answer)

-- "Work bytes are zero afterwards, up to 65,536."
unfoldable pub magic_work : List ℕ → List ℕ → List ℕ → List ℕ → List ℕ
magic_work tb rules answer work =
    cond (magic_too_short tb rules answer work) work (cond (is_valid (take 4096 tb)) (replicate 65536 0 ++ drop 65536 work) work)
