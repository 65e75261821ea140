-- Demand 3 at the operations: one claim about the two whole trails of a table. The contracts of `relevancy_calls::fit::fit` and `magic_calls::fit::fit` equate what they give
-- and leave with `fit_result`, `fit_answer` and `magic_result`, `magic_rules`, `magic_answer`. `proofs/Theorems.antt` proves `Theorems`.
use Rattle.std.specs.Prelude.{ℕ, ◌≤◌, ◌&&◌, List, ◌≡◌, length, take, Ok}
use Rattle.lists.specs.Member.{All}
use Rattle.search.specs.Relevancy.{is_true, is_relevant, find_r}
use Rattle.search.specs.Magic.{tru, rel, holds}
use Rattle.search.specs.Deepest.{Exact, Bounds}
use Rattle.search.specs.Machine.{Place, entered, root, entries, trail, outcome}
use Rattle.problem.specs.Problem.{limit_of}
use Rattle.problem.specs.Layout.{problem_in}
use Rattle.problem.specs.Print.{TextOfProblem}
use Rattle.reading.specs.Read.{read_result, read_leaves}
use Rattle.ground.specs.Instance.{Instance, ground_of}
use Rattle.ground.specs.Names.{instance_key}
use Rattle.ground.specs.Verdict.{verdict_of, answer_of}
use Rattle.judging.specs.Demand2.{ground_lent, limit_lent, Demand2}
use Rattle.relevancy.specs.Claims.{Taken}
use Rattle.relevancy.specs.Engine.{fit_result, fit_deepest, fit_answer}
use Rattle.rewriting.specs.Facts.{false_in, magic_in, find_in}
use Rattle.magic.specs.Claims.{MagicTaken}
use Rattle.magic.specs.Engine.{magic_result, magic_deepest, magic_rules, magic_answer}

-- both operations take the call
pub record BothTaken (tb rules answer work₁ work₂ : List ℕ) : Type 0 where
  pub by_relevancy : Taken tb answer work₁
  pub by_magic : MagicTaken tb rules answer work₂

-- at a place, for every atom and "false": what the magic engine's rules hold relevant is relevant, and what they hold true is true and relevant
pub record SameFacts (tb bs : List ℕ) (s : Place Instance) (x : ℕ) : Type 0 where
  pub relevant : holds instance_key (false_in bs) (magic_in bs) (entered s.path) (rel x) ≡ is_relevant (ground_lent tb) (entered s.path) x
  pub true_relevant : holds instance_key (false_in bs) (magic_in bs) (entered s.path) (tru x)
      ≡ (is_true (ground_lent tb) (entered s.path) x && is_relevant (ground_lent tb) (entered s.path) x)

-- bs are the bytes that the magic engine leaves in the rules buffer: the rules that it walks by
pub record OneWalk (tb rules answer work₁ work₂ bs : List ℕ) : Type 0 where
  -- the two whole trails, place by place: the path with the alternatives left at each node, and how the place is found, with clause and values
  pub trails : trail (find_in bs) (limit_lent tb) ≡ trail (find_r (ground_lent tb)) (limit_lent tb)
  -- at every place the facts
  pub facts : All (λ s. (x : ℕ) → SameFacts tb bs s x) (trail (find_r (ground_lent tb)) (limit_lent tb))
  -- each engine's verdict, count and fitting are those of its own walk
  pub by_relevancy : fit_result tb answer work₁ ≡ verdict_of (outcome (find_r (ground_lent tb)) (limit_lent tb))
  pub left_by_relevancy : fit_answer tb answer work₁ ≡ answer_of (outcome (find_r (ground_lent tb)) (limit_lent tb)) answer
  pub by_magic : magic_result tb rules answer work₂ ≡ verdict_of (outcome (find_in bs) (limit_lent tb))
  pub left_by_magic : magic_answer tb rules answer work₂ ≡ answer_of (outcome (find_in bs) (limit_lent tb)) answer
  -- and they are equal
  pub verdicts : magic_result tb rules answer work₂ ≡ fit_result tb answer work₁
  pub answers : magic_answer tb rules answer work₂ ≡ fit_answer tb answer work₁
  -- U2 and U10: and so are their deepest figures
  pub deepest_bounds : Bounds (ground_lent tb).atoms 0 (trail (find_r (ground_lent tb)) (limit_lent tb)) (fit_deepest tb answer work₁)
  pub deepest_exact : Exact 0 (entries (find_r (ground_lent tb)) (limit_lent tb) (root (find_r (ground_lent tb)))) (fit_deepest tb answer work₁)
  pub deepests : magic_deepest tb rules answer work₂ ≡ fit_deepest tb answer work₁

-- the table that a text was read into, fitted by both engines: demands 2 and 3, of the problem that has this text
pub record TextFitted (x tb rules answer work₁ work₂ : List ℕ) : Type 1 where
  pub read : TextOfProblem x
  pub table : problem_in (take 4096 tb) ≡ read.problem
  pub by_relevancy : Demand2 (find_r (ground_of read.problem)) (ground_of read.problem) (limit_of read.problem.limit) tb (fit_result tb answer work₁) (fit_answer tb answer work₁)
  pub by_magic : Demand2 (find_in (magic_rules tb rules answer work₂)) (ground_of read.problem) (limit_of read.problem.limit) tb (magic_result tb rules answer work₂) (magic_answer tb rules answer work₂)
  pub one_walk : OneWalk tb rules answer work₁ work₂ (magic_rules tb rules answer work₂)

pub record Theorems : Type 1 where
  pub text_to_verdict : (x tb rules answer work₁ work₂ : List ℕ) → read_result x tb ≡ Ok tt
      → 16384 ≤ length rules → 1024 ≤ length answer → 65536 ≤ length work₁ → 65536 ≤ length work₂
      → TextFitted x (read_leaves x tb) rules answer work₁ work₂
  pub demand_3 : (tb rules answer work₁ work₂ : List ℕ) → BothTaken tb rules answer work₁ work₂
      → OneWalk tb rules answer work₁ work₂ (magic_rules tb rules answer work₂)
