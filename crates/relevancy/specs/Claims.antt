-- Demand 2 of the relevancy engine's operation, whatever the code: the contract of `relevancy_calls::fit::fit` equates what the operation gives and leaves with
-- `fit_result`, `fit_deepest`, `fit_answer` and `fit_work`. `proofs/Theorems.antt` proves `Theorems`.
use Rattle.std.specs.Prelude.{ℕ, ◌≤◌, List, ◌⊎◌, ◌≡◌, length, take}
use Rattle.search.specs.Relevancy.{find_r}
use Rattle.search.specs.Machine.{outcome}
use Rattle.search.specs.Session.{first_session, declined, told}
use Rattle.problem.specs.Table.{Valid}
use Rattle.judging.specs.Demand2.{ground_lent, limit_lent, Demand2}
use Rattle.ground.specs.declared.verdict.Verdict.TheVariants.{Refused}
use Rattle.session.specs.declared.record.Session.{Session as Record}
use Rattle.session.specs.Calls.{verdict_told, deepest_told, answer_left, work_left}
use Rattle.relevancy.specs.Engine.{fit_result, fit_deepest, fit_answer, fit_work}
use Rattle.relevancy.specs.Sessions.{begun, resumed}

-- the buffers are long enough, and some accepted text reads to the table
pub record Taken (tb answer work : List ℕ) : Type 0 where
  pub table_long : 4096 ≤ length tb
  pub answer_long : 1024 ≤ length answer
  pub work_long : 65536 ≤ length work
  pub valid : Valid (take 4096 tb)

pub record Theorems : Type 1 where
  pub demand_2 : (tb answer work : List ℕ) → Taken tb answer work → Demand2 (find_r (ground_lent tb)) (ground_lent tb) (limit_lent tb) tb (fit_result tb answer work) (fit_answer tb answer work)
  -- every other call is refused
  pub taken_or_refused : (tb answer work : List ℕ) → Taken tb answer work ⊎ (fit_result tb answer work ≡ Refused 11) ⊎ (fit_result tb answer work ≡ Refused 31)
  -- a first run's other statements stay: with a session it says the same, and leaves the same in the buffers
  pub begun_same : (tb answer work : List ℕ)
      → (verdict_told (begun tb answer work) ≡ fit_result tb answer work) × (answer_left (begun tb answer work) answer ≡ fit_answer tb answer work)
      × (work_left (begun tb answer work) work ≡ fit_work tb answer work)
  -- and the deepest figure of its answer is the one that its session has; 0 where it is refused
  pub begun_shows : (tb answer work : List ℕ) → deepest_told (begun tb answer work) ≡ fit_deepest tb answer work
  -- a first run that is taken tells the outcome of the table's walk under its own limit, and leaves the session of it
  pub begun_told : (tb answer work : List ℕ) → Taken tb answer work
      → begun tb answer work ≡ told (outcome (find_r (ground_lent tb)) (limit_lent tb)) (first_session (find_r (ground_lent tb)) (limit_lent tb))
  -- going on is refused first by what refuses a first run, whatever the session: "Both after 31"
  pub resumed_or_refused : (r : Record) (further : ℕ) (tb answer work : List ℕ)
      → Taken tb answer work ⊎ (resumed r further tb answer work ≡ declined 11) ⊎ (resumed r further tb answer work ≡ declined 31)
  pub resumed_first : (r : Record) (further : ℕ) (tb answer work : List ℕ) (e : ℕ) → fit_result tb answer work ≡ Refused e → resumed r further tb answer work ≡ declined e
