-- What the relevancy engine's calls with a session say for a lent table. `session/Calls` has what they leave in all that is lent.
use Rattle.std.specs.Prelude.{ℕ, List, take}
use Rattle.search.specs.Relevancy.{find_r}
use Rattle.search.specs.Session.{Called}
use Rattle.problem.specs.Problem.{limit_of}
use Rattle.problem.specs.Layout.{problem_in}
use Rattle.problem.specs.Table.{is_valid}
use Rattle.ground.specs.Instance.{ground_in}
use Rattle.session.specs.declared.record.Session.{Session as Record}
use Rattle.session.specs.Calls.{called_in, begun_by, screened}
use Rattle.relevancy.specs.Engine.{too_short}

-- a first run under the table's own limit
unfoldable pub begun : List ℕ → List ℕ → List ℕ → Called
begun tb answer work = screened (too_short tb answer work) (is_valid (take 4096 tb)) (begun_by (find_r (ground_in (take 4096 tb))) (limit_of (problem_in (take 4096 tb)).limit))

-- going on with a session under a further limit
unfoldable pub resumed : Record → ℕ → List ℕ → List ℕ → List ℕ → Called
resumed r further tb answer work = screened (too_short tb answer work) (is_valid (take 4096 tb)) (called_in (find_r (ground_in (take 4096 tb))) (ground_in (take 4096 tb)).atoms r further)
