-- The two walks of a problem, and what a program prints of a text by either.
use Rattle.std.specs.Prelude.{ℕ, List}
use Rattle.search.specs.Ground.{Found}
use Rattle.search.specs.Relevancy.{find_r}
use Rattle.search.specs.Magic.{rewriting, find_m}
use Rattle.search.specs.Machine.{outcome}
use Rattle.problem.specs.Faults.{fault_number}
use Rattle.problem.specs.Numbers.{refused_at}
use Rattle.problem.specs.Problem.{Problem, limit_of}
use Rattle.problem.specs.Parse.{refused, parsed, parse}
use Rattle.ground.specs.Instance.{Instance, ground_of}
use Rattle.ground.specs.Names.{instance_key}
use Rattle.ground.specs.Report.{head_line, report}

-- how the relevancy walk and the magic walk of a problem find a node
unfoldable pub relevancy : Problem → List ℕ → Found Instance
relevancy q = find_r (ground_of q)

unfoldable pub magic : Problem → List ℕ → Found Instance
magic q = find_m instance_key (ground_of q).atoms (rewriting (ground_of q))

-- what is printed of a text by a walk
unfoldable pub printed : (Problem → List ℕ → Found Instance) → List ℕ → List ℕ
printed walk x = elim (parse x) [ refused e line ↦ head_line (refused_at (fault_number e) line) | parsed q ↦ report q (outcome (walk q) (limit_of q.limit)) ]
