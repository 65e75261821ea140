-- The clauses passed have no instance that can be split, so those from k on decide.
use Rattle.problem.specs.Layout.{problem_in}
use Rattle.relevancy_rule.specs.terms.Node.{splittable_in}
use Rattle.ground.proofs.Turns.{Undecided}
use Rattle.relevancy_node.proofs.choose.choose.Given as goal

abbrev pub invariant-loop-k : goal.invariant-loop-k
invariant-loop-k l = Undecided (problem_in l.table) (splittable_in l.table l.r) l.k
