-- What is seen of the slots passed are the distinct numbers among them.
use Rattle.ground.specs.terms.Branching.{number_in}
use Rattle.ground.proofs.BranchLaws.{SlotsPassed}
use Rattle.ground.proofs.branch.branch_after.Given as goal

abbrev pub invariant-loop-i : goal.invariant-loop-i
invariant-loop-i l = SlotsPassed (number_in l.bs l.first l.stride l.values) l.n l.i l.found l.seen
