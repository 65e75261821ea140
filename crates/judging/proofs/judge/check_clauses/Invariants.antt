-- The clauses passed have no violated instance, so those from k on decide.
use Rattle.problem.specs.Layout.{problem_in}
use Rattle.judging.specs.ModelCheck.{violates}
use Rattle.ground.proofs.Turns.{Undecided}
use Rattle.judging.proofs.judge.check_clauses.Given as goal

abbrev pub invariant-loop-k : goal.invariant-loop-k
invariant-loop-k l = Undecided (problem_in l.fn.table) (violates (problem_in l.fn.table) l.fn.flags) l.k
