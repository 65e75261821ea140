-- The instances passed are not violated, so those from the counter on decide.
use Rattle.problem.specs.Layout.{problem_in}
use Rattle.judging.specs.ModelCheck.{violates}
use Rattle.ground.proofs.Turns.{Turn}
use Rattle.judging.proofs.judge.check_clause.Given as goal

abbrev pub invariant-loop : goal.invariant-loop
invariant-loop l = Turn (problem_in l.fn.table) (violates (problem_in l.fn.table) l.fn.flags) l.fn.k l.values l.counter
