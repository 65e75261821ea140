-- The digits counted, and those that stand after them, are the run.
use Rattle.std.proofs.Common.{◌≡◌, ◌+◌, ◌-◌, ◌≤◌, length}
use Rattle.problem.specs.Line.{run}
use Rattle.text_line.proofs.line.run_of.Given as goal

abbrev pub invariant-loop-d : goal.invariant-loop-d
invariant-loop-d l = record { counted : run l.text l.at 71 ≡ l.d + run l.text (l.at + l.d) (71 - l.d); within : l.at + l.d ≤ length l.text }
