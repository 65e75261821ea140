-- The bytes passed are the model's bits, the rest is as it was.
use Rattle.std.proofs.Common.{◌≡◌, ◌++◌, map, drop}
use Rattle.lists.specs.Bytes.{bit}
use Rattle.lists.specs.Tabulate.{tabulate}
use Rattle.ground.specs.terms.Chosen.{chosen_bit}
use Rattle.ground.proofs.verdict.give.Given as goal

abbrev pub invariant-loop-a : goal.invariant-loop-a
invariant-loop-a l = l.answer ≡ map bit (tabulate (chosen_bit l.work) l.a) ++ drop l.a l.fn.answer
