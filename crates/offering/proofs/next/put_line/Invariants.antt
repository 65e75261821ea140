use Rattle.std.proofs.Common.{◌≡◌, ◌*◌, length, get_or}
use mathlib.Core.List.{flat_map}
use Rattle.lists.specs.Tabulate.{tabulate}
use Rattle.problem.specs.Digit.{hex_byte}
use Rattle.writing.specs.terms.Printed.{Put}
use Rattle.offering.proofs.next.put_line.Given as goal

abbrev pub invariant-loop-b : goal.invariant-loop-b
invariant-loop-b l = record { put : Put l.initial.out 0 (flat_map hex_byte (tabulate (λ i. get_or l.frame i 0) l.b-index)) (2 * l.b-index) l.next l.out; size : length l.out ≡ length l.initial.out }
