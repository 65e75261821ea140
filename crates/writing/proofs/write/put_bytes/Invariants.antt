-- The bytes passed have been put.
use Rattle.std.proofs.Common.{◌+◌, ◌*◌, get_or}
use mathlib.Core.List.{flat_map}
use Rattle.lists.specs.Tabulate.{tabulate}
use Rattle.problem.specs.Digit.{hex_byte}
use Rattle.writing.specs.terms.Printed.{Put}
use Rattle.writing.proofs.write.put_bytes.Given as goal

abbrev pub invariant-loop-j : goal.invariant-loop-j
invariant-loop-j l = Put l.fn.out l.at (flat_map hex_byte (tabulate (λ i. get_or l.table (l.from + i) 0) l.j)) (2 * l.j) l.next l.out
