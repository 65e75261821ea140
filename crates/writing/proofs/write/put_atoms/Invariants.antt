-- The atoms passed have been put.
use Rattle.std.proofs.Common.{◌+◌, ◌*◌}
use mathlib.Core.List.{flat_map}
use Rattle.lists.specs.Tabulate.{tabulate}
use Rattle.problem.specs.Digit.{hex_byte}
use Rattle.problem.specs.Layout.{atom_in, arities_in}
use Rattle.problem.specs.Print.{atom_bytes}
use Rattle.writing.specs.terms.Printed.{Put}
use Rattle.writing.proofs.write.put_atoms.Given as goal

abbrev pub invariant-loop-i : goal.invariant-loop-i
invariant-loop-i l =
    Put l.fn.out l.at (flat_map (λ a. flat_map hex_byte (atom_bytes a)) (tabulate (λ i. atom_in (arities_in l.table) l.table (l.from + 6 * i)) l.i)) (8 * l.i) l.next l.out
