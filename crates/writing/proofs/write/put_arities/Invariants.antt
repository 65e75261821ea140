-- The lines of the arities passed have been put.
use Rattle.std.proofs.Common.{◌+◌, ◌*◌, get_or, min}
use mathlib.Core.List.{flat_map}
use Rattle.lists.specs.Tabulate.{tabulate}
use Rattle.problem.specs.Digit.{hex_line}
use Rattle.problem.specs.Print.{arity_frame}
use Rattle.writing.specs.terms.Printed.{Put}
use Rattle.writing.proofs.write.put_arities.Given as goal

abbrev pub invariant-loop-k : goal.invariant-loop-k
invariant-loop-k l =
    Put l.fn.out l.at (flat_map (λ a. hex_line (arity_frame a)) (tabulate (λ j. min (get_or l.table (16 + 4 * j) 0) 3) l.k)) (5 * l.k) l.next l.out
