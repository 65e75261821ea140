-- The lines of the clauses passed have been put.
use Rattle.std.proofs.Common.{◌+◌, ◌*◌}
use mathlib.Core.List.{flat_map}
use Rattle.lists.specs.Tabulate.{tabulate}
use Rattle.problem.specs.Digit.{hex_line}
use Rattle.problem.specs.Layout.{clause_in, arities_in}
use Rattle.problem.specs.Print.{clause_frame}
use Rattle.writing.specs.terms.Printed.{Put}
use Rattle.writing.proofs.write.put_clauses.Given as goal

abbrev pub invariant-loop-k : goal.invariant-loop-k
invariant-loop-k l =
    Put l.fn.out l.at (flat_map (λ k. hex_line (clause_frame k)) (tabulate (λ k. clause_in (arities_in l.table) l.table (144 + 56 * k)) l.k)) (71 * l.k) l.next l.out
