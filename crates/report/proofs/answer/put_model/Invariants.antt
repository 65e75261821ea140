-- The lines of the atoms passed have been put.
use Prim.Native.Nat.{◌*◌, ◌-◌, ◌≤◌}
use mathlib.Core.Path.{◌≡◌, refl, ◌∙◌}
use native.Mathlib.Omega.{arith}
use lib.ListN.{length}
use Rattle.problem.specs.Layout.{problem_in}
use Rattle.writing.specs.terms.Printed.{Put}
use Rattle.ground.proofs.AtomLaws.{table_size, atoms_bytes}
use Rattle.report.proofs.ReportLaws.{lines_upto, model_none, model_more, model_done}
use Rattle.report.proofs.answer.put_model.Given as goal

abbrev pub invariant-loop-a : goal.invariant-loop-a
invariant-loop-a l = Put l.initial.out l.at (lines_upto (problem_in l.table) l.answer l.a) (11 * l.a) l.next l.out
