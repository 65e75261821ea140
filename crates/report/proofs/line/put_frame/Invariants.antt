-- The bytes passed have been put.
use Prim.Native.Nat.{ℕ, ◌*◌, ◌-◌, ◌≤◌}
use mathlib.Core.List.{List, flat_map}
use mathlib.Core.Path.{◌≡◌, refl, ap, ◌∙◌}
use native.Mathlib.Omega.{arith}
use lib.ListN.{length, get_or}
use Rattle.lists.specs.Tabulate.{tabulate}
use Rattle.lists.proofs.Bytes.{tabulate_of}
use Rattle.problem.specs.Digit.{hex_byte}
use Rattle.writing.specs.terms.Printed.{Put}
use Rattle.writing.proofs.WriteLaws.{put_as, put_line, puts_none, puts_more, puts_done}
use Rattle.report.proofs.line.put_frame.Given as goal

abbrev pub invariant-loop-b : goal.invariant-loop-b
invariant-loop-b l = Put l.initial.out l.at (flat_map hex_byte (tabulate (λ i. get_or l.frame i 0) l.b-index)) (2 * l.b-index) l.next l.out
