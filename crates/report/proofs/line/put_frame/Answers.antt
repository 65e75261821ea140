use Prim.Native.Nat.{ℕ, ◌*◌, ◌-◌, ◌≤◌}
use mathlib.Core.List.{List, flat_map}
use mathlib.Core.Path.{◌≡◌, refl, ap, ◌∙◌}
use native.Mathlib.Omega.{arith}
use lib.ListN.{length, get_or}
use Rattle.lists.specs.Tabulate.{tabulate}
use Rattle.lists.proofs.Bytes.{tabulate_of}
use Rattle.problem.specs.Digit.{hex_byte}
use Rattle.writing.specs.terms.Printed.{Put}
use Rattle.writing.proofs.WriteLaws.{put_as, put_line, puts_none, puts_more, puts_done}
use Rattle.report.proofs.line.put_frame.Goals as goal

abbrev byte_at : List ℕ → ℕ → ℕ
byte_at frame i = get_or frame i 0

pub loop-b-init : goal.loop-b-init
loop-b-init c = puts_none hex_byte (byte_at c.args.frame.now) 2 c.args.out.now c.args.at

pub loop-b-preserved : goal.loop-b-preserved
loop-b-preserved c =
    let l = c.loop-b in
    puts_more hex_byte (byte_at c.args.frame.now) 2 l.b-index l.invariant (omega arith) c.put_byte-next.ensures

pub returns : goal.returns
returns c =
    let l = c.loop-b in
    let frame : List ℕ = c.args.frame.now in
    put_line frame
    (put_as
    (puts_done hex_byte (byte_at frame) 2 l.b-index (length frame) (2 * length frame) l.invariant (omega arith) (omega arith))
    (ap (flat_map hex_byte) (tabulate_of (byte_at frame) 0 frame (length frame) refl (λ i h. refl))))
    (omega arith)
    c.put_end.ensures
