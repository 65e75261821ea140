use Prim.Native.Nat.{◌+◌, ◌*◌}
use mathlib.Core.List.{[], ◌∷◌}
use mathlib.Core.Path.{◌≡◌, sym, ap}
use native.Mathlib.Omega.{arith}
use borrow.Author.Rules.{rules}
use lib.ListN.{length, take, get_or}
use Rattle.problem.specs.Digit.{hex_line}
use Rattle.writing.proofs.WriteLaws.{put_as, put_most}
use Rattle.kernel.proofs.MatchLaws.{PredicateKnown}
use Rattle.report.proofs.ReportLaws.{decoded_known, frame_size, atom_frame}
use Rattle.report.proofs.line.put_atom.Goals as goal

pub bounds-table-p : goal.bounds-table-p
bounds-table-p c =
    let d = c.decode-p in
    let tb = c.args.table.now in
    let k = decoded_known tb c.requires.lawful c.args.a d.result d.new.args d.ensures in
    omega (arith, k.long, k.place)

pub slice_bounds-frame-end : goal.slice_bounds-frame-end
slice_bounds-frame-end c =
    let d = c.decode-p in
    let tb = c.args.table.now in
    let k = decoded_known tb c.requires.lawful c.args.a d.result d.new.args d.ensures in
    omega (arith, k.arity, k.few)

pub slice_bounds-put_frame-end : goal.slice_bounds-put_frame-end
slice_bounds-put_frame-end c =
    let d = c.decode-p in
    let tb = c.args.table.now in
    sym (frame_size tb c.requires.lawful c.args.a d.result d.new.args d.ensures)

pub returns : goal.returns
returns c =
    let d = c.decode-p in
    let tb = c.args.table.now in
    let k = decoded_known tb c.requires.lawful c.args.a d.result d.new.args d.ensures in
    let size = frame_size tb c.requires.lawful c.args.a d.result d.new.args d.ensures in
    put_as (put_most c.put_frame.ensures (omega (arith, size, k.arity, k.few)))
    (ap hex_line (atom_frame tb c.requires.lawful c.args.a d.result d.new.args d.ensures))
