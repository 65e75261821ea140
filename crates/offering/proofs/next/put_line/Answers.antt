use Rattle.std.proofs.Common.{◌*◌, length, get_or, refl, ap, ◌∙◌, arith}
use mathlib.Core.List.{flat_map}
use Rattle.lists.proofs.Bytes.{tabulate_of}
use Rattle.problem.specs.Digit.{hex_byte}
use Rattle.writing.proofs.WriteLaws.{put_as, put_most, put_line, puts_none, puts_more, puts_done}
use Rattle.offering.proofs.next.put_line.Goals as goal

pub loop-b-init : goal.loop-b-init
loop-b-init c = record { put = puts_none hex_byte (λ i. get_or c.args.frame.now i 0) 2 c.args.out.now 0; size = refl }

pub loop-b-preserved : goal.loop-b-preserved
loop-b-preserved c =
    let l = c.loop-b in
    record {
      put = puts_more hex_byte (λ i. get_or c.args.frame.now i 0) 2 l.b-index l.invariant.put (omega arith) c.put_byte-next.ensures;
      size = c.put_byte-next.auto.out ∙ l.invariant.size;
    }

pub returns : goal.returns
returns c =
    let l = c.loop-b in
    let f = c.args.frame.now in
    let done = puts_done hex_byte (λ i. get_or f i 0) 2 l.b-index (length f) (2 * length f) l.invariant.put (omega arith) (omega arith) in
    put_most (put_line f (put_as done (ap (flat_map hex_byte) (tabulate_of (λ i. get_or f i 0) 0 f (length f) refl (λ i h. refl)))) (omega arith) c.put_end.ensures) (omega arith)
