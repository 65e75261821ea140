-- A byte more, and all of them.
use Rattle.std.proofs.Common.{◌+◌, ◌*◌, get_or, arith}
use Rattle.problem.specs.Digit.{hex_byte}
use Rattle.writing.proofs.WriteLaws.{puts_none, puts_more, puts_done}
use Rattle.writing.proofs.write.put_bytes.Goals as goal

pub loop-j-init : goal.loop-j-init
loop-j-init c = puts_none hex_byte (λ i. get_or c.args.table.now (c.args.from + i) 0) 2 c.args.out.now c.args.at

pub put_byte-next-requires : goal.put_byte-next-requires
put_byte-next-requires c = omega arith

pub loop-j-preserved : goal.loop-j-preserved
loop-j-preserved c =
    puts_more hex_byte (λ i. get_or c.args.table.now (c.args.from + i) 0) 2 c.loop-j.j c.loop-j.invariant (omega arith) c.put_byte-next.ensures

pub returns : goal.returns
returns c =
    puts_done hex_byte (λ i. get_or c.args.table.now (c.args.from + i) 0) 2 c.loop-j.j c.args.count (2 * c.args.count) c.loop-j.invariant (omega arith) (omega arith)
