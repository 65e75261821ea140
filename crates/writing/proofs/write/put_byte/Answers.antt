-- The two digits.
use Rattle.std.proofs.Common.{arith}
use Rattle.writing.proofs.WriteLaws.{put_two}
use Rattle.writing.proofs.write.put_byte.Goals as goal

pub returns : goal.returns
returns c =
    let a = c.args in
    put_two a.out.now a.at a.b c.digit_of.result c.digit_of-2.result (omega arith) c.requires c.digit_of.ensures c.digit_of-2.ensures
