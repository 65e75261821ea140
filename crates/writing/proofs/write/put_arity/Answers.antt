-- The line's two bytes and its end.
use Rattle.std.proofs.Common.{[], ◌∷◌, arith}
use Rattle.writing.proofs.WriteLaws.{put_first, put_hex, put_line}
use Rattle.writing.proofs.write.put_arity.Goals as goal

pub returns : goal.returns
returns c =
    put_line (2 ∷ c.args.a ∷ []) (put_hex (2 ∷ []) c.args.a (put_first 2 c.put_byte-kind.ensures) (omega arith) c.put_byte-next.ensures) (omega arith) c.put_end.ensures
