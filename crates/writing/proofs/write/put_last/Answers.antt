-- The line's two bytes and its end.
use Rattle.std.proofs.Common.{ℕ, [], ◌∷◌, ap, arith}
use Rattle.problem.specs.Digit.{hex_line}
use Rattle.writing.proofs.WriteLaws.{put_as, put_first, put_hex, put_line, closing_frame_lem}
use Rattle.writing.proofs.write.put_last.Goals as goal

pub returns : goal.returns
returns c =
    let n : ℕ = c.min.result in
    put_as
    (put_line (255 ∷ n ∷ []) (put_hex (255 ∷ []) n (put_first 255 c.put_byte-kind.ensures) (omega arith) c.put_byte-count.ensures) (omega arith) c.put_end.ensures)
    (ap hex_line (closing_frame_lem c.args.table.now n c.min.ensures))
