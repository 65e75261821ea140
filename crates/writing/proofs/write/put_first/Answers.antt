-- The line's bytes one after another, and its end.
use Rattle.std.proofs.Common.{ℕ, ◌+◌, List, [], ◌∷◌, ◌++◌, get_or, ap, arith}
use Rattle.lists.specs.Tabulate.{tabulate}
use Rattle.problem.specs.Digit.{hex_line}
use Rattle.writing.proofs.WriteLaws.{put_as, put_first, put_frame, put_hex, put_line, heading_frame_lem}
use Rattle.writing.proofs.write.put_first.Goals as goal

pub returns : goal.returns
returns c =
    let tb : List ℕ = c.args.table.now in
    let k : ℕ = get_or tb 0 0 in
    let n : ℕ = c.min.result in
    let two = put_hex (1 ∷ []) 1 (put_first 1 c.put_byte-kind.ensures) (omega arith) c.put_byte-version.ensures in
    let four = put_hex (1 ∷ 1 ∷ k ∷ []) n (put_hex (1 ∷ 1 ∷ []) k two (omega arith) c.put_byte-constants.ensures) (omega arith) c.put_byte-predicates.ensures in
    let frame : List ℕ = tabulate (λ j. get_or tb (4 + j) 0) 4 in
    put_as
    (put_line ((1 ∷ 1 ∷ k ∷ n ∷ []) ++ frame) (put_frame (1 ∷ 1 ∷ k ∷ n ∷ []) frame four (omega arith) c.put_bytes-limit.ensures) (omega arith) c.put_end.ensures)
    (ap hex_line (heading_frame_lem tb n c.requires.0 c.min.ensures))
