-- The lines one after another.
use Rattle.std.proofs.Common.{ℕ, ◌+◌, ◌*◌, ◌≤◌, List, length, get_or, min, arith}
use Rattle.problem.specs.Layout.{problem_in}
use Rattle.problem.specs.Print.{text_of, print}
use Rattle.writing.proofs.WriteLaws.{put_then, put_most}
use Rattle.writing.proofs.write.print_table.Goals as goal

pub returns : goal.returns
unfolding problem_in text_of print
returns c =
    let tb : List ℕ = c.args.table.now in
    let room : 182 + 71 * min (get_or tb 2 0) 64 ≤ length c.args.out.now = c.requires.1 in
    let two = put_then c.put_first-first.ensures (omega arith) c.put_arities-arities.ensures in
    let three = put_then two (omega arith) c.put_clauses-clauses.ensures in
    put_most (put_then three (omega arith) c.put_last.ensures) (omega arith)
