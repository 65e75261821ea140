-- A line more, and all of them.
use Rattle.std.proofs.Common.{◌≡◌, ℕ, ◌+◌, ◌*◌, List, get_or, min, ap, ◌∙◌, arith}
use Rattle.lists.proofs.Tabulate.{tabulate_at}
use Rattle.problem.specs.Digit.{hex_line}
use Rattle.problem.specs.Print.{arity_frame}
use Rattle.writing.proofs.WriteLaws.{put_as, puts_none, puts_more, puts_done}
use Rattle.writing.proofs.write.put_arities.Goals as goal

abbrev line : ℕ → List ℕ
line a = hex_line (arity_frame a)

abbrev arity_at : List ℕ → ℕ → ℕ
arity_at tb j = min (get_or tb (16 + 4 * j) 0) 3

pub loop-k-init : goal.loop-k-init
loop-k-init c = puts_none line (arity_at c.args.table.now) 5 c.args.out.now c.args.at

pub put_arity-next-requires : goal.put_arity-next-requires
put_arity-next-requires c = omega arith

pub loop-k-preserved : goal.loop-k-preserved
loop-k-preserved c =
    let tb : List ℕ = c.args.table.now in
    let l = c.loop-k in
    let same : c.arity_in.result ≡ arity_at tb l.k = c.arity_in.ensures.0 ∙ tabulate_at (arity_at tb) 0 (min (get_or tb 1 0) 32) l.k (omega arith) in
    puts_more line (arity_at tb) 5 l.k l.invariant (omega arith) (put_as c.put_arity-next.ensures (ap line same))

pub returns : goal.returns
returns c =
    let tb : List ℕ = c.args.table.now in
    puts_done line (arity_at tb) 5 c.loop-k.k (min (get_or tb 1 0) 32) 160 c.loop-k.invariant (omega arith) (omega arith)
