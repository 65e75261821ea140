-- A line more, and all of them.
use Rattle.std.proofs.Common.{ℕ, ◌+◌, ◌*◌, List, get_or, min, arith}
use Rattle.problem.specs.Digit.{hex_line}
use Rattle.problem.specs.Problem.{Clause}
use Rattle.problem.specs.Layout.{clause_in, arities_in}
use Rattle.problem.specs.Print.{clause_frame}
use Rattle.writing.proofs.WriteLaws.{puts_none, puts_more, puts_done}
use Rattle.writing.proofs.write.put_clauses.Goals as goal

abbrev line : Clause → List ℕ
line k = hex_line (clause_frame k)

abbrev clause_at : List ℕ → ℕ → Clause
clause_at tb k = clause_in (arities_in tb) tb (144 + 56 * k)

pub loop-k-init : goal.loop-k-init
loop-k-init c = puts_none line (clause_at c.args.table.now) 71 c.args.out.now c.args.at

pub put_clause-next-requires : goal.put_clause-next-requires
put_clause-next-requires c = omega arith

pub loop-k-preserved : goal.loop-k-preserved
loop-k-preserved c =
    puts_more line (clause_at c.args.table.now) 71 c.loop-k.k c.loop-k.invariant (omega arith) c.put_clause-next.ensures

pub returns : goal.returns
returns c =
    let tb : List ℕ = c.args.table.now in
    puts_done line (clause_at tb) 71 c.loop-k.k (min (get_or tb 2 0) 64) (71 * min (get_or tb 2 0) 64) c.loop-k.invariant (omega arith) (omega arith)
