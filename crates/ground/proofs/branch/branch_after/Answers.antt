use Rattle.std.proofs.Common.{arith}
use Rattle.ground.specs.terms.Branching.{number_in}
use Rattle.ground.proofs.BranchLaws.{passed_here, passed_more, few_all}
use Rattle.ground.proofs.branch.branch_after.Goals as goal

pub returns-then-n-count : goal.returns-then-n-count
returns-then-n-count c =
    few_all (number_in c.args.bs.now c.args.first c.args.stride c.args.values.now) c.args.n c.args.count c.if-n-count.true

pub returns-then-found-more : goal.returns-then-found-more
returns-then-found-more c =
    let l = c.loop-i in
    passed_here (number_in c.args.bs.now c.args.first c.args.stride c.args.values.now) c.args.n l.i l.found l.seen (omega arith) l.invariant
    c.number_in-a.result c.number_in-a.ensures c.fresh-more.result c.fresh-more.ensures (omega arith) c.args.count c.loop-i-test.true

pub loop-i-preserved : goal.loop-i-preserved
loop-i-preserved c =
    let l = c.loop-i in
    passed_more (number_in c.args.bs.now c.args.first c.args.stride c.args.values.now) c.args.n l.i l.found l.seen (omega arith) l.invariant
    c.number_in-a.result c.number_in-a.ensures c.fresh-more.result c.fresh-more.ensures (omega arith)
