use Rattle.std.proofs.Common.{arith, sym}
use Rattle.problem.specs.Layout.{problem_in}
use Rattle.ground.proofs.Turns.{clause_known}
use Rattle.judging.proofs.CheckLoops.{violated_short, violated_rest}
use Rattle.judging.proofs.judge.violated.Goals as goal

pub bounds-table-k : goal.bounds-table-k
bounds-table-k c =
    let k = clause_known c.args.table.now c.requires.lawful c.args.k c.requires.placed.known in
    omega (arith, k.size, k.few)

pub returns-then-holding-table : goal.returns-then-holding-table
returns-then-holding-table c =
    let tb = c.args.table.now in
    let k = clause_known tb c.requires.lawful c.args.k c.requires.placed.known in
    violated_rest (problem_in tb) c.args.flags.now c.args.k c.args.values.now _ _ c.holding.ensures k.conditions c.if-holding-table.true _ c.none_holds.ensures

pub returns-else-holding-table : goal.returns-else-holding-table
returns-else-holding-table c =
    let tb = c.args.table.now in
    let k = clause_known tb c.requires.lawful c.args.k c.requires.placed.known in
    violated_short (problem_in tb) c.args.flags.now c.args.k c.args.values.now _ _ c.holding.ensures k.conditions c.if-holding-table.false
