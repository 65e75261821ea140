use Rattle.std.proofs.Common.{arith, sym}
use Rattle.problem.specs.Layout.{problem_in}
use Rattle.relevancy_rule.specs.terms.Node.{splittable_in}
use Rattle.ground.proofs.AtomLaws.{table_size}
use Rattle.ground.proofs.Turns.{clauses_byte, clause_listed, clauses_start}
use Rattle.relevancy_rule.proofs.ChooseLaws.{choose_on, choose_stop, choose_end}
use Rattle.relevancy_node.proofs.choose.choose.Goals as goal

pub bounds-table-2 : goal.bounds-table-2
bounds-table-2 c = omega (arith, table_size c.args.table.now c.requires.lawful)

pub loop-k-init : goal.loop-k-init
loop-k-init c = clauses_start (problem_in c.args.table.now) (splittable_in c.args.table.now c.args.r.now)

pub returns-in-Some : goal.returns-in-Some
returns-in-Some c =
    let l = c.loop-k in
    let tb = c.args.table.now in
    sym (choose_stop tb c.args.r.now l.k (clause_listed tb c.requires.lawful l.k c.loop-k-test.true) l.invariant (cc))

pub loop-k-preserved : goal.loop-k-preserved
loop-k-preserved c =
    let l = c.loop-k in
    let tb = c.args.table.now in
    choose_on tb c.args.r.now l.k (clause_listed tb c.requires.lawful l.k c.loop-k-test.true) l.invariant (cc)

pub returns : goal.returns
returns c =
    let tb = c.args.table.now in
    sym (choose_end tb c.args.r.now c.loop-k.k (omega (arith, clauses_byte tb c.requires.lawful)) c.loop-k.invariant)
