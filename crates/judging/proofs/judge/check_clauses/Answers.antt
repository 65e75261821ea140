use Rattle.std.proofs.Common.{arith, sym, ◌∙◌}
use Rattle.problem.specs.Layout.{problem_in}
use Rattle.judging.specs.ModelCheck.{violates}
use Rattle.ground.proofs.AtomLaws.{table_size}
use Rattle.ground.proofs.Turns.{clauses_byte, clause_listed, clauses_start}
use Rattle.judging.proofs.CheckLoops.{check_on, check_stop, check_end}
use Rattle.judging.proofs.judge.check_clauses.Goals as goal

pub bounds-table-2 : goal.bounds-table-2
bounds-table-2 c = omega (arith, table_size c.args.table.now c.requires.lawful)

pub loop-k-init : goal.loop-k-init
loop-k-init c = clauses_start (problem_in c.args.table.now) (violates (problem_in c.args.table.now) c.args.flags.now)

pub returns-in-Violated : goal.returns-in-Violated
returns-in-Violated c =
    let l = c.loop-k in
    let tb = c.args.table.now in
    sym
    (check_stop (problem_in tb) c.args.flags.now l.k (clause_listed tb c.requires.lawful l.k c.loop-k-test.true) l.invariant _ _ _ _ _
    (sym c.check_clause.ensures ∙ c.in-Violated.is))

pub loop-k-preserved : goal.loop-k-preserved
loop-k-preserved c =
    let l = c.loop-k in
    let tb = c.args.table.now in
    check_on (problem_in tb) c.args.flags.now l.k (clause_listed tb c.requires.lawful l.k c.loop-k-test.true) l.invariant (λ j v₀ v₁ v₂ v₃ e. c.in_default.not-Violated j v₀ v₁ v₂ v₃ (c.check_clause.ensures ∙ e))

pub returns : goal.returns
returns c =
    let l = c.loop-k in
    let tb = c.args.table.now in
    sym (check_end (problem_in tb) c.args.flags.now l.k (omega (arith, clauses_byte tb c.requires.lawful)) l.invariant)
