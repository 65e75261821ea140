use Rattle.std.proofs.Common.{ℕ, ◌<◌, ◌≡◌, List, arith, get_or, sym, ◌∙◌}
use Rattle.problem.specs.Layout.{problem_in}
use Rattle.problem.specs.Table.{Lawful}
use Rattle.judging.specs.ModelCheck.{violates}
use Rattle.ground.proofs.Turns.{ClauseKnown, clause_known, clause_listed, turn_starts, turn_placed, turn_asks, turn_next}
use Rattle.judging.proofs.CheckLoops.{violated_same, clause_violated, clause_model}
use Rattle.judging.proofs.judge.check_clause.Goals as goal

-- clause k is one of the table's
known : (tb : List ℕ) → Lawful tb → (k : ℕ) → k < get_or tb 2 0 → ClauseKnown tb k
known tb h k l = clause_known tb h k (clause_listed tb h k l)

pub bounds-table-at : goal.bounds-table-at
bounds-table-at c = let k = known c.args.table.now c.requires.lawful c.args.k c.requires.k_bound.0 in omega (arith, k.size, k.few)

pub bounds-table-at-2 : goal.bounds-table-at-2
bounds-table-at-2 c = let k = known c.args.table.now c.requires.lawful c.args.k c.requires.k_bound.0 in omega (arith, k.size, k.few)

pub bounds-table-at-3 : goal.bounds-table-at-3
bounds-table-at-3 c = let k = known c.args.table.now c.requires.lawful c.args.k c.requires.k_bound.0 in omega (arith, k.size, k.few)

pub loop-init : goal.loop-init
loop-init c =
    let q = problem_in c.args.table.now in
    turn_starts q (violates q c.args.flags.now) c.args.k (known c.args.table.now c.requires.lawful c.args.k c.requires.k_bound.0).fits

pub violated-requires-clause-placed : goal.violated-requires-clause-placed
violated-requires-clause-placed c =
    let tb = c.args.table.now in
    let k = known tb c.requires.lawful c.args.k c.requires.k_bound.0 in
    let l = c.loop in
    turn_placed tb c.requires.lawful c.args.k (clause_listed tb c.requires.lawful c.args.k c.requires.k_bound.0) (violates (problem_in tb) c.args.flags.now) l.values l.counter
    (omega (arith, c.loop-test.true, c.pair-count.ensures, k.instances)) l.invariant c.args.flags.now c.requires.k_bound.1

pub returns-then-violated : goal.returns-then-violated
returns-then-violated c =
    let tb = c.args.table.now in
    let k = known tb c.requires.lawful c.args.k c.requires.k_bound.0 in
    let l = c.loop in
    sym
    (clause_violated (problem_in tb) c.args.flags.now c.args.k k.fits l.values l.counter l.invariant
    (omega (arith, c.loop-test.true, c.pair-count.ensures, k.instances)) _ c.violated.ensures c.if-violated.true)

pub step-requires : goal.step-requires
step-requires c =
    let tb = c.args.table.now in
    let k = known tb c.requires.lawful c.args.k c.requires.k_bound.0 in
    let l = c.loop in
    turn_asks tb c.requires.lawful c.args.k (clause_listed tb c.requires.lawful c.args.k c.requires.k_bound.0) (violates (problem_in tb) c.args.flags.now) l.values l.counter
    (omega (arith, c.loop-test.true, c.pair-count.ensures, k.instances)) l.invariant

pub loop-preserved : goal.loop-preserved
loop-preserved c =
    let tb = c.args.table.now in
    let k = known tb c.requires.lawful c.args.k c.requires.k_bound.0 in
    let l = c.loop in
    turn_next tb c.requires.lawful c.args.k (clause_listed tb c.requires.lawful c.args.k c.requires.k_bound.0) (violates (problem_in tb) c.args.flags.now) l.values l.counter
    (omega (arith, c.loop-test.true, c.pair-count.ensures, k.instances)) l.invariant c.step.new.values
    (violated_same (problem_in tb) c.args.flags.now c.args.k k.fits l.values ∙ sym c.violated.ensures ∙ c.if-violated.false) c.step.ensures c.step.auto.values

pub returns : goal.returns
returns c =
    let tb = c.args.table.now in
    let k = known tb c.requires.lawful c.args.k c.requires.k_bound.0 in
    let l = c.loop in
    sym
    (clause_model (problem_in tb) c.args.flags.now c.args.k k.fits l.values l.counter l.invariant (omega (arith, c.loop-test.false, c.pair-count.ensures, k.instances)))
