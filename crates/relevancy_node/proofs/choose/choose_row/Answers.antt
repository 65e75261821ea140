use Rattle.std.proofs.Common.{ℕ, true, ◌≤◌, ◌≡◌, length, eqb, arith, ap, sym, ◌∙◌}
use Rattle.ground.specs.terms.Sides.{slot_at}
use Rattle.relevancy_rule.specs.terms.Choose.{bare}
use Rattle.relevancy_rule.proofs.InstanceLaws.{number_is, slot_numbered}
use Rattle.relevancy_rule.proofs.RowLaws.{some_early, first_numbered, early_small, late_small, row_placed, rowing_starts, rowing_placed, rowing_atoms, rowing_more, rowing_here, rowing_ends}
use Rattle.relevancy_node.proofs.choose.choose_row.Goals as goal

pub number_at-a-requires-clause-numbered : goal.number_at-a-requires-clause-numbered
number_at-a-requires-clause-numbered c =
    let a = c.args in
    let s = c.requires.splitting in
    let placed = row_placed a.table.now c.requires.lawful a.r.now (omega (arith, c.requires.first_steps.1)) a.k s.0 s.1 in
    let at : c.slot_at.result ≡ slot_at (bare a.table.now a.k) a.k 0 = c.slot_at.ensures ∙ ap (λ (n : ℕ). slot_at (eqb n 0) a.k 0) c.atoms_of-none.ensures in
    slot_numbered a.table.now a.values.now (bare a.table.now a.k) a.k 0 _ at
    (first_numbered a.table.now c.requires.lawful a.r.now a.k s.0 a.values.now placed (bare a.table.now a.k) (some_early s.0))

pub number_at-b-requires-clause-numbered : goal.number_at-b-requires-clause-numbered
number_at-b-requires-clause-numbered c =
    let a = c.args in
    let s = c.requires.splitting in
    let placed = row_placed a.table.now c.requires.lawful a.r.now (omega (arith, c.requires.first_steps.1)) a.k s.0 s.1 in
    slot_numbered a.table.now a.values.now true a.k 0 _ c.slot_at-2.ensures
    (first_numbered a.table.now c.requires.lawful a.r.now a.k s.0 a.values.now placed true (omega (arith, s.0.several)))

pub loop-d-init : goal.loop-d-init
loop-d-init c =
    let a = c.args in
    let s = c.requires.splitting in
    let at : c.slot_at.result ≡ slot_at (bare a.table.now a.k) a.k 0 = c.slot_at.ensures ∙ ap (λ (n : ℕ). slot_at (eqb n 0) a.k 0) c.atoms_of-none.ensures in
    rowing_starts a.table.now c.requires.lawful a.r.now (omega (arith, c.requires.first_steps.1)) a.k s.0 s.1 _ _
    (record {
      early = number_is a.table.now a.values.now (bare a.table.now a.k) a.k 0 _ _ at c.number_at-a.ensures;
      late = number_is a.table.now a.values.now true a.k 0 _ _ c.slot_at-2.ensures c.number_at-b.ensures;
    })

pub split_at-requires-clause-placed : goal.split_at-requires-clause-placed
split_at-requires-clause-placed c =
    let a = c.args in
    let s = c.requires.splitting in
    (rowing_placed a.table.now c.requires.lawful a.r.now (omega (arith, c.requires.first_steps.1)) a.k s.0 s.1 c.loop-d.invariant c.loop-d-test.true, s.0)

pub split_at-requires-clause-r_len : goal.split_at-requires-clause-r_len
split_at-requires-clause-r_len c =
    let a = c.args in
    let s = c.requires.splitting in (
      c.requires.first_steps.1,
      ap (λ (n : ℕ). eqb n 0) c.atoms_of-none.ensures,
      rowing_atoms a.table.now c.requires.lawful a.r.now (omega (arith, c.requires.first_steps.1)) a.k s.0 s.1 c.loop-d.invariant c.loop-d-test.true,
    )

pub returns-then-split_at : goal.returns-then-split_at
returns-then-split_at c =
    let a = c.args in
    let s = c.requires.splitting in
    rowing_here a.table.now c.requires.lawful a.r.now (omega (arith, c.requires.first_steps.1)) a.k s.0 s.1 c.loop-d.invariant c.loop-d-test.true (sym c.split_at.ensures ∙ c.if-split_at.true)

pub overflow_add-a : goal.overflow_add-a
overflow_add-a c =
    let a = c.args in
    let s = c.requires.splitting in
    let room : 1024 ≤ length a.r.now = omega (arith, c.requires.first_steps.1) in
    let placed = rowing_placed a.table.now c.requires.lawful a.r.now room a.k s.0 s.1 c.loop-d.invariant c.loop-d-test.true in
    let atoms = rowing_atoms a.table.now c.requires.lawful a.r.now room a.k s.0 s.1 c.loop-d.invariant c.loop-d-test.true in
    omega (arith, early_small a.table.now c.requires.lawful a.r.now a.k s.0 _ placed atoms, c.requires.first_steps.0.early.small)

pub overflow_add-b : goal.overflow_add-b
overflow_add-b c =
    let a = c.args in
    let s = c.requires.splitting in
    let room : 1024 ≤ length a.r.now = omega (arith, c.requires.first_steps.1) in
    let placed = rowing_placed a.table.now c.requires.lawful a.r.now room a.k s.0 s.1 c.loop-d.invariant c.loop-d-test.true in
    let atoms = rowing_atoms a.table.now c.requires.lawful a.r.now room a.k s.0 s.1 c.loop-d.invariant c.loop-d-test.true in
    omega (arith, late_small a.table.now c.requires.lawful a.r.now a.k s.0 _ placed atoms, c.requires.first_steps.0.late.small)

pub loop-d-preserved : goal.loop-d-preserved
loop-d-preserved c =
    let a = c.args in
    let s = c.requires.splitting in
    rowing_more a.table.now c.requires.lawful a.r.now (omega (arith, c.requires.first_steps.1)) a.k s.0 s.1 c.loop-d.invariant c.loop-d-test.true c.requires.first_steps.0 (sym c.split_at.ensures ∙ c.if-split_at.false)

pub returns : goal.returns
returns c =
    let a = c.args in
    let s = c.requires.splitting in
    rowing_ends a.table.now c.requires.lawful a.r.now (omega (arith, c.requires.first_steps.1)) a.k s.0 s.1 c.loop-d.invariant c.loop-d-test.false
