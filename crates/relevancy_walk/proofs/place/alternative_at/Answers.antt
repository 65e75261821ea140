use native.Mathlib.Omega.{arith}
use Rattle.ground.proofs.AtomLaws.{lawful_headed}
use Rattle.relevancy_walk.proofs.AltLaws.{site_clause, slots_numbered, slots_next}
use Rattle.relevancy_walk.proofs.place.alternative_at.Goals as goal

pub bounds-table-record : goal.bounds-table-record
bounds-table-record c =
    let clause = site_clause c.args.table.now c.requires.lawful c.args.path.now c.args.depth c.requires.room.1 in
    omega (arith, clause.few, clause.size)

pub branch_after-requires-clause-headed : goal.branch_after-requires-clause-headed
branch_after-requires-clause-headed c = lawful_headed c.args.table.now c.requires.lawful

pub branch_after-requires-clause-slots_numbered : goal.branch_after-requires-clause-slots_numbered
branch_after-requires-clause-slots_numbered c =
    let k = c.number in
    let v = c.values-four in
    slots_numbered c.args.table.now c.requires.lawful c.args.path.now c.args.depth c.requires.room.1 k.result v.result k.ensures v.ensures

pub returns : goal.returns
returns c =
    let k = c.number in
    let v = c.values-four in
    let b = c.branch_after in
    slots_next c.args.table.now c.requires.lawful c.args.path.now c.args.depth c.requires.room.1 k.result v.result k.ensures v.ensures c.args.j b.result b.ensures
