use native.Mathlib.Omega.{arith}
use Rattle.magic_rule.proofs.RuledLaws.{ruled_headed}
use Rattle.magic_walk.specs.AltLaws.{read_few, read_slots, read_next}
use Rattle.magic_walk.proofs.place.alternative_at.Goals as goal

pub bounds-rules-record : goal.bounds-rules-record
bounds-rules-record c =
    let a = c.args in
    omega (
      arith,
      read_few a.rules.now c.requires.ruled a.path.now a.depth c.requires.room.1 c.number.result c.number.ensures c.values-four.result c.values-four.ensures,
      c.requires.ruled.size,
    )

pub branch_after-requires-clause-headed : goal.branch_after-requires-clause-headed
branch_after-requires-clause-headed c = ruled_headed c.args.rules.now c.requires.ruled

pub branch_after-requires-clause-slots_numbered : goal.branch_after-requires-clause-slots_numbered
branch_after-requires-clause-slots_numbered c =
    let a = c.args in
    read_slots a.rules.now c.requires.ruled a.path.now a.depth c.requires.room.1 c.number.result c.number.ensures c.values-four.result c.values-four.ensures

pub returns : goal.returns
returns c =
    let a = c.args in
    let b = c.branch_after in
    read_next a.rules.now c.requires.ruled a.path.now a.depth c.requires.room.1 c.number.result c.number.ensures c.values-four.result c.values-four.ensures a.j b.result b.ensures
