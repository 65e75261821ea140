use mathlib.Core.Path.{◌∙◌}
use Rattle.magic_walk.specs.AltLaws.{read_applied, read_place}
use Rattle.magic_walk.proofs.place.Magic.split_place.Goals as goal

pub place_at-requires-clause-applied : goal.place_at-requires-clause-applied
place_at-requires-clause-applied c =
    let a = c.args in
    read_applied a.self.now.rules.now c.requires.ruled a.path.now a.depth c.requires.room.1 c.number.result c.number.ensures c.values-four.result c.values-four.ensures

pub returns : goal.returns
returns c =
    let a = c.args in
    c.place_at.ensures ∙ read_place a.self.now.rules.now c.requires.ruled a.path.now a.depth c.requires.room.1 c.number.result c.number.ensures c.values-four.result c.values-four.ensures
