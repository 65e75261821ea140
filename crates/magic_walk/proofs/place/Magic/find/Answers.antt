use mathlib.Core.Path.{◌∙◌}
use Rattle.magic_walk.proofs.FindLaws.{settled_as, split_few, node_split}
use Rattle.magic_walk.proofs.place.Magic.find.Goals as goal

pub note-requires-clause-number_bound : goal.note-requires-clause-number_bound
note-requires-clause-number_bound c =
    let a = c.args in
    let z = c.settle-node in
    split_few a.self.now.rules.now c.requires.ruled.0 a.facts.now a.n _ _ _ _ _ _ z.new.r
    (settled_as a.self.now.rules.now a.facts.now a.n z.result _ z.new.r c.in-Split.is z.ensures)

pub returns-in-Split : goal.returns-in-Split
returns-in-Split c =
    let a = c.args in
    let z = c.settle-node in
    let o = c.note in (
      node_split a.self.now.rules.now c.requires.ruled.0 a.facts.now a.path.now a.depth a.n a.done a.from c.requires.room.0 c.requires.room.1 z.new.r c.requires.room.2 _ _ _ _ _ _
          (settled_as a.self.now.rules.now a.facts.now a.n z.result _ z.new.r c.in-Split.is z.ensures) o.new.path (o.auto.path ∙ c.requires.room.0.size) o.ensures,
      o.ensures.mark_is,
    )
