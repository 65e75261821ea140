use mathlib.Core.Path.{◌∙◌}
use native.Mathlib.Omega.{arith}
use Rattle.magic_walk.specs.SoundLaws.{sound}
use Rattle.magic_walk.proofs.FreshLaws.{next_small, added_opening, added_room, added_fresh, added_made}
use Rattle.magic_walk.proofs.place.MagicEngine.enter.Goals as goal

pub pass-requires-clause-depth_bound : goal.pass-requires-clause-depth_bound
pass-requires-clause-depth_bound c =
    let node = c.requires.parted in
    omega (arith, c.requires.next_of.0, (sound c.args.self.now.rules.now c.requires.fit.0).four _ node.at_split.listed)

pub add-n-requires-clause-a_lt_size : goal.add-n-requires-clause-a_lt_size
add-n-requires-clause-a_lt_size c =
    let rules = c.args.self.now.rules.now in
    let small = next_small rules c.requires.fit.0 c.args.facts.now c.args.path.now c.args.depth c.requires.parted c.requires.next_of.0 in
    (omega (arith, c.requires.next_of.1, (sound rules c.requires.fit.0).few), omega arith)

pub find-requires-clause-room : goal.find-requires-clause-room
find-requires-clause-room c =
    let a = c.args in
    let rules = a.self.now.rules.now in
    let r = c.requires in
    let o = c.mark-own in
    let n = c.add-n in
    let p = c.pass in
    let from = c.split_place-from in (
      added_room rules r.fit.0 a.facts.now a.path.now a.depth r.parted r.next_of.0 o.result o.ensures a.a r.next_of.1 n.new.r n.result n.ensures p.new.path p.ensures (p.auto.path ∙ r.parted.room.size),
      added_opening rules r.fit.0 a.facts.now a.path.now a.depth r.parted r.next_of.0 o.result o.ensures a.a r.next_of.1 n.new.r n.result n.ensures from.result from.ensures,
      added_fresh rules r.fit.0 a.facts.now a.path.now a.depth r.parted r.next_of.0 o.result o.ensures a.a r.next_of.1 n.new.r n.result n.ensures p.new.path p.ensures,
    )

pub returns-clause-made : goal.returns-clause-made
returns-clause-made c =
    let a = c.args in
    let r = c.requires in
    let o = c.mark-own in
    let n = c.add-n in
    let p = c.pass in
    let f = c.find in
    λ count.
    added_made a.self.now.rules.now r.fit.0 a.facts.now a.path.now a.depth r.parted r.next_of.0 o.result o.ensures a.a r.next_of.1 n.new.r n.result n.ensures p.new.path p.ensures
    count f.result f.new.facts f.new.path f.ensures.0
