use mathlib.Core.Path.{◌∙◌}
use Rattle.walk.specs.terms.Place.{Finding}
use Rattle.walk.proofs.PlaceLaws.{root_made}
use Rattle.staged_walk.specs.terms.Place.{staged_walker}
use Rattle.staged_walk.proofs.FreshLaws.{root_opening, root_fresh}
use Rattle.staged_walk.proofs.FindLaws.{own_few, node-Told}
use Rattle.staged_walk.proofs.place.Staged.root.Goals as goal

pub settle-node-requires-clause-stages_opening : goal.settle-node-requires-clause-stages_opening
settle-node-requires-clause-stages_opening c =
    let b = c.start-n in
    root_opening c.args.self.now.table.now c.args.facts.now b.new.r b.result b.ensures

pub tell-requires : goal.tell-requires
tell-requires c =
    let b = c.start-n in
    let z = c.settle-node in
    let room = c.requires.store.1 in (
      room,
      own_few c.args.self.now.table.now c.requires.lawful b.new.r c.args.path.now 0 b.result 0 (root_fresh c.args.self.now.table.now c.args.facts.now b.new.r b.result b.ensures c.args.path.now room) z.new.r z.result z.ensures,
    )

pub returns : goal.returns
returns c =
    let b = c.start-n in
    let z = c.settle-node in
    let t = c.tell in
    let w = staged_walker c.args.self.now.table.now in
    let room = c.requires.store.1 in
    let f : Finding w b.new.r c.args.path.now 0 b.result 0 t.result z.new.r t.new.path =
    node-Told c.args.self.now.table.now c.requires.lawful b.new.r c.args.path.now 0 b.result 0 (root_fresh c.args.self.now.table.now c.args.facts.now b.new.r b.result b.ensures c.args.path.now room) z.new.r z.result z.ensures
    t.result t.new.path (t.auto.path ∙ room.size) t.ensures in
    (root_made w b.new.r c.args.path.now b.result t.result z.new.r t.new.path f, f.deepest_is)
