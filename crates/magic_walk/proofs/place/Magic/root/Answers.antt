use Rattle.walk.proofs.PlaceLaws.{root_made}
use Rattle.magic_walk.specs.terms.Place.{magic_walker}
use Rattle.magic_walk.proofs.FreshLaws.{root_opening, root_fresh}
use Rattle.magic_walk.proofs.place.Magic.root.Goals as goal

pub find-requires-clause-room : goal.find-requires-clause-room
find-requires-clause-room c =
    let rules = c.args.self.now.rules.now in
    let n = c.start-n in
    (c.requires.store.1, root_opening rules n.new.r c.args.path.now n.result n.ensures, root_fresh rules n.new.r c.args.path.now n.result n.ensures)

pub returns : goal.returns
returns c =
    let f = c.find in
    let n = c.start-n in
    (root_made (magic_walker c.args.self.now.rules.now) n.new.r c.args.path.now n.result f.result f.new.facts f.new.path f.ensures.0, f.ensures.1, f.ensures.0.deepest_is)
