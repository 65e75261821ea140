use Rattle.staged_walk.proofs.AltLaws.{named_alike, next_alike}
use Rattle.staged_walk.proofs.place.ByTableSites.alternative_at.Goals as goal

pub alternative_at-requires-clause-room : goal.alternative_at-requires-clause-room
alternative_at-requires-clause-room c = (c.requires.room.0, named_alike c.args.self.now.table.now c.args.path.now c.args.depth c.requires.room.1)

pub returns : goal.returns
returns c =
    let b = c.alternative_at in
    next_alike c.args.self.now.table.now c.args.path.now c.args.depth c.args.j b.result b.ensures
