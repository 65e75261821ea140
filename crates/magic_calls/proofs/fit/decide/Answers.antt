use Rattle.std.proofs.Common.{refl}
use Rattle.walk.specs.terms.Walker.{from_root}
use Rattle.magic_walk.specs.terms.Place.{magic_walker}
use Rattle.magic.proofs.EngineLaws.{no_facts, first_run}
use Rattle.magic_calls.proofs.fit.decide.Goals as goal

pub walk_whole-whole-requires-clause-store : goal.walk_whole-whole-requires-clause-store
walk_whole-whole-requires-clause-store c = (no_facts, c.requires.in_bounds.1)

pub conclude-requires-clause-limit_value : goal.conclude-requires-clause-limit_value
conclude-requires-clause-limit_value c = (from_root (magic_walker c.rules.inside.bytes.now) 0 c.args.limit, (refl, c.walk_whole-whole.ensures.1))

pub returns : goal.returns
returns c =
    let a = c.args in
    let bs = c.rules.inside.bytes.now in
    let d = c.conclude in
    rw (← c.rules.view_is)
    (first_run bs a.limit a.answer.now d.result d.new.answer (d.ensures (from_root (magic_walker bs) 0 a.limit) refl c.walk_whole-whole.ensures.1))
