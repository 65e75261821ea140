use mathlib.Core.Path.{refl}
use Rattle.walk.specs.terms.Walker.{from_root}
use Rattle.walk.specs.terms.Path.{deepest_at}
use Rattle.walk.proofs.WalkLaws.{start_visiting, root_walks}
use Rattle.engine.proofs.visiting.from_root.Goals as goal

pub returns : goal.returns
returns g c =
    let a = c.args in
    let v = c.visit in
    let w = g.E.Sites.walker a.engine.now in
    let r = from_root w (deepest_at a.path.now) a.limit in
    root_walks w r a.facts.now a.path.now 0 0 v.result v.new.facts v.new.path v.ensures.0
    (v.ensures.1 r refl (start_visiting w a.limit a.facts.now a.path.now a.found c.requires.beginning))
