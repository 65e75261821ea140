use Rattle.search.specs.Session.{place_of}
use Rattle.walk.specs.Numbers.{session_of}
use Rattle.walk.specs.terms.Path.{deepest_at}
use Rattle.walk.proofs.ResumeLaws.{root_so_far, goes_on}
use Rattle.engine.proofs.resume.go_on.Goals as goal

pub resume-requires-clause-depth_value : goal.resume-requires-clause-depth_value
resume-requires-clause-depth_value g c = let a = c.args in root_so_far (g.E.Sites.walker a.engine.now) a.path.now a.atoms.now a.nexts.now

pub returns : goal.returns
returns g c =
    let a = c.args in
    let w = g.E.Sites.walker a.engine.now in
    let q = c.resume in
    goes_on w (place_of w.find (session_of a.on.standing a.on.count a.atoms.now a.nexts.now a.steps a.on.next (deepest_at a.path.now))) a.on.count a.on.limit a.facts.now a.path.now 0
    q.result q.new.facts q.new.path q.ensures
