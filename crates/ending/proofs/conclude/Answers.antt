use Rattle.session.proofs.EndLaws.{concluded}
use Rattle.ending.proofs.conclude.Goals as goal

pub returns : goal.returns
returns g c =
    let a = c.args in
    let e = a.sites.now in
    let give = c.give_model in
    let left = c.path_left-left in
    concluded (g.S.Sites.walker e) (g.met.S.Sites.tied e c.requires.known) a.walked a.limit a.facts.now a.path.now a.answer.now left.result c.moved.result give.new.answer left.ensures c.moved.ensures
    c.atoms.result c.atoms.ensures give.ensures
