use mathlib.Core.Path.{refl}
use Rattle.session.proofs.EndLaws.{first_replied}
use Rattle.ending.proofs.reply.Goals as goal

pub returns : goal.returns
returns g c =
    let a = c.args in
    let e = a.sites.now in
    let give = c.give_model in
    first_replied (g.S.Sites.walker e) (g.met.S.Sites.tied e c.requires.known) a.limit a.limit refl a.walked a.facts.now a.path.now a.answer.now c.requires.walks
    (record { verdict = c.verdict_by.result; deepest = c.deepest.result }) c.verdict_by.ensures c.deepest.ensures give.new.answer c.atoms.result c.atoms.ensures give.ensures
