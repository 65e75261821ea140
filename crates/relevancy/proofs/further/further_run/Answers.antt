use Prim.Native.Nat.{◌+◌}
use mathlib.Core.Path.{refl, ◌∙◌}
use native.Mathlib.Omega.{arith}
use Rattle.search.specs.Relevancy.{find_r}
use Rattle.problem.specs.Layout.{problem_in}
use Rattle.ground.specs.Instance.{ground_in}
use Rattle.ground.proofs.Instances.{atoms_few}
use Rattle.walk.specs.terms.Path.{deepest_at}
use Rattle.session.specs.Calls.{called_in}
use Rattle.session.proofs.CallLaws.{is_kept_lem}
use Rattle.session.proofs.EndLaws.{left_refused, further_nowhere, further_walks, further-Concluded}
use Rattle.relevancy_walk.specs.terms.Place.{relevancy_walker}
use Rattle.relevancy.proofs.EngineLaws.{no_facts, root_flags}
use Rattle.relevancy.proofs.further.further_run.Goals as goal

pub bring-requires : goal.bring-requires
bring-requires c = (refl, omega (arith, c.requires.length_le_deepest.1, atoms_few (problem_in c.args.table.now) c.requires.lawful.fits))

pub root-found-requires-clause-store : goal.root-found-requires-clause-store
root-found-requires-clause-store c = (no_facts, record { size = c.bring.auto.path; deep = omega arith })

pub build-requires-clause-r_len : goal.build-requires-clause-r_len
build-requires-clause-r_len c =
    let b = c.root-found in
    (b.auto.facts, root_flags c.args.table.now c.requires.lawful _ b.new.facts b.new.path b.ensures.0)

pub returns-in_default : goal.returns-in_default
returns-in_default c =
    let a = c.args in
    let r = c.requires in
    let q = c.go_on-went in
    let p = ground_in a.table.now in
    left_refused (called_in (find_r p) p.atoms a.session a.further) a.session a.answer.now a.work.now 42
    (further_nowhere (relevancy_walker a.table.now) p.atoms a.session a.further (is_kept_lem p.atoms a.session r.verdict_bound.0 r.verdict_bound.1 r.length_le_deepest.0 r.length_le_deepest.1) r.verdict_bound.2
    (deepest_at c.root-found.new.path) (c.root-found.ensures.1 ∙ c.bring.ensures.0) (a.session.count + a.further) q.result q.new.facts q.new.path q.ensures c.in_default.is)
    c.refused.result c.refused.ensures

pub conclude-requires-clause-limit_value : goal.conclude-requires-clause-limit_value
conclude-requires-clause-limit_value c =
    let a = c.args in
    let r = c.requires in
    let q = c.go_on-went in
    let p = ground_in a.table.now in
    further_walks (relevancy_walker a.table.now) p.atoms a.session a.further (is_kept_lem p.atoms a.session r.verdict_bound.0 r.verdict_bound.1 r.length_le_deepest.0 r.length_le_deepest.1) r.verdict_bound.2
    (deepest_at c.root-found.new.path) (c.root-found.ensures.1 ∙ c.bring.ensures.0) (a.session.count + a.further) q.result q.new.facts q.new.path q.ensures c.in-Some.walked c.in-Some.is

pub returns : goal.returns
returns c =
    let a = c.args in
    let r = c.requires in
    let q = c.go_on-went in
    let p = ground_in a.table.now in
    let z = c.zero in
    let d = c.conclude in
    further-Concluded (relevancy_walker a.table.now) p.atoms a.session a.further (is_kept_lem p.atoms a.session r.verdict_bound.0 r.verdict_bound.1 r.length_le_deepest.0 r.length_le_deepest.1) r.verdict_bound.2
    (deepest_at c.root-found.new.path) (c.root-found.ensures.1 ∙ c.bring.ensures.0) (a.session.count + a.further) q.result q.new.facts q.new.path q.ensures c.in-Some.walked c.in-Some.is refl
    a.answer.now a.work.now r.in_bounds.1 d.result d.new.answer z.new.dst d.ensures z.ensures
