use Prim.Native.Nat.{ℕ, ◌+◌}
use mathlib.Core.Path.{refl, sym, ap, ◌∙◌}
use native.Mathlib.Omega.{arith}
use lib.ListN.{replicate, length-replicate}
use Rattle.rewriting.specs.Facts.{find_in}
use Rattle.walk.specs.terms.Path.{deepest_at}
use Rattle.session.specs.Calls.{called_in}
use Rattle.session.proofs.CallLaws.{is_kept_lem}
use Rattle.session.proofs.EndLaws.{further_nowhere, further_walks, further-Concluded}
use Rattle.magic_walk.specs.terms.Place.{magic_walker}
use Rattle.magic.proofs.FurtherLaws.{Says-declined}
use Rattle.magic.proofs.EngineLaws.{no_facts}
use Rattle.magic.proofs.further.further_run.Goals as goal

pub root-found-requires-clause-store : goal.root-found-requires-clause-store
root-found-requires-clause-store c = (no_facts, record { size = c.bring.auto.path; deep = omega arith })

pub returns-in_default : goal.returns-in_default
returns-in_default c =
    let a = c.args in
    let r = c.requires in
    let q = c.go_on-went in
    Says-declined (called_in (find_in a.rules.now) a.atoms a.session a.further) a.session a.answer.now 42
    (further_nowhere (magic_walker a.rules.now) a.atoms a.session a.further (is_kept_lem a.atoms a.session r.verdict_bound.0 r.verdict_bound.1 r.length_le_deepest.0 r.length_le_deepest.1) r.verdict_bound.2
    (deepest_at c.root-found.new.path) (c.root-found.ensures.2 ∙ c.bring.ensures.0) (a.session.count + a.further) q.result q.new.facts q.new.path q.ensures c.in_default.is)
    c.refused.result c.refused.ensures

pub conclude-requires-clause-limit_value : goal.conclude-requires-clause-limit_value
conclude-requires-clause-limit_value c =
    let a = c.args in
    let r = c.requires in
    let q = c.go_on-went in
    further_walks (magic_walker a.rules.now) a.atoms a.session a.further (is_kept_lem a.atoms a.session r.verdict_bound.0 r.verdict_bound.1 r.length_le_deepest.0 r.length_le_deepest.1) r.verdict_bound.2
    (deepest_at c.root-found.new.path) (c.root-found.ensures.2 ∙ c.bring.ensures.0) (a.session.count + a.further) q.result q.new.facts q.new.path q.ensures c.in-Some.walked c.in-Some.is

-- no work buffer is lent to it: this one is as good as any
pub returns : goal.returns
returns c =
    let a = c.args in
    let r = c.requires in
    let q = c.go_on-went in
    let d = c.conclude in
    let said =
    further-Concluded (magic_walker a.rules.now) a.atoms a.session a.further (is_kept_lem a.atoms a.session r.verdict_bound.0 r.verdict_bound.1 r.length_le_deepest.0 r.length_le_deepest.1) r.verdict_bound.2
    (deepest_at c.root-found.new.path) (c.root-found.ensures.2 ∙ c.bring.ensures.0) (a.session.count + a.further) q.result q.new.facts q.new.path q.ensures c.in-Some.walked c.in-Some.is refl
    a.answer.now (replicate 65536 0) (length-replicate {A = ℕ} 65536 0) d.result d.new.answer (replicate 65536 0) d.ensures (ap (λ (n : ℕ). replicate n 0) (sym (length-replicate {A = ℕ} 65536 0))) in
    (said.0, said.1, said.2)
