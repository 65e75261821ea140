use mathlib.Core.Path.{sym}
use native.Mathlib.Omega.{arith}
use Rattle.search.specs.Relevancy.{find_r}
use Rattle.ground.specs.Instance.{ground_in}
use Rattle.session.specs.Calls.{called_in}
use Rattle.session.proofs.CallLaws.{kept_bounds, called_over, called_unkept}
use Rattle.session.proofs.EndLaws.{left_refused}
use Rattle.relevancy.proofs.further.go_further.Goals as goal

pub returns-then-further-session : goal.returns-then-further-session
returns-then-further-session c =
    let a = c.args in
    let p = ground_in a.table.now in
    left_refused (called_in (find_r p) p.atoms a.session a.further) a.session a.answer.now a.work.now 41 (called_over (find_r p) p.atoms a.session a.further (omega arith)) c.refused.result c.refused.ensures

pub returns-then-not-is_kept : goal.returns-then-not-is_kept
returns-then-not-is_kept c =
    let a = c.args in
    let p = ground_in a.table.now in
    left_refused (called_in (find_r p) p.atoms a.session a.further) a.session a.answer.now a.work.now 42
    (called_unkept (find_r p) p.atoms a.session a.further (omega arith) c.atoms.result c.atoms.ensures (sym c.if-not-is_kept.ensures))
    c.refused-then-not-is_kept.result c.refused-then-not-is_kept.ensures

pub further_run-requires-clause-length_le_deepest : goal.further_run-requires-clause-length_le_deepest
further_run-requires-clause-length_le_deepest c =
    let h = kept_bounds c.atoms.result c.args.session (sym c.if-not-is_kept.ensures) in
    (h.2, omega (arith, h.3, c.atoms.ensures))
