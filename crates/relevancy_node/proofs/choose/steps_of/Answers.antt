use Rattle.std.proofs.Common.{ℕ, true, ◌≡◌, eqb, arith, ap, ◌∙◌, subst}
use Rattle.kernel.specs.terms.Row.{StepsBy}
use Rattle.ground.specs.terms.Sides.{slot_at}
use Rattle.ground.proofs.AtomLaws.{lawful_headed}
use Rattle.relevancy_rule.specs.terms.Choose.{bare}
use Rattle.relevancy_rule.proofs.RowLaws.{some_early, first_slot}
use Rattle.relevancy_node.proofs.choose.steps_of.Goals as goal

pub step_in-early-requires-clause-headed : goal.step_in-early-requires-clause-headed
step_in-early-requires-clause-headed c = lawful_headed c.args.table.now c.requires.lawful

pub step_in-early-requires-clause-at_in_bounds : goal.step_in-early-requires-clause-at_in_bounds
step_in-early-requires-clause-at_in_bounds c =
    let tb = c.args.table.now in
    let s = c.requires.splitting in
    let at : c.slot_at.result ≡ slot_at (bare tb c.args.k) c.args.k 0 = c.slot_at.ensures ∙ ap (λ (n : ℕ). slot_at (eqb n 0) c.args.k 0) c.atoms_of-none.ensures in
    let f = first_slot tb c.requires.lawful c.args.k s.0 s.1 (bare tb c.args.k) (some_early s.0) c.slot_at.result at in
    (f.0, f.1, s.2)

pub step_in-late-requires-clause-headed : goal.step_in-late-requires-clause-headed
step_in-late-requires-clause-headed c = lawful_headed c.args.table.now c.requires.lawful

pub step_in-late-requires-clause-at_in_bounds : goal.step_in-late-requires-clause-at_in_bounds
step_in-late-requires-clause-at_in_bounds c =
    let tb = c.args.table.now in
    let s = c.requires.splitting in
    let f = first_slot tb c.requires.lawful c.args.k s.0 s.1 true (omega (arith, s.0.several)) c.slot_at-2.result c.slot_at-2.ensures in
    (f.0, f.1, s.2)

pub returns : goal.returns
returns c =
    let tb = c.args.table.now in
    let at : c.slot_at.result ≡ slot_at (bare tb c.args.k) c.args.k 0 = c.slot_at.ensures ∙ ap (λ (n : ℕ). slot_at (eqb n 0) c.args.k 0) c.atoms_of-none.ensures in
    record {
      early = subst (λ (x : ℕ). StepsBy tb x c.args.z c.step_in-early.result) at c.step_in-early.ensures;
      late = subst (λ (x : ℕ). StepsBy tb x c.args.z c.step_in-late.result) c.slot_at-2.ensures c.step_in-late.ensures;
    }
