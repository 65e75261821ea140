use Rattle.std.proofs.Common.{sym, ap, ◌∙◌}
use lib.Seq.{length-take-le}
use Rattle.assuming.specs.terms.Made.{call_refusal}
use Rattle.assuming.proofs.RunLaws.{refused_says, facts_taken, magic_refused, magic_lent, magic_lawful, magic_says, magic_leaves, refused_rules}
use Rattle.assume_calls.proofs.by_magic.assume_magic.Goals as goal

pub returns-then-e-gt0 : goal.returns-then-e-gt0
returns-then-e-gt0 c =
    let a = c.args in
    let declined = magic_refused c.args.table.now c.args.facts.now c.args.rules.now c.args.answer.now c.args.work.now _ (c.refused-e.ensures ∙ ap (call_refusal c.args.table.now c.args.facts.now) c.any_too_small.ensures) c.if-e-gt0.true in
    let says = refused_says _ a.first.now a.second.now a.work.now _ declined in
    (says.0, says.1, says.2, refused_rules a.table.now a.facts.now a.rules.now _ _ declined, says.3)

pub slice_bounds-table-end : goal.slice_bounds-table-end
slice_bounds-table-end c = sym (length-take-le 4096 c.args.table.now (magic_lent c.args.table.now c.args.facts.now c.args.rules.now c.args.answer.now c.args.work.now _ (c.refused-e.ensures ∙ ap (call_refusal c.args.table.now c.args.facts.now) c.any_too_small.ensures) c.if-e-gt0.false).0)

pub invariant_of-table : goal.invariant_of-table
invariant_of-table c = magic_lawful c.args.table.now c.args.facts.now c.args.rules.now c.args.answer.now c.args.work.now _ (c.refused-e.ensures ∙ ap (call_refusal c.args.table.now c.args.facts.now) c.any_too_small.ensures) c.if-e-gt0.false

pub slice_bounds-run_both-end : goal.slice_bounds-run_both-end
slice_bounds-run_both-end c = (magic_lent c.args.table.now c.args.facts.now c.args.rules.now c.args.answer.now c.args.work.now _ (c.refused-e.ensures ∙ ap (call_refusal c.args.table.now c.args.facts.now) c.any_too_small.ensures) c.if-e-gt0.false).1

pub slice_bounds-run_both-end-2 : goal.slice_bounds-run_both-end-2
slice_bounds-run_both-end-2 c = sym (length-take-le 16384 c.args.rules.now (magic_lent c.args.table.now c.args.facts.now c.args.rules.now c.args.answer.now c.args.work.now _ (c.refused-e.ensures ∙ ap (call_refusal c.args.table.now c.args.facts.now) c.any_too_small.ensures) c.if-e-gt0.false).1)

pub slice_bounds-run_both-end-3 : goal.slice_bounds-run_both-end-3
slice_bounds-run_both-end-3 c = (magic_lent c.args.table.now c.args.facts.now c.args.rules.now c.args.answer.now c.args.work.now _ (c.refused-e.ensures ∙ ap (call_refusal c.args.table.now c.args.facts.now) c.any_too_small.ensures) c.if-e-gt0.false).2

pub slice_bounds-run_both-end-4 : goal.slice_bounds-run_both-end-4
slice_bounds-run_both-end-4 c = sym (length-take-le 65536 c.args.work.now (magic_lent c.args.table.now c.args.facts.now c.args.rules.now c.args.answer.now c.args.work.now _ (c.refused-e.ensures ∙ ap (call_refusal c.args.table.now c.args.facts.now) c.any_too_small.ensures) c.if-e-gt0.false).2)

pub run_both-made-requires : goal.run_both-made-requires
run_both-made-requires c =
    let lent = magic_lent c.args.table.now c.args.facts.now c.args.rules.now c.args.answer.now c.args.work.now _ (c.refused-e.ensures ∙ ap (call_refusal c.args.table.now c.args.facts.now) c.any_too_small.ensures) c.if-e-gt0.false in
    record { addable = (facts_taken c.args.table.now c.args.facts.now _ _ (c.refused-e.ensures ∙ ap (call_refusal c.args.table.now c.args.facts.now) c.any_too_small.ensures) c.if-e-gt0.false, length-take-le 16384 c.args.rules.now lent.1, length-take-le 65536 c.args.work.now lent.2) }

pub returns : goal.returns
returns c =
    let a = c.args in
    let u = c.run_both-made in
    let says = magic_says c.args.table.now c.args.facts.now c.args.rules.now c.args.answer.now c.args.work.now _ (c.refused-e.ensures ∙ ap (call_refusal c.args.table.now c.args.facts.now) c.any_too_small.ensures) c.if-e-gt0.false u.result _ _ u.ensures.0 u.ensures.1 a.first.now a.second.now in
    let rules = magic_leaves c.args.table.now c.args.facts.now c.args.rules.now c.args.answer.now c.args.work.now _ (c.refused-e.ensures ∙ ap (call_refusal c.args.table.now c.args.facts.now) c.any_too_small.ensures) c.if-e-gt0.false u.result _ _ u.ensures.0 u.ensures.1 in
    (says.0, says.1, says.2, rules, says.3)
