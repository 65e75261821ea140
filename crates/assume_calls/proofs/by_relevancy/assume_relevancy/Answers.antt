use Rattle.std.proofs.Common.{sym, ap, ◌∙◌}
use lib.Seq.{length-take-le}
use Rattle.assuming.specs.terms.Made.{call_refusal}
use Rattle.assuming.proofs.RunLaws.{refused_says, facts_taken, relevancy_refused, relevancy_lent, relevancy_lawful, relevancy_says}
use Rattle.assume_calls.proofs.by_relevancy.assume_relevancy.Goals as goal

pub returns-then-e-gt0 : goal.returns-then-e-gt0
returns-then-e-gt0 c =
    let a = c.args in
    refused_says _ a.first.now a.second.now a.work.now _ (relevancy_refused c.args.table.now c.args.facts.now c.args.answer.now c.args.work.now _ (c.refused-e.ensures ∙ ap (call_refusal c.args.table.now c.args.facts.now) c.too_small.ensures) c.if-e-gt0.true)

pub slice_bounds-table-end : goal.slice_bounds-table-end
slice_bounds-table-end c = sym (length-take-le 4096 c.args.table.now (relevancy_lent c.args.table.now c.args.facts.now c.args.answer.now c.args.work.now _ (c.refused-e.ensures ∙ ap (call_refusal c.args.table.now c.args.facts.now) c.too_small.ensures) c.if-e-gt0.false).0)

pub invariant_of-table : goal.invariant_of-table
invariant_of-table c = relevancy_lawful c.args.table.now c.args.facts.now c.args.answer.now c.args.work.now _ (c.refused-e.ensures ∙ ap (call_refusal c.args.table.now c.args.facts.now) c.too_small.ensures) c.if-e-gt0.false

pub slice_bounds-run_both-end : goal.slice_bounds-run_both-end
slice_bounds-run_both-end c = (relevancy_lent c.args.table.now c.args.facts.now c.args.answer.now c.args.work.now _ (c.refused-e.ensures ∙ ap (call_refusal c.args.table.now c.args.facts.now) c.too_small.ensures) c.if-e-gt0.false).1

pub slice_bounds-run_both-end-2 : goal.slice_bounds-run_both-end-2
slice_bounds-run_both-end-2 c = sym (length-take-le 65536 c.args.work.now (relevancy_lent c.args.table.now c.args.facts.now c.args.answer.now c.args.work.now _ (c.refused-e.ensures ∙ ap (call_refusal c.args.table.now c.args.facts.now) c.too_small.ensures) c.if-e-gt0.false).1)

pub run_both-made-requires : goal.run_both-made-requires
run_both-made-requires c =
    record { addable = (facts_taken c.args.table.now c.args.facts.now _ _ (c.refused-e.ensures ∙ ap (call_refusal c.args.table.now c.args.facts.now) c.too_small.ensures) c.if-e-gt0.false, length-take-le 65536 c.args.work.now (relevancy_lent c.args.table.now c.args.facts.now c.args.answer.now c.args.work.now _ (c.refused-e.ensures ∙ ap (call_refusal c.args.table.now c.args.facts.now) c.too_small.ensures) c.if-e-gt0.false).1) }

pub returns : goal.returns
returns c =
    let a = c.args in
    let u = c.run_both-made in
    relevancy_says c.args.table.now c.args.facts.now c.args.answer.now c.args.work.now _ (c.refused-e.ensures ∙ ap (call_refusal c.args.table.now c.args.facts.now) c.too_small.ensures) c.if-e-gt0.false u.result u.ensures.0 _ u.ensures.1 a.first.now a.second.now
