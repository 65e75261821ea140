use Rattle.std.proofs.Common.{sym, ap, ◌∙◌, arith}
use lib.Seq.{length-take-le}
use Rattle.writing.specs.terms.Lent.{refusal_of}
use Rattle.parting.proofs.CallLaws.{relevancy_refused, relevancy_lent, relevancy_parts}
use Rattle.parts_calls.proofs.by_relevancy.parts_relevancy.Goals as goal

pub returns-in-Err : goal.returns-in-Err
returns-in-Err c =
    let said = c.in-Err.ensures.refused in
    relevancy_refused c.args.table.now c.args.answer.now c.args.work.now c.args.count.now c.in-Err.e (said.0 ∙ ap (refusal_of c.args.table.now) c.too_small.ensures) said.1

pub slice_bounds-fit_parts-end : goal.slice_bounds-fit_parts-end
slice_bounds-fit_parts-end c = (relevancy_lent c.args.table.now c.args.answer.now c.args.work.now c.args.count.now 0 (sym c.in-Ok.ensures.taken.1 ∙ ap (refusal_of c.args.table.now) c.too_small.ensures) (omega arith)).work_long

pub slice_bounds-fit_parts-end-2 : goal.slice_bounds-fit_parts-end-2
slice_bounds-fit_parts-end-2 c = sym (length-take-le 65536 c.args.work.now (relevancy_lent c.args.table.now c.args.answer.now c.args.work.now c.args.count.now 0 (sym c.in-Ok.ensures.taken.1 ∙ ap (refusal_of c.args.table.now) c.too_small.ensures) (omega arith)).work_long)

pub fit_parts-counted-requires-clause-in_bounds : goal.fit_parts-counted-requires-clause-in_bounds
fit_parts-counted-requires-clause-in_bounds c =
    let lent = relevancy_lent c.args.table.now c.args.answer.now c.args.work.now c.args.count.now 0 (sym c.in-Ok.ensures.taken.1 ∙ ap (refusal_of c.args.table.now) c.too_small.ensures) (omega arith) in
    (lent.answer_long, length-take-le 65536 c.args.work.now lent.work_long)

pub returns : goal.returns
returns c =
    let u = c.fit_parts-counted in
    relevancy_parts c.args.table.now c.args.answer.now c.args.work.now c.args.count.now 0 (sym c.in-Ok.ensures.taken.1 ∙ ap (refusal_of c.args.table.now) c.too_small.ensures) (omega arith) u.result.parting u.result.count _ _ (rw (c.table.view_is ∙ c.in-Ok.ensures.taken.0) at u.ensures)
