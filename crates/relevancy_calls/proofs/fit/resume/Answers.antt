use Rattle.std.proofs.Common.{sym, ◌∙◌}
use lib.Seq.{length-take-le}
use Rattle.relevancy.proofs.OperationLaws.{resume_refused, resume_runs}
use Rattle.relevancy_calls.proofs.TakenLaws.{all_taken, refused_so}
use Rattle.relevancy_calls.proofs.fit.resume.Goals as goal

pub returns-in-Err : goal.returns-in-Err
returns-in-Err c =
    let a = c.args in
    let said = c.in-Err.ensures.refused in
    resume_refused a.table.now a.answer.now a.work.now a.session a.further c.in-Err.e (refused_so _ a.answer.now a.work.now _ c.too_small.ensures _ said.0) said.1 c.refused.result c.refused.ensures

pub slice_bounds-go_further-end : goal.slice_bounds-go_further-end
slice_bounds-go_further-end c = (all_taken c.args.table.now c.args.answer.now c.args.work.now _ c.too_small.ensures c.in-Ok.ensures.taken.1).work_long

pub slice_bounds-go_further-end-2 : goal.slice_bounds-go_further-end-2
slice_bounds-go_further-end-2 c = sym (length-take-le 65536 c.args.work.now (all_taken c.args.table.now c.args.answer.now c.args.work.now _ c.too_small.ensures c.in-Ok.ensures.taken.1).work_long)

pub go_further-requires-clause-in_bounds : goal.go_further-requires-clause-in_bounds
go_further-requires-clause-in_bounds c =
    let all = all_taken c.args.table.now c.args.answer.now c.args.work.now _ c.too_small.ensures c.in-Ok.ensures.taken.1 in
    (all.answer_long, length-take-le 65536 c.args.work.now all.work_long)

pub returns : goal.returns
returns c =
    let a = c.args in
    let all = all_taken a.table.now a.answer.now a.work.now _ c.too_small.ensures c.in-Ok.ensures.taken.1 in
    resume_runs a.table.now a.answer.now a.work.now a.session a.further all c.go_further.result c.go_further.new.answer c.go_further.new.work (rw (c.table.view_is ∙ c.in-Ok.ensures.taken.0) at c.go_further.ensures)
