use Rattle.std.proofs.Common.{sym, take}
use lib.Seq.{length-take-le}
use Rattle.relevancy.proofs.OperationLaws.{begin_refused, begin_runs}
use Rattle.relevancy_calls.proofs.TakenLaws.{all_taken, refused_so}
use Rattle.relevancy_calls.proofs.fit.begin.Goals as goal

pub returns-in-Err : goal.returns-in-Err
returns-in-Err c =
    let a = c.args in
    let said = c.in-Err.ensures.refused in
    begin_refused a.table.now a.answer.now a.work.now a.session c.in-Err.e (refused_so _ a.answer.now a.work.now _ c.too_small.ensures _ said.0) said.1 c.refused.result c.refused.ensures

pub slice_bounds-run-end : goal.slice_bounds-run-end
slice_bounds-run-end c = (all_taken c.args.table.now c.args.answer.now c.args.work.now _ c.too_small.ensures c.in-Ok.ensures.taken.1).work_long

pub slice_bounds-run-end-2 : goal.slice_bounds-run-end-2
slice_bounds-run-end-2 c = sym (length-take-le 65536 c.args.work.now (all_taken c.args.table.now c.args.answer.now c.args.work.now _ c.too_small.ensures c.in-Ok.ensures.taken.1).work_long)

pub run-requires : goal.run-requires
run-requires c =
    let all = all_taken c.args.table.now c.args.answer.now c.args.work.now _ c.too_small.ensures c.in-Ok.ensures.taken.1 in
    record { in_bounds = (all.answer_long, length-take-le 65536 c.args.work.now all.work_long) }

pub returns : goal.returns
returns c =
    let a = c.args in
    let all = all_taken a.table.now a.answer.now a.work.now _ c.too_small.ensures c.in-Ok.ensures.taken.1 in
    begin_runs a.table.now a.answer.now a.work.now a.session all c.run.result c.run.new.answer c.run.new.work (rw c.in-Ok.ensures.taken.0 at c.run.ensures)
