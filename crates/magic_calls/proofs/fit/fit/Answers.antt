use Rattle.std.proofs.Common.{sym, ◌∙◌}
use lib.Seq.{length-take-le}
use Rattle.magic.proofs.EngineLaws.{fit_refused, fit_replies}
use Rattle.magic_calls.proofs.TakenLaws.{all_taken, refused_so}
use Rattle.magic_calls.proofs.fit.fit.Goals as goal

pub returns-in-Err : goal.returns-in-Err
returns-in-Err c =
    let a = c.args in
    let said = c.in-Err.ensures.refused in
    fit_refused a.table.now a.rules.now a.answer.now a.work.now c.in-Err.e (refused_so _ a.rules.now a.answer.now a.work.now _ c.any_too_small.ensures _ said.0) said.1

pub slice_bounds-run-end : goal.slice_bounds-run-end
slice_bounds-run-end c = (all_taken c.args.table.now c.args.rules.now c.args.answer.now c.args.work.now _ c.any_too_small.ensures c.in-Ok.ensures.taken.1).rules_long

pub slice_bounds-run-end-2 : goal.slice_bounds-run-end-2
slice_bounds-run-end-2 c = sym (length-take-le 16384 c.args.rules.now (all_taken c.args.table.now c.args.rules.now c.args.answer.now c.args.work.now _ c.any_too_small.ensures c.in-Ok.ensures.taken.1).rules_long)

pub slice_bounds-run-end-3 : goal.slice_bounds-run-end-3
slice_bounds-run-end-3 c = (all_taken c.args.table.now c.args.rules.now c.args.answer.now c.args.work.now _ c.any_too_small.ensures c.in-Ok.ensures.taken.1).work_long

pub slice_bounds-run-end-4 : goal.slice_bounds-run-end-4
slice_bounds-run-end-4 c = sym (length-take-le 65536 c.args.work.now (all_taken c.args.table.now c.args.rules.now c.args.answer.now c.args.work.now _ c.any_too_small.ensures c.in-Ok.ensures.taken.1).work_long)

pub run-requires-clause-rules_len : goal.run-requires-clause-rules_len
run-requires-clause-rules_len c =
    let all = all_taken c.args.table.now c.args.rules.now c.args.answer.now c.args.work.now _ c.any_too_small.ensures c.in-Ok.ensures.taken.1 in
    (length-take-le 16384 c.args.rules.now all.rules_long, all.answer_long, length-take-le 65536 c.args.work.now all.work_long)

pub returns : goal.returns
returns c =
    let a = c.args in
    let all = all_taken c.args.table.now c.args.rules.now c.args.answer.now c.args.work.now _ c.any_too_small.ensures c.in-Ok.ensures.taken.1 in
    let u = c.run in
    fit_replies a.table.now a.rules.now a.answer.now a.work.now all u.result u.new.rules u.new.answer u.new.work (rw (c.table.view_is ∙ c.in-Ok.ensures.taken.0) at u.ensures)
