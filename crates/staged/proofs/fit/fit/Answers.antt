use mathlib.Core.Path.{sym, ap, ◌∙◌}
use lib.ListN.{take}
use lib.Seq.{length-take-le}
use Rattle.problem.proofs.Theorems.{valid_table}
use Rattle.writing.specs.terms.Lent.{refusal_of}
use Rattle.relevancy.proofs.EngineLaws.{unrefused}
use Rattle.staged.proofs.EngineLaws.{fit_refused, fit_runs}
use Rattle.staged.proofs.fit.fit.Goals as goal

-- the number that it is refused by, or 0, is that of what is lent
pub returns-then-e-gt0 : goal.returns-then-e-gt0
returns-then-e-gt0 c =
    let a = c.args in
    fit_refused a.table.now a.answer.now a.work.now c.refusal-e.result (c.refusal-e.ensures ∙ ap (refusal_of a.table.now) c.too_small.ensures) c.if-e-gt0.true

pub slice_bounds-run-end : goal.slice_bounds-run-end
slice_bounds-run-end c =
    let a = c.args in
    let good = unrefused a.table.now a.answer.now a.work.now c.refusal-e.result (c.refusal-e.ensures ∙ ap (refusal_of a.table.now) c.too_small.ensures) c.if-e-gt0.false in
    sym (length-take-le 4096 a.table.now good.table_long)

pub slice_bounds-run-end-2 : goal.slice_bounds-run-end-2
slice_bounds-run-end-2 c =
    let a = c.args in
    (unrefused a.table.now a.answer.now a.work.now c.refusal-e.result (c.refusal-e.ensures ∙ ap (refusal_of a.table.now) c.too_small.ensures) c.if-e-gt0.false).work_long

pub slice_bounds-run-end-3 : goal.slice_bounds-run-end-3
slice_bounds-run-end-3 c =
    let a = c.args in
    let good = unrefused a.table.now a.answer.now a.work.now c.refusal-e.result (c.refusal-e.ensures ∙ ap (refusal_of a.table.now) c.too_small.ensures) c.if-e-gt0.false in
    sym (length-take-le 65536 a.work.now good.work_long)

pub run-requires-clause-lawful : goal.run-requires-clause-lawful
run-requires-clause-lawful c =
    let a = c.args in
    let good = unrefused a.table.now a.answer.now a.work.now c.refusal-e.result (c.refusal-e.ensures ∙ ap (refusal_of a.table.now) c.too_small.ensures) c.if-e-gt0.false in
    valid_table (take 4096 a.table.now) good.valid

pub run-requires-clause-in_bounds : goal.run-requires-clause-in_bounds
run-requires-clause-in_bounds c =
    let a = c.args in
    let good = unrefused a.table.now a.answer.now a.work.now c.refusal-e.result (c.refusal-e.ensures ∙ ap (refusal_of a.table.now) c.too_small.ensures) c.if-e-gt0.false in
    (good.answer_long, length-take-le 65536 a.work.now good.work_long)

pub returns : goal.returns
returns c =
    let a = c.args in
    let u = c.run in
    fit_runs a.table.now a.answer.now a.work.now (unrefused a.table.now a.answer.now a.work.now c.refusal-e.result (c.refusal-e.ensures ∙ ap (refusal_of a.table.now) c.too_small.ensures) c.if-e-gt0.false)
    u.result u.new.answer u.new.work u.ensures
