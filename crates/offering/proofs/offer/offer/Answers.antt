use Rattle.std.proofs.Common.{◌≡◌, rules, sym, ◌∙◌, arith, length-take-le, Result, Err}
use Rattle.problem.specs.declared.fault.Fault.{Fault}
use Rattle.offering.proofs.OfferLaws.{own_lawful, slip_room, lent, offer_refused, offer_fault, offer_done, offer_short}
use Rattle.offering.proofs.offer.offer.Goals as goal

pub returns-in_err-taken : goal.returns-in_err-taken
returns-in_err-taken c =
    let same : ◌≡◌ {A = Result (Unit {0}) Fault} c.from_residual.result (Err c.in_err-taken.field-0.0) = search rules in
    let left = offer_refused c.args.table.now c.args.frame.now c.args.slip.now (sym c.taken.ensures ∙ c.in_err-taken.was) in
    (same ∙ left.0, left.1)

pub slice_bounds-own-end : goal.slice_bounds-own-end
slice_bounds-own-end c = sym (length-take-le 4096 c.args.table.now (lent c.args.table.now c.args.frame.now c.args.slip.now (sym c.taken.ensures ∙ c.in_ok-taken.was)).long)

pub judge_next-requires-clause-lawful : goal.judge_next-requires-clause-lawful
judge_next-requires-clause-lawful c = own_lawful c.args.table.now c.args.slip.now (lent c.args.table.now c.args.frame.now c.args.slip.now (sym c.taken.ensures ∙ c.in_ok-taken.was))

pub returns-in_err-judge_next : goal.returns-in_err-judge_next
returns-in_err-judge_next c =
    let same : ◌≡◌ {A = Result (Unit {0}) Fault} c.from_residual-in_err-judge_next.result (Err c.in_err-judge_next.field-0.0) = search rules in
    let left = offer_fault c.args.table.now c.args.frame.now c.args.slip.now (sym c.taken.ensures ∙ c.in_ok-taken.was) _ c.judge_next.ensures.judged _ c.in_err-judge_next.was in
    (same ∙ left.0, left.1)

pub bounds-own-2 : goal.bounds-own-2
bounds-own-2 c = omega (arith, length-take-le 4096 c.args.table.now (lent c.args.table.now c.args.frame.now c.args.slip.now (sym c.taken.ensures ∙ c.in_ok-taken.was)).long)

pub fill-requires : goal.fill-requires
fill-requires c = (
  slip_room c.args.table.now c.args.slip.now (lent c.args.table.now c.args.frame.now c.args.slip.now (sym c.taken.ensures ∙ c.in_ok-taken.was)),
  offer_short c.args.table.now c.args.frame.now c.args.slip.now (sym c.taken.ensures ∙ c.in_ok-taken.was) _ c.judge_next.ensures.judged _ c.in_ok-judge_next.was,
)

pub returns : goal.returns
returns c = offer_done c.args.table.now c.args.frame.now c.args.slip.now (sym c.taken.ensures ∙ c.in_ok-taken.was) _ c.judge_next.ensures.judged _ _ c.in_ok-judge_next.was c.fill.ensures
