use Rattle.std.proofs.Common.{◌≡◌, rules, Result, Err}
use Rattle.problem.specs.declared.fault.Fault.{Fault}
use Rattle.offering.proofs.OfferLaws.{add_fault, add_room, add_done}
use Rattle.offering.proofs.offer.add.Goals as goal

pub returns-in_err-judge_next : goal.returns-in_err-judge_next
returns-in_err-judge_next c =
    let same : ◌≡◌ {A = Result (Unit {0}) Fault} c.from_residual.result (Err c.in_err-judge_next.field-0.0) = search rules in
    rw same (add_fault _ _ c.requires _ c.judge_next.ensures.judged _ c.in_err-judge_next.was)

pub append-requires-clause-table_bound : goal.append-requires-clause-table_bound
append-requires-clause-table_bound c = (add_room _ _ c.requires _ c.judge_next.ensures.judged _ c.in_ok-judge_next.was, c.judge_next.ensures.size)

pub returns : goal.returns
returns c = add_done _ _ c.requires _ c.judge_next.ensures.judged _ c.in_ok-judge_next.was _ _ c.judge_next.ensures c.append.ensures
