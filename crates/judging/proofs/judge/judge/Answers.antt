use Rattle.std.proofs.Common.{◌≡◌, length, take, rules, sym, ap, ◌∙◌, Result, Ok, Err}
use lib.Seq.{length-take-le}
use Rattle.problem.specs.declared.fault.Fault.{Fault}
use Rattle.problem.proofs.Theorems.{valid_table}
use Rattle.judging.specs.declared.judge.Judgement.{Judgement}
use Rattle.judging.specs.ModelCheck.{check_of, judge_result}
use Rattle.judging.proofs.CheckLoops.{unjudged_says, judged_says, judged_good}
use Rattle.judging.proofs.judge.judge.Goals as goal

pub returns-in_err-judgeable : goal.returns-in_err-judgeable
unfolding judge_result
returns-in_err-judgeable c =
    let a = c.args in
    let same : ◌≡◌ {A = Result Judgement Fault} c.from_residual.result (Err c.in_err-judgeable.field-0.0) = search rules in
    same ∙ unjudged_says a.table.now a.answer.now Err (λ q. Ok (check_of q a.answer.now)) (sym c.judgeable.ensures ∙ c.in_err-judgeable.was)

pub slice_bounds-check_clauses-end : goal.slice_bounds-check_clauses-end
slice_bounds-check_clauses-end c =
    sym (length-take-le 4096 c.args.table.now (judged_good c.args.table.now c.args.answer.now (sym c.judgeable.ensures ∙ c.in_ok-judgeable.was)).long)

pub check_clauses-requires-clause-lawful : goal.check_clauses-requires-clause-lawful
check_clauses-requires-clause-lawful c =
    valid_table (take 4096 c.args.table.now) (judged_good c.args.table.now c.args.answer.now (sym c.judgeable.ensures ∙ c.in_ok-judgeable.was)).valid

pub returns : goal.returns
unfolding judge_result
returns c =
    let a = c.args in
    ap Ok c.check_clauses.ensures ∙ judged_says a.table.now a.answer.now (sym c.judgeable.ensures ∙ c.in_ok-judgeable.was) Err (λ q. Ok (check_of q a.answer.now))
