use Rattle.std.proofs.Common.{ℕ, [], ◌∷◌, ◌≡◌, length, take, rules, sym, ◌∙◌, Result, Ok, Err}
use lib.Seq.{length-take-le}
use Rattle.problem.specs.declared.fault.Fault.{Fault}
use Rattle.problem.proofs.Theorems.{valid_table}
use Rattle.judging.specs.Holding.{holding_named, holding_result}
use Rattle.judging.proofs.CheckLoops.{unjudged_says, judged_says, judged_good}
use Rattle.judging.proofs.how_far.how_far.Goals as goal

pub returns-in_err-judgeable : goal.returns-in_err-judgeable
unfolding holding_result
returns-in_err-judgeable c =
    let a = c.args in
    let same : ◌≡◌ {A = Result ℕ Fault} c.from_residual.result (Err c.in_err-judgeable.field-0.0) = search rules in
    same ∙ unjudged_says a.table.now a.answer.now Err (λ q. holding_named q a.answer.now a.clause (a.a ∷ a.b ∷ a.c ∷ a.d ∷ [])) (sym c.judgeable.ensures ∙ c.in_err-judgeable.was)

pub slice_bounds-held-end : goal.slice_bounds-held-end
slice_bounds-held-end c = sym (length-take-le 4096 c.args.table.now (judged_good c.args.table.now c.args.answer.now (sym c.judgeable.ensures ∙ c.in_ok-judgeable.was)).long)

pub held-requires-clause-lawful : goal.held-requires-clause-lawful
held-requires-clause-lawful c = valid_table (take 4096 c.args.table.now) (judged_good c.args.table.now c.args.answer.now (sym c.judgeable.ensures ∙ c.in_ok-judgeable.was)).valid

pub returns : goal.returns
unfolding holding_result
returns c =
    let a = c.args in
    c.held.ensures
    ∙ judged_says a.table.now a.answer.now (sym c.judgeable.ensures ∙ c.in_ok-judgeable.was) Err (λ q. holding_named q a.answer.now a.clause (a.a ∷ a.b ∷ a.c ∷ a.d ∷ []))
