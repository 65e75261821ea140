use Rattle.std.proofs.Common.{sym, ◌∙◌, arith}
use Rattle.magic_rule.proofs.ChooseLaws.{choose_found, choose_next, choose_over}
use Rattle.magic_node.proofs.choose.choose.Goals as goal

pub returns-in-Some : goal.returns-in-Some
returns-in-Some c =
    let l = c.loop-q in
    sym (choose_found c.args.rules.now c.requires.ruled c.args.r.now l.q l.rank l.invariant (omega (arith, c.loop-q-test.true, c.rule_count-q-end.ensures)) c.in-Some.choice (sym c.choose_of.ensures ∙ c.in-Some.is))

pub loop-q-preserved : goal.loop-q-preserved
loop-q-preserved c =
    let l = c.loop-q in
    choose_next c.args.rules.now c.requires.ruled c.args.r.now l.q l.rank l.invariant (omega (arith, c.loop-q-test.true, c.rule_count-q-end.ensures)) (sym c.choose_of.ensures ∙ c.in_default.is)

pub returns : goal.returns
returns c = let l = c.loop-q in sym (choose_over c.args.rules.now c.requires.ruled c.args.r.now l.q l.rank l.invariant (omega (arith, c.rule_count-q-end.ensures, c.loop-q-test.false)))
