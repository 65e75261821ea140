use Rattle.std.proofs.Common.{◌≡◌, ◌<◌, not, sym, ap, ◌∙◌, arith}
use Rattle.lists.specs.Member.{every}
use Rattle.lists.specs.Bytes.{is_set}
use Rattle.ground.proofs.AtomLaws.{every_more, every_stops}
use Rattle.magic_rule.specs.terms.Rule.{given_count, given_number}
use Rattle.magic_rule.proofs.AskLaws.{given_in, heads_row}
use Rattle.magic_node.proofs.choose.none_true.Goals as goal

pub row_number-requires-clause-in_row : goal.row_number-requires-clause-in_row
row_number-requires-clause-in_row c = given_in c.requires.ruled c.requires.applied _ (omega (arith, c.loop-i-test.true, c.byte_of-m.ensures))

pub returns-then-holds : goal.returns-then-holds
returns-then-holds c =
    let a = c.args in
    let here : c.loop-i.i < given_count a.rules.now a.q = omega (arith, c.loop-i-test.true, c.byte_of-m.ensures) in
    sym
    (ap (every (λ x. not (is_set a.r.now x))) (heads_row c.requires.ruled c.requires.applied c.requires.splits.0)
    ∙ every_stops (λ x. not (is_set a.r.now x)) (given_number a.rules.now a.q a.values.now) c.loop-i.i _ here c.loop-i.invariant (ap not (rw c.row_number.ensures.0 at (sym c.if-holds.ensures))))

pub loop-i-preserved : goal.loop-i-preserved
loop-i-preserved c =
    let a = c.args in
    every_more (λ x. not (is_set a.r.now x)) (given_number a.rules.now a.q a.values.now) c.loop-i.i c.loop-i.invariant (ap not (rw c.row_number.ensures.0 at (sym c.if-holds.ensures)))

pub returns : goal.returns
returns c =
    let a = c.args in
    let last : c.loop-i.i ≡ given_count a.rules.now a.q = omega (arith, c.byte_of-m.ensures) in
    sym (ap (every (λ x. not (is_set a.r.now x))) (heads_row c.requires.ruled c.requires.applied c.requires.splits.0) ∙ rw (← last) c.loop-i.invariant)
