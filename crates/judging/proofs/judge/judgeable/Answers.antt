use Rattle.std.proofs.Common.{true, false, arith, sym, ◌∙◌}
use Rattle.writing.proofs.LentLaws.{taken_by}
use Rattle.judging.proofs.CheckLoops.{unjudged_lent, bits_room, judged_bits}
use Rattle.judging.proofs.judge.judgeable.Goals as goal

pub returns-in-Err : goal.returns-in-Err
returns-in-Err c = unjudged_lent c.args.table.now c.args.answer.now (sym c.taken.ensures ∙ c.in-Err.is)

pub bounds-table-8 : goal.bounds-table-8
bounds-table-8 c = omega (arith, (taken_by _ _ (sym c.taken.ensures ∙ c.in-Ok.is)).long)

pub bounds-table-9 : goal.bounds-table-9
bounds-table-9 c = omega (arith, (taken_by _ _ (sym c.taken.ensures ∙ c.in-Ok.is)).long)

pub are_bits-requires : goal.are_bits-requires
are_bits-requires c = bits_room c.args.table.now c.args.answer.now (sym c.taken.ensures ∙ c.in-Ok.is) _ c.pair.ensures

pub returns-then-not-are_bits : goal.returns-then-not-are_bits
returns-then-not-are_bits c =
    judged_bits c.args.table.now c.args.answer.now (sym c.taken.ensures ∙ c.in-Ok.is) _ c.pair.ensures false (sym c.are_bits.ensures ∙ c.if-not-are_bits.true)

pub returns : goal.returns
returns c =
    judged_bits c.args.table.now c.args.answer.now (sym c.taken.ensures ∙ c.in-Ok.is) _ c.pair.ensures true (sym c.are_bits.ensures ∙ c.if-not-are_bits.false)
