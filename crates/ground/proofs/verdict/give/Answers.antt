-- One bit more.
use Rattle.std.proofs.Common.{arith}
use Rattle.ground.specs.terms.Chosen.{chosen_bit}
use Rattle.ground.proofs.VerdictLaws.{give_more}
use Rattle.ground.proofs.verdict.give.Goals as goal

pub loop-a-preserved : goal.loop-a-preserved
loop-a-preserved c =
    let l = c.loop-a in
    rw (c.in_model.ensures, l.invariant) (give_more (chosen_bit c.args.work.now) c.args.answer.now l.a (omega arith))
