use Rattle.offering.proofs.NextLaws.{lawful_indexed, line_put, judged_put}
use Rattle.offering.proofs.next.judge_line.Goals as goal

pub invariant_of-line : goal.invariant_of-line
invariant_of-line c =
    record { holds = line_put c.args.frame.now c.requires.frame_nonzero.2 c.requires.frame_nonzero.0 c.requires.frame_nonzero.1 c.put_line.ensures }

pub invariant_of-predicates : goal.invariant_of-predicates
invariant_of-predicates c = record { indexed = lawful_indexed _ c.requires.lawful }

pub returns : goal.returns
returns c =
    judged_put c.args.frame.now c.requires.frame_nonzero.2 c.requires.frame_nonzero.0 c.requires.frame_nonzero.1 c.put_line.ensures _ _ _ _ _ c.weight_of.ensures c.clause.ensures
