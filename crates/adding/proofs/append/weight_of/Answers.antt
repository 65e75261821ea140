-- What the last record tells.
use Rattle.std.proofs.Common.{arith}
use Rattle.adding.proofs.AppendLaws.{last_weighed}
use Rattle.adding.proofs.append.weight_of.Goals as goal

pub returns : goal.returns
returns c = rw (c.pair.ensures, c.pair-2.ensures) (last_weighed c.args.table.now c.requires _ (omega arith))
