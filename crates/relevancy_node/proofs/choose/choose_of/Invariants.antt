-- The rows before the one in reach have no instance that can be split.
use Rattle.std.proofs.Common.{◌-◌}
use Rattle.kernel.specs.terms.Matching.{rank, volume}
use Rattle.relevancy_rule.proofs.RowLaws.{RowsTried}
use Rattle.relevancy_node.proofs.choose.choose_of.Given as goal

abbrev pub invariant-loop-bounds : goal.invariant-loop-bounds
invariant-loop-bounds l = RowsTried l.table l.r l.k l.bounds l.z l.values

abbrev pub decreases-loop-bounds : goal.decreases-loop-bounds
decreases-loop-bounds l = volume l.bounds - rank l.bounds l.values
