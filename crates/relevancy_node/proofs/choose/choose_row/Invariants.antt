-- The instances of the row before value d cannot be split.
use Rattle.relevancy_rule.proofs.RowLaws.{Rowing}
use Rattle.relevancy_node.proofs.choose.choose_row.Given as goal

abbrev pub invariant-loop-d : goal.invariant-loop-d
invariant-loop-d l = Rowing l.table l.r l.k l.bounds l.z l.fn.values l.values l.a l.b l.d
