use Rattle.std.proofs.Common.{◌+◌, ◌*◌}
use Rattle.magic_rule.specs.terms.Watch.{Unready}
use Rattle.magic_node.proofs.choose.choose.Given as goal

-- no instance before number `rank` of rule q can be split
abbrev pub invariant-loop-q : goal.invariant-loop-q
invariant-loop-q l = Unready l.rules l.r (16384 * l.q + l.rank)
