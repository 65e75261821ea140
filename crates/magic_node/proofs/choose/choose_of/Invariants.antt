use Rattle.magic_rule.proofs.ChooseLaws.{RuleTurn}
use Rattle.magic_node.proofs.choose.choose_of.Given as goal

-- the instances passed cannot be split, so those from the next on decide
abbrev pub invariant-loop-i : goal.invariant-loop-i
invariant-loop-i l = RuleTurn l.rules l.r l.q l.values l.i
