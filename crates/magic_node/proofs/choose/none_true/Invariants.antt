use Rattle.std.proofs.Common.{◌≡◌, true, not}
use Rattle.lists.specs.Member.{every}
use Rattle.lists.specs.Tabulate.{tabulate}
use Rattle.lists.specs.Bytes.{is_set}
use Rattle.magic_rule.specs.terms.Rule.{given_number}
use Rattle.magic_node.proofs.choose.none_true.Given as goal

-- the alternatives passed are not true
abbrev pub invariant-loop-i : goal.invariant-loop-i
invariant-loop-i l = every (λ a. not (is_set l.r a)) (tabulate (given_number l.rules l.q l.values) l.i) ≡ true
