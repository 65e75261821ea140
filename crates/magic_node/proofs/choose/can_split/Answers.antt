use Rattle.std.proofs.Common.{refl}
use Rattle.magic_rule.proofs.AskLaws.{ready_unmet, ready_rest}
use Rattle.magic_node.proofs.choose.can_split.Goals as goal

pub returns-then-needs_held : goal.returns-then-needs_held
returns-then-needs_held c =
    ready_rest c.requires.ruled c.requires.applied c.requires.splits.0 c.args.r.now _ c.if-needs_held.ensures refl c.none_true.result c.none_true.ensures
