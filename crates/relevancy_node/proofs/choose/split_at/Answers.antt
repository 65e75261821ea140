use Rattle.std.proofs.Common.{arith, sym, ◌∙◌}
use Rattle.ground.proofs.AtomLaws.{alts_count}
use Rattle.relevancy_rule.proofs.RowLaws.{early_small, late_small, split_early, split_late}
use Rattle.relevancy_node.proofs.choose.split_at.Goals as goal

pub flag_is-requires : goal.flag_is-requires
flag_is-requires c =
    omega (arith, early_small c.args.table.now c.requires.lawful c.args.r.now c.args.k c.requires.placed.1 c.args.values.now c.requires.placed.0 c.requires.r_len.2, c.requires.r_len.0)

pub returns-then-flag_is : goal.returns-then-flag_is
returns-then-flag_is c =
    sym
    (split_early c.args.table.now c.requires.lawful c.args.r.now c.args.k c.requires.placed.1 c.args.values.now c.requires.placed.0 c.requires.r_len.2 c.args.none c.requires.r_len.1
    (sym c.flag_is.ensures ∙ c.if-flag_is.true))

pub holds-requires : goal.holds-requires
holds-requires c =
    omega (arith, late_small c.args.table.now c.requires.lawful c.args.r.now c.args.k c.requires.placed.1 c.args.values.now c.requires.placed.0 c.requires.r_len.2, c.requires.r_len.0)

pub returns-then-holds : goal.returns-then-holds
returns-then-holds c =
    sym
    (split_late c.args.table.now c.requires.lawful c.args.r.now c.args.k c.requires.placed.1 c.args.values.now c.requires.placed.0 c.requires.r_len.2 (sym c.holds.ensures ∙ c.if-holds.true))

pub can_split-requires-clause-r_len : goal.can_split-requires-clause-r_len
can_split-requires-clause-r_len c =
    (c.requires.r_len.0, omega (arith, alts_count c.args.table.now c.requires.lawful c.args.k c.requires.placed.1.known, c.requires.placed.1.several))
