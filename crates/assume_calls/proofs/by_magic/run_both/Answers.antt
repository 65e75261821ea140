use Rattle.std.proofs.Common.{sym, subst, ◌∙◌, arith}
use Rattle.problem.specs.Table.{Lawful}
use Rattle.adding.proofs.AppendLaws.{table_size}
use Rattle.assuming.proofs.FactLaws.{copied_lawful, copied_addable, copied_longer, copied_longer_lawful}
use Rattle.assuming.proofs.LongerLaws.{magic_once, magic_twice}
use Rattle.assume_calls.proofs.by_magic.run_both.Goals as goal

pub returns-then-is_refuted : goal.returns-then-is_refuted
returns-then-is_refuted c =
    let v = c.verdict_of-alone in
    let t = c.once.ensures in
    (magic_once c.args.table.now c.args.facts.now c.args.rules.now v.result v.ensures.0 v.new.rules v.ensures.1 c.once.result t.1 (sym c.is_refuted.ensures ∙ c.if-is_refuted.true) t.0 t.2, v.ensures.2)

pub copy-requires : goal.copy-requires
copy-requires c = omega (arith, table_size _ c.table.invariant)

pub add_facts-requires-clause-lawful : goal.add_facts-requires-clause-lawful
add_facts-requires-clause-lawful c = copied_lawful _ _ (subst Lawful c.table.view_is c.table.invariant) c.requires.addable.0 _ (rw c.table.view_is at c.copy.ensures)

pub add_facts-requires-clause-addable : goal.add_facts-requires-clause-addable
add_facts-requires-clause-addable c = copied_addable _ _ (subst Lawful c.table.view_is c.table.invariant) c.requires.addable.0 _ (rw c.table.view_is at c.copy.ensures)

pub invariant_of-longer : goal.invariant_of-longer
invariant_of-longer c = copied_longer_lawful _ _ (subst Lawful c.table.view_is c.table.invariant) c.requires.addable.0 _ (rw c.table.view_is at c.copy.ensures) _ c.add_facts.ensures

pub returns : goal.returns
returns c =
    let v = c.verdict_of-alone in
    let w = c.verdict_of-all in
    let t = c.twice.ensures in
    let tb = c.args.table.now in
    let facts = c.args.facts.now in
    let lawful = subst Lawful c.table.view_is c.table.invariant in
    let longer = copied_longer tb facts lawful c.requires.addable.0 _ (rw c.table.view_is at c.copy.ensures) _ c.add_facts.ensures in
    let refuted = sym c.is_refuted.ensures ∙ c.if-is_refuted.false in
    (magic_twice tb facts c.args.rules.now v.result v.ensures.0 v.new.rules v.ensures.1 c.twice.result t.1 lawful c.requires.addable.0 c.requires.addable.1 _ longer refuted w.result w.ensures.0 w.new.rules w.ensures.1 t.0 t.2, w.ensures.2)
