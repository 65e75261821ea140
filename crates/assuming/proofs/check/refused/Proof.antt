-- `check::refused` meets its contract.
use mathlib.Core.Path.{sym, ◌∙◌}
use borrow.Author.Rules.{rules}
use lib.Seq.{length-take-le}
use Rattle.assuming.proofs.CheckLaws.{refused_lent, lent_taken, own_lawful, refused_facts}
use Rattle.assuming.proofs.check.refused.Statement.{statement}
use Rattle.assuming.proofs.check.refused.Tie as tie

pub refused_spec : {M : Type 1} → statement M
refused_spec =
    tie.close
    (tie.spec
    (λ c κs. search rules)  -- refusal-e-requires
    (λ c. refused_lent c.args.table.now c.args.facts.now c.args.short _ c.refusal-e.ensures c.if-e-gt0.true)  -- returns-then-e-gt0
    (λ c. sym (length-take-le 4096 c.args.table.now (lent_taken c.args.table.now c.args.facts.now c.args.short _ c.refusal-e.ensures c.if-e-gt0.false).long))  -- slice_bounds-facts_refusal-end
    (λ c κs. own_lawful c.args.table.now c.args.facts.now c.args.short _ c.refusal-e.ensures c.if-e-gt0.false)  -- facts_refusal-requires
    (λ c. c.facts_refusal.ensures ∙ refused_facts c.args.table.now c.args.facts.now c.args.short _ c.refusal-e.ensures c.if-e-gt0.false))  -- returns
