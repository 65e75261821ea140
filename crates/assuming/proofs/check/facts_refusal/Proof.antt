-- `check::facts_refusal` meets its contract.
use mathlib.Core.Path.{sym, ◌∙◌}
use native.Mathlib.Omega.{arith}
use borrow.Author.Rules.{rules}
use Rattle.adding.proofs.AppendLaws.{table_size, few_clauses}
use Rattle.assuming.proofs.CheckLaws.{atoms_told, refusal_5, refusal_many, refusal_by}
use Rattle.assuming.proofs.check.facts_refusal.Statement.{statement}
use Rattle.assuming.proofs.check.facts_refusal.Tie as tie

pub facts_refusal_spec : {M : Type 1} → statement M
facts_refusal_spec =
    tie.close
    (tie.spec
    (λ c. omega (arith, table_size _ c.requires))  -- bounds-table-2
    (λ c. omega (arith, few_clauses _ c.requires))  -- overflow_cast-table
    (λ c. omega (arith, few_clauses _ c.requires))  -- overflow_sub-table
    (λ c. refusal_5 _ c.requires c.args.facts.now c.if-table-facts.true)  -- returns-then-table-facts
    (λ c. refusal_many _ c.requires c.args.facts.now c.if-table-facts.false c.if-facts-gt16.true)  -- returns-then-facts-gt16
    (λ c. omega (arith, table_size _ c.requires))  -- bounds-table-8
    (λ c. omega (arith, table_size _ c.requires))  -- bounds-table-9
    (λ c κs. search rules)  -- pair-requires
    (λ c κs. search rules)  -- are_atoms-requires
    (λ c.
    let a = c.are_atoms in
    let n = c.pair.ensures ∙ atoms_told _ c.requires in
    refusal_by _ c.requires c.args.facts.now c.if-table-facts.false c.if-facts-gt16.false _ n _ (sym c.if-are_atoms.true ∙ a.ensures))  -- returns-then-are_atoms
    (λ c.
    let a = c.are_atoms in
    let n = c.pair.ensures ∙ atoms_told _ c.requires in
    refusal_by _ c.requires c.args.facts.now c.if-table-facts.false c.if-facts-gt16.false _ n _ (sym c.if-are_atoms.false ∙ a.ensures)))  -- returns
