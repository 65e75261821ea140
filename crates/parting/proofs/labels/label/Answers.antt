use Prim.Native.Nat.{ℕ, ◌+◌, ◌-◌, ◌≤◌, ◌<◌}
use mathlib.Core.List.{List}
use mathlib.Core.Path.{◌≡◌, refl, sym, ap, ◌∙◌}
use native.Mathlib.Omega.{arith}
use borrow.Author.Rules.{rules}
use lib.ListN.{length, get_or}
use Rattle.ground.proofs.AtomLaws.{table_size}
use Rattle.ground.proofs.Turns.{clauses_byte, clause_listed}
use Rattle.parting.specs.terms.Labels.{merged_clause, labels_upto}
use Rattle.parting.proofs.MergeLaws.{labels_start, clauses_more}
use Rattle.parting.proofs.labels.label.Goals as goal

pub bounds-table-2 : goal.bounds-table-2
bounds-table-2 c = omega (arith, table_size c.args.table.now c.requires.lawful)

pub loop-k-init : goal.loop-k-init
loop-k-init c = c.number.ensures ∙ labels_start c.args.table.now

pub merge_clause-requires-clause-k_in_bounds : goal.merge_clause-requires-clause-k_in_bounds
merge_clause-requires-clause-k_in_bounds c = (clause_listed c.args.table.now c.requires.lawful c.loop-k.k c.loop-k-test.true, omega arith)

pub loop-k-preserved : goal.loop-k-preserved
loop-k-preserved c =
    let l = c.loop-k in
    c.merge_clause.ensures ∙ ap (merged_clause c.args.table.now l.k) l.invariant ∙ clauses_more c.args.table.now l.k
