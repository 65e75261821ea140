use mathlib.Core.List.{List}
use Rattle.problem.specs.Layout.{problem_in}
use Rattle.problem.specs.Table.{Lawful}
use Prim.Native.Nat.{ℕ, ◌<◌}
use mathlib.Core.Path.{◌≡◌, refl, sym, subst, ◌∙◌}
use native.Mathlib.Omega.{arith}
use borrow.Author.Rules.{rules}
use borrow.Author.Tests.{lt-ltb, le-ltb}
use lib.ListN.{length}
use Rattle.ground.proofs.AtomLaws.{table_size, clause_room}
use Rattle.parting.specs.terms.Labels.{lead_at}
use Rattle.parting.proofs.LabelLaws.{lead_small}
use Rattle.parting.proofs.labels.lead.Goals as goal

-- what is given is the first predicate, so it is small
small : (tb : List ℕ) → Lawful tb → (k : ℕ) → k < length (problem_in tb).clauses → (r : ℕ) → r ≡ lead_at tb k → (r ≡ lead_at tb k) × (r < 33)
small tb h k l r e = (e, subst (λ (x : ℕ). x < 33) (sym e) (lead_small tb h k l))

pub bounds-table-at : goal.bounds-table-at
bounds-table-at c = omega (arith, clause_room c.args.table.now c.requires.lawful c.args.k c.requires.k_in_bounds, table_size c.args.table.now c.requires.lawful)

pub bounds-table-at-then-table-at-gt0 : goal.bounds-table-at-then-table-at-gt0
bounds-table-at-then-table-at-gt0 c = omega (arith, clause_room c.args.table.now c.requires.lawful c.args.k c.requires.k_in_bounds, table_size c.args.table.now c.requires.lawful)

pub returns-then-table-at-gt0 : goal.returns-then-table-at-gt0
returns-then-table-at-gt0 c = small c.args.table.now c.requires.lawful c.args.k c.requires.k_in_bounds _ (rw (lt-ltb 0 _ c.if-table-at-gt0.true))

pub bounds-table-at-2 : goal.bounds-table-at-2
bounds-table-at-2 c = omega (arith, clause_room c.args.table.now c.requires.lawful c.args.k c.requires.k_in_bounds, table_size c.args.table.now c.requires.lawful)

pub bounds-table-at-then-table-at-gt0-2 : goal.bounds-table-at-then-table-at-gt0-2
bounds-table-at-then-table-at-gt0-2 c = omega (arith, clause_room c.args.table.now c.requires.lawful c.args.k c.requires.k_in_bounds, table_size c.args.table.now c.requires.lawful)

pub returns-then-table-at-gt0-2 : goal.returns-then-table-at-gt0-2
returns-then-table-at-gt0-2 c = small c.args.table.now c.requires.lawful c.args.k c.requires.k_in_bounds _ (rw (le-ltb 0 _ c.if-table-at-gt0.false, lt-ltb 0 _ c.if-table-at-gt0-2.true))
