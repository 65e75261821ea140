use Prim.Native.Nat.{ℕ, ◌+◌, ◌<◌}
use mathlib.Core.Path.{◌≡◌}
use native.Mathlib.Omega.{arith}
use borrow.Author.Rules.{rules}
use lib.ListN.{length, get_or}
use Rattle.ground.proofs.AtomLaws.{table_size}
use Rattle.parting.proofs.LabelLaws.{ClauseRoom}
use Rattle.parting.proofs.NameLaws.{name_bare, name_full, name_lowest, name_later, turn_clause, turn_label, turns_few}
use Rattle.parting.proofs.turns.name_at.Goals as goal

pub bounds-table-2 : goal.bounds-table-2
bounds-table-2 c = omega (arith, table_size c.args.table.now c.requires.lawful)

pub bounds-table-at : goal.bounds-table-at
bounds-table-at c = let r = turn_clause c.args.table.now c.requires.lawful c.args.i c.if-i-count.true in omega (arith, r.size, r.few)

pub bounds-table-at-then-i-count : goal.bounds-table-at-then-i-count
bounds-table-at-then-i-count c = let r = turn_clause c.args.table.now c.requires.lawful c.args.i c.if-i-count.true in omega (arith, r.size, r.few)

pub overflow_add-table : goal.overflow_add-table
overflow_add-table c = let r = turn_clause c.args.table.now c.requires.lawful c.args.i c.if-i-count.true in omega (arith, r.few_conds, r.few_alts)

pub overflow_add-result : goal.overflow_add-result
overflow_add-result c = let r = turn_clause c.args.table.now c.requires.lawful c.args.i c.if-i-count.true in omega (arith, r.few)

pub bounds-labels-p : goal.bounds-labels-p
bounds-labels-p c = turn_label c.args.table.now c.requires.lawful c.args.labels.now c.requires.labels_value.0 c.args.i c.requires.labels_value.1
