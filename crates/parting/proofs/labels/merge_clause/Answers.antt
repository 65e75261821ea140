use Prim.Native.Nat.{ℕ, ◌+◌, ◌*◌, ◌≤◌, ◌<◌}
use mathlib.Core.List.{List}
use mathlib.Core.Path.{◌≡◌, refl, sym, ap, ◌∙◌}
use native.Mathlib.Omega.{arith}
use borrow.Author.Rules.{rules}
use lib.ListN.{length, get_or}
use Rattle.ground.proofs.AtomLaws.{table_size}
use Rattle.parting.specs.terms.Labels.{clause_at, lead_at, merged_slots}
use Rattle.parting.proofs.LabelLaws.{ClauseRoom, clause_room}
use Rattle.parting.proofs.MergeLaws.{slots_size}
use Rattle.parting.proofs.labels.merge_clause.Goals as goal

pub bounds-table-at : goal.bounds-table-at
bounds-table-at c = let r = clause_room c.args.table.now c.requires.lawful c.args.k c.requires.k_in_bounds.0 in omega (arith, r.size, r.few)

pub merge_slots-requires-clause-count_in_bounds : goal.merge_slots-requires-clause-count_in_bounds
merge_slots-requires-clause-count_in_bounds c =
    let r = clause_room c.args.table.now c.requires.lawful c.args.k c.requires.k_in_bounds.0 in
    (omega (arith, r.size, r.few, r.few_conds), c.requires.k_in_bounds.1, c.lead-p.ensures.1)

pub merge_slots-requires-clause-by_index : goal.merge_slots-requires-clause-by_index
merge_slots-requires-clause-by_index c = (clause_room c.args.table.now c.requires.lawful c.args.k c.requires.k_in_bounds.0).conds_small

pub bounds-table-at-2 : goal.bounds-table-at-2
bounds-table-at-2 c = let r = clause_room c.args.table.now c.requires.lawful c.args.k c.requires.k_in_bounds.0 in omega (arith, r.size, r.few)

pub merge_slots-requires-2-clause-count_in_bounds : goal.merge_slots-requires-2-clause-count_in_bounds
merge_slots-requires-2-clause-count_in_bounds c =
    let r = clause_room c.args.table.now c.requires.lawful c.args.k c.requires.k_in_bounds.0 in
    (omega (arith, r.size, r.few, r.few_alts), c.merge_slots.auto.labels ∙ c.requires.k_in_bounds.1, c.lead-p.ensures.1)

pub merge_slots-requires-2-clause-by_index : goal.merge_slots-requires-2-clause-by_index
merge_slots-requires-2-clause-by_index c = (clause_room c.args.table.now c.requires.lawful c.args.k c.requires.k_in_bounds.0).alts_small
