use Prim.Native.Nat.{ℕ, ◌+◌, ◌-◌, ◌*◌, ◌≤◌}
use mathlib.Core.List.{List}
use mathlib.Core.Path.{◌≡◌, refl, sym, ap, ◌∙◌}
use native.Mathlib.Omega.{arith}
use borrow.Author.Rules.{rules}
use lib.ListN.{length, get_or}
use Rattle.parting.specs.terms.Labels.{merged, merged_slots}
use Rattle.parting.proofs.MergeLaws.{slots_none, slots_more, slots_size}
use Rattle.parting.proofs.labels.merge_slots.Goals as goal

pub loop-i-init : goal.loop-i-init
loop-i-init c = slots_none c.args.table.now c.args.at c.args.p c.args.labels.now

pub loop-i-preserved : goal.loop-i-preserved
loop-i-preserved c =
    let a = c.args in
    let l = c.loop-i in
    c.merge.ensures ∙ ap (merged a.p (get_or a.table.now (a.at + 6 * l.i) 0)) l.invariant ∙ slots_more a.table.now a.at a.p l.i a.labels.now
