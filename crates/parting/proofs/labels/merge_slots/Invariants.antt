-- The slots passed are merged.
use Prim.Native.Nat.{ℕ, ◌+◌, ◌-◌, ◌*◌, ◌≤◌}
use mathlib.Core.List.{List}
use mathlib.Core.Path.{◌≡◌, refl, sym, ap, ◌∙◌}
use native.Mathlib.Omega.{arith}
use borrow.Author.Rules.{rules}
use lib.ListN.{length, get_or}
use Rattle.parting.specs.terms.Labels.{merged, merged_slots}
use Rattle.parting.proofs.MergeLaws.{slots_none, slots_more, slots_size}
use Rattle.parting.proofs.labels.merge_slots.Given as goal

abbrev pub invariant-loop-i : goal.invariant-loop-i
invariant-loop-i l = l.labels ≡ merged_slots l.table l.at l.p l.i l.initial.labels
