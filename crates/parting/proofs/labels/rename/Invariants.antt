-- The labels passed are renamed, the rest is as it was.
use Prim.Native.Nat.{ℕ, ◌-◌, ◌≤◌, ◌<◌}
use mathlib.Core.List.{List}
use mathlib.Core.Path.{◌≡◌, refl, sym, ap, ◌∙◌}
use native.Mathlib.Omega.{arith}
use lib.ListN.{length, get_or, set, length-set}
use Rattle.parting.specs.terms.Labels.{renamed}
use Rattle.parting.proofs.LoopLaws.{filled, filled_read, filled_more, filled_all, tabulate_mapped}
use Rattle.parting.proofs.labels.rename.Given as goal

abbrev pub invariant-loop-i : goal.invariant-loop-i
invariant-loop-i l = l.labels ≡ filled (λ a. renamed l.from l.to (get_or l.initial.labels a 0)) l.initial.labels l.i
