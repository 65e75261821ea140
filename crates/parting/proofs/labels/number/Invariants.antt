-- The labels passed are their places.
use Prim.Native.Nat.{ℕ, ◌≤◌, ◌-◌}
use mathlib.Core.List.{List}
use mathlib.Core.Path.{◌≡◌, refl, sym, ap, ◌∙◌}
use native.Mathlib.Omega.{arith}
use lib.ListN.{length, set, length-set}
use Rattle.lists.specs.Tabulate.{tabulate}
use Rattle.parting.proofs.LoopLaws.{filled, filled_more, filled_all}
use Rattle.parting.proofs.labels.number.Given as goal

abbrev pub invariant-loop-p : goal.invariant-loop-p
invariant-loop-p l = l.labels ≡ filled (λ a. a) l.initial.labels l.p
