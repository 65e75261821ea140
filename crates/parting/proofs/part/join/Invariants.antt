-- The bytes passed are joined, the rest is as it was.
use Prim.Native.Nat.{ℕ, ◌-◌, ◌≤◌, ◌<◌}
use mathlib.Core.Bool.{cond}
use mathlib.Core.List.{List}
use mathlib.Core.Path.{◌≡◌, refl, sym, ap, ◌∙◌}
use native.Mathlib.Omega.{arith}
use borrow.Author.Rules.{rules}
use lib.Dec.{eqb}
use lib.ListN.{length, get_or, set, length-set}
use Rattle.lists.specs.Tabulate.{tabulate}
use Rattle.parting.specs.terms.Tally.{joined_as}
use Rattle.parting.proofs.LoopLaws.{filled, filled_read, filled_more, filled_all}
use Rattle.parting.proofs.part.join.Given as goal

abbrev pub invariant-loop-a : goal.invariant-loop-a
invariant-loop-a l = l.joined ≡ filled (joined_as l.marks l.x l.bits l.initial.joined) l.initial.joined l.a
