-- The turns passed are made, and none of their runs was none.
use Prim.Native.Nat.{ℕ, ◌+◌, ◌-◌, ◌≤◌, ◌<◌}
use mathlib.Core.List.{List}
use mathlib.Core.Path.{◌≡◌, sym, ap, ◌∙◌}
use native.Mathlib.Omega.{arith}
use borrow.Author.Rules.{rules}
use lib.ListN.{length, get_or, replicate, length-replicate}
use Rattle.ground.proofs.AtomLaws.{table_size}
use Rattle.parting.specs.terms.Tally.{Running}
use Rattle.parting.proofs.NameLaws.{turns_few}
use Rattle.parting.proofs.TurnLaws.{turns_start, turns_stop, turns_end}
use Rattle.parting.proofs.turns.run_turns.Given as goal

abbrev pub invariant-loop-i : goal.invariant-loop-i
invariant-loop-i l = Running l.magic l.table l.joined l.i l.tally.verdict l.tally.count × (l.work ≡ replicate 65536 0)
