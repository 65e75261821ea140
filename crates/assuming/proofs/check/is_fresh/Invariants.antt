-- The later facts passed are other ones, so the rest decides.
use Prim.Native.Nat.{◌-◌, ◌+◌, ◌≤◌}
use mathlib.Core.Bool.{true, false}
use mathlib.Core.Path.{◌≡◌, refl, ◌∙◌}
use native.Mathlib.Omega.{arith}
use lib.ListN.{length, drop, get_or}
use Rattle.lists.specs.Key.{nat_key}
use Rattle.lists.specs.Member.{has}
use Rattle.assuming.proofs.CheckLaws.{later_other, later_same, later_none, none_fresh, fresh_by}
use Rattle.assuming.proofs.check.is_fresh.Given as goal

abbrev pub invariant-loop-j : goal.invariant-loop-j
invariant-loop-j l = (has nat_key (drop (l.i + 1) l.facts) (get_or l.facts l.i 0) ≡ has nat_key (drop l.j l.facts) (get_or l.facts l.i 0))
