-- The facts passed are fresh, so the rest decides.
use Prim.Native.Nat.{◌-◌, ◌≤◌}
use mathlib.Core.Path.{◌≡◌, refl, sym, ◌∙◌}
use native.Mathlib.Omega.{arith}
use borrow.Author.Tests.{not-true, not-false}
use lib.ListN.{length, drop}
use Rattle.assuming.specs.Assume.{are_atoms}
use Rattle.assuming.proofs.CheckLaws.{atoms_more, atoms_stop, atoms_end}
use Rattle.assuming.proofs.check.are_atoms.Given as goal

abbrev pub invariant-loop-i : goal.invariant-loop-i
invariant-loop-i l = (are_atoms l.atoms l.facts ≡ are_atoms l.atoms (drop l.i l.facts))
