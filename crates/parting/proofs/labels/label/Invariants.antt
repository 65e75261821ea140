-- The clauses passed are merged.
use Prim.Native.Nat.{ℕ, ◌+◌, ◌-◌, ◌≤◌, ◌<◌}
use mathlib.Core.List.{List}
use mathlib.Core.Path.{◌≡◌, refl, sym, ap, ◌∙◌}
use native.Mathlib.Omega.{arith}
use borrow.Author.Rules.{rules}
use lib.ListN.{length, get_or}
use Rattle.ground.proofs.AtomLaws.{table_size}
use Rattle.ground.proofs.Turns.{clauses_byte, clause_listed}
use Rattle.parting.specs.terms.Labels.{merged_clause, labels_upto}
use Rattle.parting.proofs.MergeLaws.{labels_start, clauses_more}
use Rattle.parting.proofs.labels.label.Given as goal

abbrev pub invariant-loop-k : goal.invariant-loop-k
invariant-loop-k l = l.labels ≡ labels_upto l.table l.k
