-- The atoms passed are marked.
use Prim.Native.Nat.{ℕ, ◌-◌, ◌≤◌, ◌<◌}
use mathlib.Core.List.{List}
use mathlib.Core.Path.{◌≡◌, refl, sym, ap, subst, ◌∙◌}
use native.Mathlib.Omega.{arith}
use borrow.Author.Rules.{rules}
use lib.ListN.{length, get_or, set, length-set}
use Rattle.problem.specs.Problem.{atom_count}
use Rattle.problem.specs.Layout.{problem_in}
use Rattle.ground.proofs.AtomLaws.{table_size, atoms_bytes}
use Rattle.parting.specs.Runs.{predicate_at}
use Rattle.parting.specs.terms.Labels.{labels_in}
use Rattle.parting.proofs.LabelLaws.{labels_known}
use Rattle.parting.proofs.LoopLaws.{filled, filled_more, filled_size}
use Rattle.parting.proofs.MarkLaws.{mark_of, decoded_predicate, decoded_small, marked}
use Rattle.parting.proofs.part.mark.Given as goal

abbrev pub invariant-loop-a : goal.invariant-loop-a
invariant-loop-a l = l.marks ≡ filled (mark_of l.table) l.initial.marks l.a
