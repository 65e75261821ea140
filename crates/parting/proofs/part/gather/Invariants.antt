-- The table has those of the clauses passed that are of the part.
use Prim.Native.Nat.{ℕ, ◌+◌, ◌-◌, ◌≤◌, ◌<◌}
use mathlib.Core.List.{List, []}
use mathlib.Core.Path.{◌≡◌, refl, sym, ap, subst, ◌∙◌}
use native.Mathlib.Omega.{arith}
use borrow.Author.Rules.{rules}
use lib.ListN.{length, get_or, length-replicate}
use Rattle.problem.specs.Layout.{layout, problem_in}
use Rattle.problem.specs.Extended.{with_clauses}
use Rattle.ground.proofs.AtomLaws.{table_size}
use Rattle.ground.proofs.Turns.{clauses_byte, clause_listed}
use Rattle.parting.specs.terms.Gathered.{gathered_upto}
use Rattle.parting.proofs.GatherLaws.{own_lawful, own_same, next_fits, added_next, gathered_none, own_size}
use Rattle.parting.proofs.part.gather.Given as goal

abbrev pub invariant-loop-k : goal.invariant-loop-k
invariant-loop-k l = l.own ≡ layout (with_clauses (problem_in l.table) (gathered_upto l.table l.x l.k))
