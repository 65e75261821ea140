use Rattle.problem.specs.Table.{Lawful}
use Prim.Native.Nat.{◌<◌}
use Prim.Native.Nat.{ℕ, ◌+◌, ◌-◌, ◌*◌, ◌≤◌}
use mathlib.Core.Bool.{Bool, true, false}
use mathlib.Core.List.{List, ◌++◌}
use mathlib.Core.Path.{◌≡◌, refl, sym, ap, subst, ◌∙◌}
use native.Mathlib.Omega.{arith}
use borrow.Author.Rules.{rules}
use borrow.Author.Tests.{not-true, not-false}
use lib.ListN.{length, take, drop, length-drop}
use lib.Seq.{length-take-le}
use Rattle.problem.specs.Layout.{layout, problem_in}
use Rattle.problem.specs.Extended.{with_clauses}
use Rattle.ground.specs.Instance.{clause_of}
use Rattle.ground.proofs.AtomLaws.{table_size, clause_room}
use Rattle.parting.specs.terms.Gathered.{taken}
use Rattle.parting.proofs.GatherLaws.{add_room, added_none, added, record_at}
use Rattle.parting.proofs.part.add.Goals as goal

room : (tb : List ℕ) → Lawful tb → (k : ℕ) → k < length (problem_in tb).clauses → 144 + 56 * k + 56 ≤ length tb
room tb h k l = omega (arith, table_size tb h, clause_room tb h k l)

wide : (tb : List ℕ) → Lawful tb → (k : ℕ) → k < length (problem_in tb).clauses → length (take (144 + 56 * k + 56 - (144 + 56 * k)) (drop (144 + 56 * k) tb)) ≡ 56
wide tb h k l =
    let part : 144 + 56 * k + 56 - (144 + 56 * k) ≡ 56 = omega arith in
    length-take-le _ (drop (144 + 56 * k) tb) (omega (arith, length-drop (144 + 56 * k) tb, room tb h k l)) ∙ part

pub slice_bounds-append-end : goal.slice_bounds-append-end
slice_bounds-append-end c = omega (arith, room c.args.table.now c.requires.lawful_2.0 c.args.k c.requires.lawful_2.1)

pub append-requires-clause-table_bound : goal.append-requires-clause-table_bound
append-requires-clause-table_bound c =
    (add_room c.args.own.now c.args.table.now c.requires.lawful c.requires.lawful_2.0 c.args.k c.requires.lawful_2.1 c.requires.own_value.0 c.requires.own_value.1, wide c.args.table.now c.requires.lawful_2.0 c.args.k c.requires.lawful_2.1)

pub returns : goal.returns
returns c =
    let part : 144 + 56 * c.args.k + 56 - (144 + 56 * c.args.k) ≡ 56 = omega arith in
    added c.args.own.now c.args.table.now c.requires.lawful c.requires.lawful_2.0 c.args.k c.requires.lawful_2.1 c.requires.own_value.0 c.requires.own_value.1 _ _
    (record_at c.args.table.now c.requires.lawful_2.0 c.args.k _ c.requires.lawful_2.1 part) c.append.ensures
    ∙ ap (λ (t : Bool). layout (with_clauses (problem_in c.args.table.now) ((problem_in c.args.own.now).clauses ++ taken t (clause_of (problem_in c.args.table.now) c.args.k)))) (sym c.if-not-mine.false)
