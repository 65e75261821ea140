use Prim.Native.Nat.{ℕ, ◌+◌, ◌-◌, ◌≤◌, ◌<◌}
use mathlib.Core.List.{List, []}
use mathlib.Core.Path.{◌≡◌, refl, sym, ap, subst, ◌∙◌}
use native.Mathlib.Omega.{arith}
use borrow.Author.Rules.{rules}
use lib.ListN.{length, get_or, length-replicate}
use Rattle.problem.specs.Layout.{layout, problem_in}
use Rattle.problem.specs.Extended.{with_clauses}
use Rattle.ground.proofs.AtomLaws.{table_size}
use Rattle.ground.proofs.Turns.{clauses_byte, clause_listed}
use Rattle.parting.specs.terms.Gathered.{gathered_upto}
use Rattle.parting.proofs.GatherLaws.{own_lawful, own_same, next_fits, added_next, gathered_none, own_size}
use Rattle.parting.proofs.part.gather.Goals as goal

pub bounds-table-2 : goal.bounds-table-2
bounds-table-2 c = omega (arith, table_size c.args.table.now c.requires.lawful)

pub loop-k-init : goal.loop-k-init
loop-k-init c = c.head.ensures ∙ gathered_none c.args.table.now c.args.x

pub belongs-mine-requires-clause-labels_value : goal.belongs-mine-requires-clause-labels_value
belongs-mine-requires-clause-labels_value c = (c.requires.labels_value.0, clause_listed c.args.table.now c.requires.lawful c.loop-k.k c.loop-k-test.true)

pub add-requires-clause-lawful : goal.add-requires-clause-lawful
add-requires-clause-lawful c =
    let l = c.loop-k in
    let tb : List ℕ = c.args.table.now in
    let known : l.k < length (problem_in tb).clauses = clause_listed tb c.requires.lawful l.k c.loop-k-test.true in
    let upto : l.k ≤ length (problem_in tb).clauses = omega arith in
    own_lawful tb c.requires.lawful c.args.x l.own l.k l.invariant upto

pub add-requires-clause-lawful_2 : goal.add-requires-clause-lawful_2
add-requires-clause-lawful_2 c = (c.requires.lawful, clause_listed c.args.table.now c.requires.lawful c.loop-k.k c.loop-k-test.true)

pub add-requires-clause-own_value : goal.add-requires-clause-own_value
add-requires-clause-own_value c =
    let l = c.loop-k in
    let tb : List ℕ = c.args.table.now in
    let known : l.k < length (problem_in tb).clauses = clause_listed tb c.requires.lawful l.k c.loop-k-test.true in
    let upto : l.k ≤ length (problem_in tb).clauses = omega arith in
    (own_same tb c.requires.lawful c.args.x l.own l.k l.invariant upto, next_fits tb c.requires.lawful c.args.x l.own l.k l.invariant upto known)

pub loop-k-preserved : goal.loop-k-preserved
loop-k-preserved c =
    let l = c.loop-k in
    let tb : List ℕ = c.args.table.now in
    let known : l.k < length (problem_in tb).clauses = clause_listed tb c.requires.lawful l.k c.loop-k-test.true in
    let upto : l.k ≤ length (problem_in tb).clauses = omega arith in
    added_next tb c.requires.lawful c.args.x l.own l.k l.invariant upto _ _ c.belongs-mine.ensures c.add.ensures

pub returns : goal.returns
returns c =
    let l = c.loop-k in
    let tb : List ℕ = c.args.table.now in
    let all : l.k ≡ length (problem_in tb).clauses = omega (arith, clauses_byte tb c.requires.lawful) in
    l.invariant ∙ ap (λ (n : ℕ). layout (with_clauses (problem_in tb) (gathered_upto tb c.args.x n))) all
