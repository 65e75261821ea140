use Prim.Native.Nat.{ℕ, ◌-◌, ◌≤◌, ◌<◌}
use mathlib.Core.List.{List}
use mathlib.Core.Path.{◌≡◌, refl, sym, ap, subst, ◌∙◌}
use native.Mathlib.Omega.{arith}
use borrow.Author.Rules.{rules}
use lib.ListN.{length, get_or, set, length-set}
use Rattle.problem.specs.Problem.{atom_count}
use Rattle.problem.specs.Layout.{problem_in}
use Rattle.ground.proofs.AtomLaws.{table_size, atoms_bytes}
use Rattle.parting.specs.Runs.{predicate_at}
use Rattle.parting.specs.terms.Labels.{labels_in}
use Rattle.parting.proofs.LabelLaws.{labels_known}
use Rattle.parting.proofs.LoopLaws.{filled, filled_more, filled_size}
use Rattle.parting.proofs.MarkLaws.{mark_of, decoded_predicate, decoded_small, marked}
use Rattle.parting.proofs.part.mark.Goals as goal

pub bounds-table-8 : goal.bounds-table-8
bounds-table-8 c = omega (arith, table_size c.args.table.now c.requires.lawful)

pub bounds-table-9 : goal.bounds-table-9
bounds-table-9 c = omega (arith, table_size c.args.table.now c.requires.lawful)

pub decode-requires-clause-a_bound : goal.decode-requires-clause-a_bound
decode-requires-clause-a_bound c =
    let counted = c.pair-atoms.ensures ∙ atoms_bytes c.args.table.now c.requires.lawful in
    let few = c.requires.lawful.fits.atoms_fit in
    (omega (arith, counted, c.loop-a-test.true), omega arith)

pub bounds-labels-decode : goal.bounds-labels-decode
bounds-labels-decode c = omega (arith, decoded_small c.args.table.now c.requires.lawful _ _ _ c.decode.ensures, ap length c.requires.labels_value.0, (labels_known c.args.table.now c.requires.lawful).size)

pub bounds-marks-a : goal.bounds-marks-a
bounds-marks-a c =
    let counted = c.pair-atoms.ensures ∙ atoms_bytes c.args.table.now c.requires.lawful in
    let few = c.requires.lawful.fits.atoms_fit in
    omega (arith, counted, few, c.loop-a-test.true)

pub loop-a-preserved : goal.loop-a-preserved
loop-a-preserved c =
    let l = c.loop-a in
    let tb : List ℕ = c.args.table.now in
    let d : List ℕ = c.args.marks.now in
    let counted = c.pair-atoms.ensures ∙ atoms_bytes c.args.table.now c.requires.lawful in
    let few = c.requires.lawful.fits.atoms_fit in
    let here : l.a < length d = omega (arith, counted, few, c.loop-a-test.true) in
    let said : get_or c.args.labels.now c.decode.result 0 ≡ mark_of tb l.a =
    ap (λ (ls : List ℕ). get_or ls c.decode.result 0) c.requires.labels_value.0 ∙ ap (λ (p : ℕ). get_or (labels_in tb) p 0) (decoded_predicate tb c.requires.lawful _ _ _ c.decode.ensures) in
    ap (λ (y : ℕ). set l.marks l.a y) said ∙ ap (λ (r : List ℕ). set r l.a (mark_of tb l.a)) l.invariant ∙ filled_more (mark_of tb) d l.a here

pub returns : goal.returns
returns c =
    let l = c.loop-a in
    let counted = c.pair-atoms.ensures ∙ atoms_bytes c.args.table.now c.requires.lawful in
    let few = c.requires.lawful.fits.atoms_fit in
    marked c.args.table.now l.marks c.args.marks.now l.a (omega (arith, counted, c.loop-a-test.false)) (omega arith) l.invariant
