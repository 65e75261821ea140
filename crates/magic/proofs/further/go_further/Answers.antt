use Prim.Native.Nat.{ℕ, ◌≤◌}
use mathlib.Core.List.{List}
use mathlib.Core.Path.{◌≡◌, sym, ap₂, ◌∙◌}
use native.Mathlib.Omega.{arith}
use lib.ListN.{replicate}
use Rattle.problem.specs.Layout.{problem_in}
use Rattle.ground.specs.Instance.{ground_of, ground_in}
use Rattle.ground.proofs.AtomLaws.{table_size, atoms_bytes}
use Rattle.ground.proofs.Instances.{atoms_few}
use Rattle.rewriting.specs.Facts.{find_in}
use Rattle.rewriting.specs.Rewrite.{rules_over}
use Rattle.session.specs.Calls.{called_in}
use Rattle.session.proofs.CallLaws.{kept_bounds, called_over, called_unkept}
use Rattle.magic.proofs.FurtherLaws.{Says-declined, says_alike}
use Rattle.magic.proofs.further.go_further.Goals as goal

pub returns-then-further-session : goal.returns-then-further-session
returns-then-further-session c =
    let a = c.args in
    let find = find_in (rules_over a.table.now (replicate 16384 0)) in
    let atoms = (ground_in a.table.now).atoms in
    Says-declined (called_in find atoms a.session a.further) a.session a.answer.now 41 (called_over find atoms a.session a.further (omega arith)) c.refused.result c.refused.ensures

pub bounds-table-8 : goal.bounds-table-8
bounds-table-8 c = omega (arith, table_size c.args.table.now c.requires.lawful)

pub bounds-table-9 : goal.bounds-table-9
bounds-table-9 c = omega (arith, table_size c.args.table.now c.requires.lawful)

-- the number of atoms is read from the table
pub returns-then-not-is_kept : goal.returns-then-not-is_kept
unfolding ground_of
returns-then-not-is_kept c =
    let a = c.args in
    let find = find_in (rules_over a.table.now (replicate 16384 0)) in
    let atoms = (ground_in a.table.now).atoms in
    Says-declined (called_in find atoms a.session a.further) a.session a.answer.now 42
    (called_unkept find atoms a.session a.further (omega arith) c.pair-atoms.result (c.pair-atoms.ensures ∙ atoms_bytes a.table.now c.requires.lawful) (sym c.if-not-is_kept.ensures))
    c.refused-then-not-is_kept.result c.refused-then-not-is_kept.ensures

pub further_run-requires-clause-length_le_deepest : goal.further_run-requires-clause-length_le_deepest
unfolding ground_of
further_run-requires-clause-length_le_deepest c =
    let tb = c.args.table.now in
    let h = kept_bounds c.pair-atoms.result c.args.session (sym c.if-not-is_kept.ensures) in
    let few : c.pair-atoms.result ≤ 1024 = omega (arith, c.pair-atoms.ensures ∙ atoms_bytes tb c.requires.lawful, atoms_few (problem_in tb) c.requires.lawful.fits) in
    (h.2, h.3, few)

pub returns : goal.returns
unfolding ground_of
returns c =
    let a = c.args in
    let w = c.write_rules in
    let f = c.further_run in
    let atoms = (ground_in a.table.now).atoms in
    says_alike (called_in (find_in w.new.rules) c.pair-atoms.result a.session a.further) (called_in (find_in (rules_over a.table.now (replicate 16384 0))) atoms a.session a.further) a.session a.answer.now
    (ap₂ (λ (bs : List ℕ) (n : ℕ). called_in (find_in bs) n a.session a.further) w.ensures.1 (c.pair-atoms.ensures ∙ atoms_bytes a.table.now c.requires.lawful))
    f.result f.new.answer f.ensures
