use Prim.Native.Nat.{ℕ, ◌≤◌}
use mathlib.Core.Path.{◌≡◌, ap, ◌∙◌}
use native.Mathlib.Omega.{arith}
use borrow.Author.Rules.{rules}
use lib.ListN.{length}
use Rattle.problem.specs.Problem.{atom_count}
use Rattle.problem.specs.Layout.{problem_in}
use Rattle.ground.proofs.AtomLaws.{table_size, atoms_bytes}
use Rattle.parting.proofs.CallLaws.{said_all, answer_all}
use Rattle.parting.proofs.parts.fit_parts.Goals as goal

pub bounds-table-8 : goal.bounds-table-8
bounds-table-8 c = omega (arith, table_size c.args.table.now c.requires.lawful)

pub bounds-table-9 : goal.bounds-table-9
bounds-table-9 c = omega (arith, table_size c.args.table.now c.requires.lawful)

pub give-requires : goal.give-requires
give-requires c = (omega (arith, (c.pair.ensures ∙ atoms_bytes c.args.table.now c.requires.lawful), c.requires.lawful.fits.atoms_fit), c.run_parts-tally.ensures.0.size, c.requires.in_bounds.0)

pub returns : goal.returns
returns c =
    let u = c.run_parts-tally in
    let q = problem_in c.args.table.now in (
      c.said.ensures ∙ said_all c.args.magic q _ u.result.verdict u.result.count u.ensures.0,
      u.ensures.0.tallied.sum,
      c.give.ensures ∙ answer_all c.args.magic q _ u.result.verdict u.result.count u.ensures.0 c.pair.result (c.pair.ensures ∙ atoms_bytes c.args.table.now c.requires.lawful) c.args.answer.now,
      u.ensures.1,
    )
