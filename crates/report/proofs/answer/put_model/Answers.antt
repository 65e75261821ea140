use Prim.Native.Nat.{◌*◌, ◌-◌, ◌≤◌}
use mathlib.Core.Path.{◌≡◌, refl, ◌∙◌}
use native.Mathlib.Omega.{arith}
use lib.ListN.{length}
use Rattle.problem.specs.Layout.{problem_in}
use Rattle.writing.specs.terms.Printed.{Put}
use Rattle.ground.proofs.AtomLaws.{table_size, atoms_bytes}
use Rattle.report.proofs.ReportLaws.{lines_upto, model_none, model_more, model_done}
use Rattle.report.proofs.answer.put_model.Goals as goal

pub bounds-table-8 : goal.bounds-table-8
bounds-table-8 c =
    omega (arith, table_size c.args.table.now c.requires.lawful)

pub bounds-table-9 : goal.bounds-table-9
bounds-table-9 c =
    omega (arith, table_size c.args.table.now c.requires.lawful)

pub loop-a-init : goal.loop-a-init
loop-a-init c = model_none (problem_in c.args.table.now) c.args.answer.now c.args.out.now c.args.at

pub put_chosen-next-requires-clause-a_bound : goal.put_chosen-next-requires-clause-a_bound
put_chosen-next-requires-clause-a_bound c =
    let l = c.loop-a in
    let few = c.requires.lawful.fits.atoms_fit in
    let bytes = atoms_bytes c.args.table.now c.requires.lawful in
    (omega arith, omega arith, omega (arith, l.invariant.next, l.invariant.few))

pub loop-a-preserved : goal.loop-a-preserved
loop-a-preserved c =
    let l = c.loop-a in
    let few = c.requires.lawful.fits.atoms_fit in
    let bytes = atoms_bytes c.args.table.now c.requires.lawful in
    model_more (problem_in c.args.table.now) c.args.answer.now l.a (omega arith) l.invariant (omega arith) c.put_chosen-next.ensures

pub returns : goal.returns
returns c =
    let l = c.loop-a in
    let few = c.requires.lawful.fits.atoms_fit in
    let bytes = atoms_bytes c.args.table.now c.requires.lawful in
    model_done (problem_in c.args.table.now) c.args.answer.now l.a l.invariant (omega arith) (omega arith)
