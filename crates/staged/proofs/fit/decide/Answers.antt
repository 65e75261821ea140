use mathlib.Core.Path.{◌∙◌}
use native.Mathlib.Omega.{arith}
use Rattle.problem.specs.Layout.{problem_in}
use Rattle.ground.proofs.AtomLaws.{table_size}
use Rattle.ground.proofs.Instances.{atoms_few}
use Rattle.ground.proofs.VerdictLaws.{limit_of_lem}
use Rattle.staged.proofs.EngineLaws.{run_told}
use Rattle.staged.proofs.fit.decide.Goals as goal

pub limit_in-limit-requires : goal.limit_in-limit-requires
limit_in-limit-requires c = table_size c.args.table.now c.requires.lawful

pub give_model-requires : goal.give_model-requires
give_model-requires c =
    let few = atoms_few (problem_in c.args.table.now) c.requires.lawful.fits in
    (omega (arith, c.atoms.ensures, few), omega (arith, c.atoms.ensures, few, c.requires.in_bounds.0), omega (arith, c.walk_whole-walked.auto.facts, c.requires.in_bounds.1))

pub returns : goal.returns
returns c =
    let a = c.args in
    let w = c.walk_whole-walked in
    let l = c.limit_in-limit in
    let g = c.give_model in
    run_told a.table.now l.result (l.ensures ∙ limit_of_lem a.table.now) w.result w.new.facts w.new.path a.answer.now w.ensures c.verdict_by.result c.verdict_by.ensures g.new.answer c.atoms.result c.atoms.ensures g.ensures
