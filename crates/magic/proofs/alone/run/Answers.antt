use Prim.Native.Nat.{ℕ}
use mathlib.Core.List.{List}
use mathlib.Core.Path.{◌≡◌, sym, ap, ap₂, ◌∙◌}
use native.Mathlib.Omega.{arith}
use lib.ListN.{replicate}
use lib.Seq.{length-take-le}
use Rattle.search.specs.Machine.{Outcome, deepest_under}
use Rattle.store.proofs.Lent.{put_size}
use Rattle.problem.specs.Problem.{limit_of}
use Rattle.problem.specs.Layout.{problem_in}
use Rattle.ground.specs.Verdict.{verdict_of, answer_of}
use Rattle.ground.proofs.AtomLaws.{table_size}
use Rattle.ground.proofs.VerdictLaws.{limit_of_lem}
use Rattle.rewriting.specs.Facts.{find_in}
use Rattle.rewriting.specs.Rewrite.{rules_over}
use Rattle.magic.specs.Engine.{rules_outcome}
use Rattle.magic.proofs.EngineLaws.{run_replied}
use Rattle.magic.proofs.alone.run.Goals as goal

pub limit_in-limit-requires : goal.limit_in-limit-requires
limit_in-limit-requires c = table_size c.args.table.now c.requires.lawful

pub returns : goal.returns
returns c =
    let a = c.args in
    let w = c.write_rules in
    let l = c.limit_in-limit in
    let d = c.decide-reply in
    let limit_is = l.ensures ∙ limit_of_lem a.table.now in
    let told = run_replied w.new.rules l.result a.answer.now d.result d.new.answer d.ensures in
    let size = put_size 9227 65536 (omega arith) a.work.now c.requires.rules_len.2 d.new.path (d.auto.path ∙ length-take-le 9227 a.work.now (omega (arith, c.requires.rules_len.2))) in (
      told.0 ∙ ap verdict_of (ap₂ rules_outcome w.ensures.1 limit_is),
      told.1 ∙ ap₂ (λ (bs : List ℕ). deepest_under (find_in bs)) w.ensures.1 limit_is,
      w.ensures.1,
      told.2 ∙ ap (λ (o : Outcome). answer_of o a.answer.now) (ap₂ rules_outcome w.ensures.1 limit_is),
      c.zero.ensures ∙ ap (λ (m : ℕ). replicate m 0) size,
    )
