use Rattle.std.proofs.Common.{◌≡◌, ℕ, List, ap, ap₂, ◌∙◌, arith, replicate}
use lib.Seq.{length-take-le}
use Rattle.search.specs.Machine.{Outcome}
use Rattle.search.specs.Session.{Session, first_session}
use Rattle.store.proofs.Lent.{put_size}
use Rattle.problem.specs.Problem.{limit_of}
use Rattle.problem.specs.Layout.{problem_in}
use Rattle.ground.specs.Verdict.{verdict_of, answer_of}
use Rattle.ground.proofs.AtomLaws.{table_size}
use Rattle.ground.proofs.VerdictLaws.{limit_of_lem}
use Rattle.rewriting.specs.Facts.{find_in}
use Rattle.rewriting.specs.Rewrite.{rules_over}
use Rattle.session.specs.Record.{laid}
use Rattle.magic.specs.Engine.{rules_outcome}
use Rattle.magic_calls.proofs.fit.run.Goals as goal

pub limit_in-limit-requires : goal.limit_in-limit-requires
limit_in-limit-requires c = table_size _ c.table.invariant

pub returns : goal.returns
returns c =
    let a = c.args in
    let tb = c.table.inside.bytes.now in
    let d = c.decide-moved in
    -- it walks by the rules written, under the table's limit
    let same : (X : Type 0) (f : List ℕ → ℕ → X) → f c.write_rules.new.rules c.limit_in-limit.result ≡ f (rules_over tb a.rules.now) (limit_of (problem_in tb).limit) =
    λ X f. ap₂ f c.write_rules.ensures.1 (c.limit_in-limit.ensures ∙ limit_of_lem tb)
    in
    let size = put_size 9227 65536 (omega arith) a.work.now c.requires.rules_len.2 d.new.path (d.auto.path ∙ length-take-le 9227 a.work.now (omega (arith, c.requires.rules_len.2))) in
    rw (← c.table.view_is) (
      d.ensures.0 ∙ ap verdict_of (same Outcome rules_outcome),
      d.ensures.1 ∙ ap laid (same Session (λ bs. first_session (find_in bs))),
      c.write_rules.ensures.1,
      d.ensures.2 ∙ ap (λ (o : Outcome). answer_of o a.answer.now) (same Outcome rules_outcome),
      c.zero.ensures ∙ ap (λ (m : ℕ). replicate m 0) size,
    )
