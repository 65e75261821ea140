use Prim.Native.Nat.{ℕ, ◌≤◌}
use mathlib.Core.List.{List}
use mathlib.Core.Path.{◌≡◌, ap, ◌∙◌}
use native.Mathlib.Omega.{arith}
use borrow.Author.Rules.{rules}
use lib.ListN.{length, replicate, length-replicate}
use Rattle.search.specs.Machine.{Outcome}
use Rattle.problem.specs.Layout.{problem_in}
use Rattle.ground.specs.Verdict.{verdict_of, answer_of}
use Rattle.relevancy.specs.Engine.{outcome_in}
use Rattle.magic.specs.Engine.{magic_outcome}
use Rattle.parting.specs.Runs.{run_by}
use Rattle.parting.proofs.NameLaws.{ran_magic, ran_relevancy}
use Rattle.parting.proofs.turns.run.Goals as goal

pub returns-then-magic : goal.returns-then-magic
returns-then-magic c =
    let u = c.run-reply in
    let same : magic_outcome c.args.table.now (replicate 16384 0) ≡ run_by c.args.magic (problem_in c.args.table.now) = ran_magic c.args.magic c.if-magic.true c.args.table.now c.requires.lawful (replicate 16384 0) in
    (u.ensures.0 ∙ ap verdict_of same, u.ensures.3 ∙ ap (λ (o : Outcome). answer_of o c.args.answer.now) same, u.ensures.4)

pub returns : goal.returns
returns c =
    let u = c.run-reply-2 in
    let same : outcome_in c.args.table.now ≡ run_by c.args.magic (problem_in c.args.table.now) = ran_relevancy c.args.magic c.if-magic.false c.args.table.now in
    (u.ensures.0 ∙ ap verdict_of same, u.ensures.2 ∙ ap (λ (o : Outcome). answer_of o c.args.answer.now) same, u.ensures.3)
