use Prim.Native.Nat.{ℕ}
use mathlib.Core.Path.{subst, ◌∙◌}
use Rattle.ground.proofs.AtomLaws.{table_size}
use Rattle.ground.proofs.VerdictLaws.{limit_of_lem}
use Rattle.session.specs.terms.End.{Replied}
use Rattle.relevancy_walk.specs.terms.Place.{relevancy_walker}
use Rattle.relevancy.proofs.EngineLaws.{no_facts}
use Rattle.relevancy.proofs.alone.decide.Goals as goal

pub limit_in-limit-requires : goal.limit_in-limit-requires
limit_in-limit-requires c = table_size c.args.table.now c.requires.lawful

pub walk_whole-whole-requires-clause-store : goal.walk_whole-whole-requires-clause-store
walk_whole-whole-requires-clause-store c = (no_facts, c.requires.in_bounds.1)

pub returns : goal.returns
returns c =
    let a = c.args in
    let r = c.reply in
    subst (λ (n : ℕ). Replied (relevancy_walker a.table.now) n a.answer.now r.result r.new.answer) (c.limit_in-limit.ensures ∙ limit_of_lem a.table.now) r.ensures
