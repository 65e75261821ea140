use Rattle.std.proofs.Common.{refl, ◌∙◌}
use Rattle.ground.proofs.AtomLaws.{table_size}
use Rattle.ground.proofs.VerdictLaws.{limit_of_lem}
use Rattle.walk.specs.terms.Walker.{from_root}
use Rattle.relevancy_walk.specs.terms.Place.{relevancy_walker}
use Rattle.relevancy.proofs.EngineLaws.{no_facts, first_run}
use Rattle.relevancy_calls.proofs.fit.decide.Goals as goal

pub limit_in-limit-requires : goal.limit_in-limit-requires
limit_in-limit-requires c = table_size _ c.table.invariant

pub walk_whole-whole-requires-clause-store : goal.walk_whole-whole-requires-clause-store
walk_whole-whole-requires-clause-store c = (no_facts, c.requires.in_bounds.1)

pub conclude-requires-clause-limit_value : goal.conclude-requires-clause-limit_value
conclude-requires-clause-limit_value c = (from_root (relevancy_walker c.table.inside.bytes.now) 0 c.limit_in-limit.result, (refl, c.walk_whole-whole.ensures.1))

pub returns : goal.returns
returns c =
    let tb = c.table.inside.bytes.now in
    let l = c.limit_in-limit in
    let d = c.conclude in
    rw (← c.table.view_is)
    (first_run tb l.result (l.ensures ∙ limit_of_lem tb) c.args.answer.now d.result d.new.answer
    (d.ensures (from_root (relevancy_walker tb) 0 l.result) refl c.walk_whole-whole.ensures.1))
