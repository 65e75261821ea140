use mathlib.Core.Path.{refl, ◌∙◌}
use Rattle.relevancy.proofs.EngineLaws.{root_flags}
use Rattle.relevancy.proofs.whole.walk_whole.Goals as goal

pub build-requires-clause-r_len : goal.build-requires-clause-r_len
build-requires-clause-r_len c =
    let b = c.root-found in
    (b.auto.facts ∙ c.requires.store.0.room, root_flags c.args.table.now c.requires.lawful _ b.new.facts b.new.path b.ensures.0)
