use Rattle.magic.proofs.EngineLaws.{no_facts}
use Rattle.magic.proofs.alone.decide.Goals as goal

pub walk_whole-whole-requires-clause-store : goal.walk_whole-whole-requires-clause-store
walk_whole-whole-requires-clause-store c = (no_facts, c.requires.in_bounds.1)
