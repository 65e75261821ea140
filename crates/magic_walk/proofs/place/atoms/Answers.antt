use mathlib.Core.Path.{◌∙◌}
use Rattle.magic_rule.proofs.RuledLaws.{ruled_false}
use Rattle.magic_walk.proofs.place.atoms.Goals as goal

pub returns : goal.returns
returns c = c.pair.ensures ∙ ruled_false c.args.rules.now c.requires.ruled
