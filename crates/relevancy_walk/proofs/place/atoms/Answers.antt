use mathlib.Core.Path.{◌∙◌}
use native.Mathlib.Omega.{arith}
use Rattle.ground.proofs.AtomLaws.{table_size}
use Rattle.relevancy_rule.proofs.CloseLaws.{false_bytes}
use Rattle.relevancy_walk.proofs.place.atoms.Goals as goal

pub returns : goal.returns
returns c = c.pair.ensures ∙ false_bytes c.args.table.now c.requires.lawful

pub bounds-table-8 : goal.bounds-table-8
bounds-table-8 c = omega (arith, table_size c.args.table.now c.requires.lawful)

pub bounds-table-9 : goal.bounds-table-9
bounds-table-9 c = omega (arith, table_size c.args.table.now c.requires.lawful)
