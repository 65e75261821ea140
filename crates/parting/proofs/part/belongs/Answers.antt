use Prim.Native.Nat.{ℕ, ◌<◌}
use mathlib.Core.List.{List}
use mathlib.Core.Path.{◌≡◌, refl, sym, ap, subst, ◌∙◌}
use native.Mathlib.Omega.{arith}
use borrow.Author.Rules.{rules}
use borrow.Author.Tests.{lt-ltb, le-ltb}
use lib.Dec.{eqb}
use lib.ListN.{length, get_or}
use Rattle.parting.specs.terms.Labels.{labels_in}
use Rattle.parting.proofs.LabelLaws.{labels_known}
use Rattle.parting.proofs.part.belongs.Goals as goal

pub bounds-labels-lead : goal.bounds-labels-lead
bounds-labels-lead c = omega (arith, ap length c.requires.labels_value.0, (labels_known c.args.table.now c.requires.lawful).size, c.lead.ensures.1)
