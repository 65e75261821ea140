-- The alternatives of a split node as `src/answer.rt` has them: the first `count` of four atoms.
use Rattle.std.specs.Prelude.{ℕ, List, take}
use Rattle.walk.specs.declared.answer.Alternatives.{Alternatives}

abbrev pub listed : Alternatives → List ℕ
listed alts = take alts.count alts.atoms
