-- The first n are listed.
use Rattle.walk.specs.terms.Path.{alts_at}
use Rattle.walk.proofs.AlternativesLaws.{FirstListed}
use Rattle.engine.proofs.alternatives.alternatives_at.Given as goal

abbrev pub invariant-loop-n : goal.invariant-loop-n
invariant-loop-n g l = FirstListed (alts_at (g.S.Sites.walker l.sites) l.path l.depth) l.atoms l.n
