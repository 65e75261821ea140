-- The nodes before i are written down.
use Rattle.std.proofs.Common.{◌≡◌, length}
use Rattle.walk.specs.terms.Left.{StepsLeft}
use Rattle.engine.proofs.left.steps.Given as goal

abbrev pub invariant-loop-i : goal.invariant-loop-i
invariant-loop-i g l = StepsLeft (g.S.Sites.walker l.sites) l.path l.i l.atoms l.nexts × (length l.atoms ≡ 1024) × (length l.nexts ≡ 1024)
