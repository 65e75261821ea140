-- Each place made has an atom more that is true, and the alternatives left at a node grow fewer. After `made` entries some alternatives are shut.
use Rattle.walk.specs.terms.Walk.{tries_left, visits_left}
use Rattle.walk.proofs.TriedLaws.{Tried}
use Rattle.engine.proofs.visiting.+try_next_visit.Given as goal

abbrev pub decreases-try_next : goal.decreases-try_next
decreases-try_next g l = tries_left (g.E.Sites.walker l.engine.now) l.facts.now l.path.now l.depth

abbrev pub decreases-visit : goal.decreases-visit
decreases-visit g l = visits_left (g.E.Sites.walker l.engine.now) l.facts.now l.path.now l.depth l.found

abbrev pub invariant-try_next-loop-a : goal.invariant-try_next-loop-a
invariant-try_next-loop-a g l = Tried (g.E.Sites.walker l.engine) l.fn.facts l.fn.path l.depth l.count l.limit l.facts l.path l.made

abbrev pub decreases-try_next-loop-a : goal.decreases-try_next-loop-a
decreases-try_next-loop-a g l = tries_left (g.E.Sites.walker l.engine) l.facts l.path l.depth
