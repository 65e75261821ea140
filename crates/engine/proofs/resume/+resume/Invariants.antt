-- It goes down the session's steps, and there are fewer left each time.
use Prim.Native.Nat.{◌-◌}
use Rattle.engine.proofs.resume.+resume.Given as goal

abbrev pub decreases-resume : goal.decreases-resume
decreases-resume g l = l.steps - l.depth
