-- The numbers passed are other ones.
use Rattle.std.proofs.Common.{◌≡◌, false, take}
use Rattle.lists.specs.Key.{nat_key}
use Rattle.lists.specs.Member.{has}
use Rattle.ground.proofs.branch.fresh.Given as goal

abbrev pub invariant-loop-j : goal.invariant-loop-j
invariant-loop-j l = has nat_key (take l.j l.seen) l.a ≡ false
