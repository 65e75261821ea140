-- The values passed are constants, so the rest decides.
use Rattle.std.proofs.Common.{◌≡◌, ltb, take, drop}
use Rattle.lists.specs.Member.{every}
use Rattle.judging.proofs.how_far.are_constants.Given as goal

abbrev pub invariant-loop-i : goal.invariant-loop-i
invariant-loop-i l = every (λ d. ltb d l.fn.c) (take l.fn.v l.fn.values) ≡ every (λ d. ltb d l.fn.c) (drop l.i (take l.fn.v l.fn.values))
