-- The bytes passed are bits, so the rest decides.
use Rattle.std.proofs.Common.{◌≡◌, ltb, take, drop}
use Rattle.lists.specs.Member.{every}
use Rattle.judging.proofs.judge.are_bits.Given as goal

abbrev pub invariant-loop-i : goal.invariant-loop-i
invariant-loop-i l = every (λ b. ltb b 2) (take l.fn.n l.fn.answer) ≡ every (λ b. ltb b 2) (drop l.i (take l.fn.n l.fn.answer))
