-- Whether the bytes passed are zero and the rest decide together.
use Rattle.std.proofs.Common.{◌≡◌, ◌&&◌, length, drop, replicate}
use Rattle.lists.specs.Bytes.{same_list}
use Rattle.writing.proofs.write.all_zero.Given as goal

abbrev pub invariant-loop-i : goal.invariant-loop-i
invariant-loop-i l =
    same_list (replicate (length l.a) 0) l.a ≡ (l.all && same_list (drop l.i (replicate (length l.a) 0)) (drop l.i l.a))
