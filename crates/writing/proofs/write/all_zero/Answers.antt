-- A byte more.
use Rattle.std.proofs.Common.{ℕ, length, replicate, sym, ◌∙◌, arith}
use Rattle.std.proofs.lemmas.List.{length-replicate}
use Rattle.lists.proofs.Bytes.{zeros_at}
use Rattle.lists.proofs.Loops.{same_more, same_differs}
use Rattle.writing.proofs.write.all_zero.Goals.{then-a-i-ne0, else-a-i-ne0}
use Rattle.writing.proofs.write.all_zero.Goals as goal

pub loop-i-preserved : goal.loop-i-preserved
loop-i-preserved c =
    let a = c.args.a.now in
    let l = c.loop-i in
    let long = length-replicate {A = ℕ} (length a) 0 in
    let z = zeros_at (length a) l.i in
    let differs = same_differs (replicate (length a) 0) a l.i (omega (arith, long)) (omega arith) l.all c.if-a-i-ne0.all in
    let more = same_more (replicate (length a) 0) a l.i (omega (arith, long)) (omega arith) l.all c.if-a-i-ne0.all in
    l.invariant
    ∙ elim c.if-a-i-ne0.branch [
      | then-a-i-ne0 w ↦ differs (λ e. w.if-a-i-ne0.true (sym e ∙ z)) w.all-is
      | else-a-i-ne0 w ↦ more (z ∙ sym w.if-a-i-ne0.false) w.all-is
    ]
