use Prim.Native.Nat.{ℕ}
use mathlib.Core.Path.{◌≡◌, ap, ◌∙◌}
use native.Mathlib.Omega.{arith}
use lib.ListN.{replicate}
use lib.Seq.{length-take-le}
use Rattle.store.proofs.Lent.{put_size}
use Rattle.relevancy.proofs.EngineLaws.{run_replied}
use Rattle.relevancy.proofs.alone.run.Goals as goal

pub returns : goal.returns
returns c =
    let a = c.args in
    let d = c.decide-reply in
    let told = run_replied a.table.now a.answer.now d.result d.new.answer d.ensures in
    let size = put_size 9227 65536 (omega arith) a.work.now c.requires.in_bounds.1 d.new.path (d.auto.path ∙ length-take-le 9227 a.work.now (omega (arith, c.requires.in_bounds.1))) in
    (told.0, told.1, told.2, c.zero.ensures ∙ ap (λ (m : ℕ). replicate m 0) size)
