use Rattle.std.proofs.Common.{ℕ, ap, ◌∙◌, arith, replicate}
use lib.Seq.{length-take-le}
use Rattle.store.proofs.Lent.{put_size}
use Rattle.relevancy_calls.proofs.fit.run.Goals as goal

pub returns : goal.returns
returns c =
    let d = c.decide-moved in
    let size =
    put_size 9227 65536 (omega arith) c.args.work.now c.requires.in_bounds.1 d.new.path
    (d.auto.path ∙ length-take-le 9227 c.args.work.now (omega (arith, c.requires.in_bounds.1)))
    in
    (d.ensures.0, d.ensures.1, d.ensures.2, c.zero.ensures ∙ ap (λ (m : ℕ). replicate m 0) size)
