use Prim.Native.Nat.{ℕ}
use mathlib.Core.Path.{ap, ◌∙◌}
use native.Mathlib.Omega.{arith}
use lib.ListN.{replicate}
use lib.Seq.{length-take-le}
use Rattle.store.proofs.Lent.{put_size}
use Rattle.staged.proofs.fit.run.Goals as goal

pub returns : goal.returns
returns c =
    let d = c.decide-verdict in
    let size = put_size 6150 65536 (omega arith) c.args.work.now c.requires.in_bounds.1 d.new.facts (d.auto.facts ∙ length-take-le 6150 c.args.work.now (omega (arith, c.requires.in_bounds.1))) in
    (d.ensures.0, d.ensures.1, c.zero.ensures ∙ ap (λ (m : ℕ). replicate m 0) size)
