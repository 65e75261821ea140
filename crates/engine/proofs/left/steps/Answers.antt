use Prim.Native.Nat.{ℕ, ◌+◌, ◌<◌}
use mathlib.Core.Path.{ap, ◌∙◌}
use native.Mathlib.Omega.{arith}
use lib.ListN.{length, length-replicate, length-set}
use Rattle.walk.specs.terms.Alternatives.{listed}
use Rattle.walk.specs.terms.Path.{path_in}
use Rattle.walk.proofs.LeftLaws.{left_none, left_more, genuine_below, split_here, gone_on}
use Rattle.engine.proofs.left.steps.Goals as goal

pub loop-i-init : goal.loop-i-init
loop-i-init g c =
    let blank = c.requires.atoms_value in (
      left_none (g.S.Sites.walker c.args.sites.now) c.args.path.now 1024 c.args.atoms.now c.args.nexts.now blank.0 blank.1,
      ap length blank.0 ∙ length-replicate {A = ℕ} 1024 0,
      ap length blank.1 ∙ length-replicate {A = ℕ} 1024 0,
    )

pub atom_before-requires : goal.atom_before-requires
atom_before-requires g c =
    let e = c.args.sites.now in
    let w = g.S.Sites.walker e in
    let i = c.loop-i.i in
    let known = c.requires.known in
    let genuine = g.met.S.Sites.genuine e known in
    let below = genuine_below w c.args.path.now c.args.depth (i + 1) (omega arith) ((genuine (path_in w c.args.path.now c.args.depth)).0 c.requires.room.1) in
    let some_taken = gone_on w c.args.path.now (g.met.S.Sites.tied e known) (λ bs. (genuine bs).1) i (c.requires.room.2 i c.loop-i-test.true) below in
    record { next_nonzero = omega (arith, some_taken, c.next-n.ensures) }

pub loop-i-preserved : goal.loop-i-preserved
loop-i-preserved g c =
    let e = c.args.sites.now in
    let w = g.S.Sites.walker e in
    let l = c.loop-i in
    let known = c.requires.known in
    let genuine = g.met.S.Sites.genuine e known in
    let below = genuine_below w c.args.path.now c.args.depth (l.i + 1) (omega arith) ((genuine (path_in w c.args.path.now c.args.depth)).0 c.requires.room.1) in
    let here = split_here w c.args.path.now (g.met.S.Sites.tied e known) (λ bs. (genuine bs).1) l.i (c.requires.room.2 l.i c.loop-i-test.true) below in
    let all = c.alternatives_at-all in
    let n = c.next-n in
    let a = c.atom_before in
    let fits : l.i < 1024 = omega (arith, c.requires.room.0.deep) in (
      left_more w c.args.path.now l.i l.atoms l.nexts l.invariant.0 here (omega (arith, l.invariant.1)) (omega (arith, l.invariant.2))
          (listed all.result) all.ensures n.result n.ensures a.result c.taken.result a.ensures c.taken.ensures,
      length-set l.atoms l.i a.result ∙ l.invariant.1,
      length-set l.nexts l.i c.taken.result ∙ l.invariant.2,
    )
