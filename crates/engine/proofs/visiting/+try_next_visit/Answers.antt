use Prim.Native.Nat.{ℕ, ◌+◌, ◌<◌}
use mathlib.Core.Path.{◌≡◌, refl, sym, subst, ◌∙◌}
use native.Mathlib.Omega.{arith}
use Rattle.store.specs.terms.Store.{Undone}
use Rattle.walk.specs.terms.Path.{mark_at}
use Rattle.walk.specs.terms.Place.{Reached}
use Rattle.walk.specs.terms.Walk.{visits_left, AllShut}
use Rattle.walk.specs.declared.answer.Found.TheVariants.{Split}
use Rattle.walk.specs.declared.answer.Walked.TheVariants.{Shut}
use Rattle.walk.proofs.PlaceLaws.{reached_as, visiting_as}
use Rattle.walk.proofs.WalkLaws.{split_shut, split_tries, passes, passes_ended, leaves_as, ended_as, tried_none, none_ended}
use Rattle.walk.proofs.TriedLaws.{tried_visit, tried_falls, tried_on, tried_leaves, tried_ended}
use Rattle.engine.proofs.visiting.+try_next_visit.Goals as goal

pub try_next-visit-walked-requires : goal.try_next-visit-walked-requires
try_next-visit-walked-requires g t c κs within =
    let l = c.loop-a in
    let p = c.place-found in
    let w = g.E.Sites.walker c.args.engine.now in
    let own_is : c.mark-own.result ≡ mark_at l.path c.args.depth = ◌∙◌ {b = mark_at c.args.path.now c.args.depth} c.mark-own.ensures (sym l.invariant.mark_is) in (
      subst (λ (m : ℕ). visits_left w p.new.facts p.new.path (c.args.depth + 1) p.result < m) c.decreases
          (tried_visit w c.args.facts.now c.args.path.now c.args.depth c.args.count c.args.limit (g.met.E.Sites.sound c.args.engine.now (g.met.E.Engine.known c.args.engine.now c.requires.fit))
          l.facts l.path l.made l.invariant c.in-Some.ensures.0 p.result p.new.facts p.new.path p.ensures.made),
      (within, (c.requires.fit, (subst (λ (m : ℕ). Reached w p.new.facts p.new.path (c.args.depth + 1) m p.result) (sym own_is) p.ensures.made.reached, omega arith))),
    )

pub try_next-returns-in_default-walked : goal.try_next-returns-in_default-walked
try_next-returns-in_default-walked g t c =
    let l = c.loop-a in
    let p = c.place-found in
    let v = c.visit-walked in
    let w = g.E.Sites.walker c.args.engine.now in (
      passes w v.new.facts v.new.path c.args.limit p.new.facts p.new.path (c.args.depth + 1) c.mark-own.result (l.made + 1)
          c.args.facts.now c.args.path.now c.args.depth (mark_at c.args.path.now c.args.depth) c.args.count v.result c.in_default-walked.not-Shut v.ensures.0,
      λ r e due.
          passes_ended w v.new.facts v.new.path r p.new.path (c.args.depth + 1) c.args.path.now c.args.depth v.result c.in_default-walked.not-Shut
          (v.ensures.1 r e (p.ensures.made.trail r (omega arith) (l.invariant.tries r e due))),
    )

pub try_next-loop-a-smaller : goal.try_next-loop-a-smaller
try_next-loop-a-smaller g t c =
    let l = c.loop-a in
    let p = c.place-found in
    let v = c.visit-walked in
    tried_falls (g.E.Sites.walker c.args.engine.now) c.args.facts.now c.args.path.now c.args.depth c.args.count c.args.limit l.facts l.path l.made l.invariant c.in-Some.ensures.0 (omega arith)
    p.result p.new.facts p.new.path p.ensures.made c.mark-own.result c.mark-own.ensures
    v.result c.in-Shut.shut c.in-Shut.is v.new.facts v.new.path v.auto.path v.ensures.0 v.ensures.1

pub try_next-loop-a-preserved : goal.try_next-loop-a-preserved
try_next-loop-a-preserved g t c =
    let l = c.loop-a in
    let p = c.place-found in
    let v = c.visit-walked in
    tried_on (g.E.Sites.walker c.args.engine.now) c.args.facts.now c.args.path.now c.args.depth c.args.count c.args.limit l.facts l.path l.made l.invariant c.in-Some.ensures.0 (omega arith)
    p.result p.new.facts p.new.path p.ensures.made c.mark-own.result c.mark-own.ensures
    v.result c.in-Shut.shut c.in-Shut.is v.new.facts v.new.path v.auto.path v.ensures.0 v.ensures.1

pub try_next-returns : goal.try_next-returns
try_next-returns g t c =
    let l = c.loop-a in
    let w = g.E.Sites.walker c.args.engine.now in (
      tried_leaves w c.args.facts.now c.args.path.now c.args.depth c.args.count c.args.limit l.facts l.path l.made l.invariant l.facts l.path (Shut l.made)
          (tried_none w l.facts l.path c.args.depth l.invariant.parted l.made c.args.limit l.invariant.within),
      λ r e due.
          tried_ended w c.args.facts.now c.args.path.now c.args.depth c.args.count c.args.limit l.facts l.path l.made l.invariant l.facts l.path r (Shut l.made)
          (none_ended w l.facts l.path c.args.depth l.invariant.parted r l.made c.in_default.ensures (l.invariant.tries r e due)),
    )

pub visit-returns-in-Shut : goal.visit-returns-in-Shut
visit-returns-in-Shut g t c =
    let a = c.args in
    let w = g.E.Sites.walker a.engine.now in
    let room : w.capacity ≡ 2050 = g.met.E.Engine.capacity a.engine.now in
    let at = reached_as w a.facts.now a.path.now a.depth a.done a.found (Split c.in-Split.n) c.in-Split.is c.requires.reached in
    let u = c.undo in
    let own : Undone w.capacity a.facts.now (mark_at a.path.now a.depth) u.new.r =
    rw (room, ← c.mark-own.ensures) u.ensures in
    let y = c.try_next-walked in
    let shut : AllShut w u.new.r a.path.now a.depth (mark_at a.path.now a.depth) a.count a.limit c.in-Shut.shut y.new.facts y.new.path =
    leaves_as w u.new.r a.path.now a.depth (mark_at a.path.now a.depth) (mark_at a.path.now a.depth) a.count a.limit y.result (Shut c.in-Shut.shut) y.new.facts y.new.path refl c.in-Shut.is y.ensures.0 in
    let e = c.undo-in-Split in
    let back : Undone w.capacity y.new.facts a.done e.new.r = rw room e.ensures in (
      split_shut w a.facts.now a.path.now a.depth a.done a.count a.limit c.requires.count_le_limit c.in-Split.n at u.new.r own c.in-Shut.shut y.new.facts y.new.path shut e.new.r back,
      λ r met here.
          ended_as w r a.path.now a.depth y.result (Shut c.in-Shut.shut) y.new.facts y.new.path c.in-Shut.is
          (y.ensures.1 r met (split_tries w r a.facts.now a.path.now a.depth a.count c.in-Split.n (visiting_as w r a.facts.now a.path.now a.depth a.count a.found (Split c.in-Split.n) c.in-Split.is here))),
    )
