use Prim.Native.Nat.{ℕ, ◌+◌, ◌-◌, ◌<◌}
use mathlib.Core.Bool.{true}
use mathlib.Core.Path.{◌≡◌, refl, sym, subst, ◌∙◌}
use native.Mathlib.Omega.{arith}
use lib.ListN.{get_or}
use Rattle.search.specs.Session.{place_of}
use Rattle.walk.specs.Numbers.{session_of}
use Rattle.walk.specs.terms.Path.{deepest_at, site_at, alts_at, path_in}
use Rattle.walk.specs.terms.Place.{Reached}
use Rattle.walk.specs.terms.Resume.{is_taken, GoneOn}
use Rattle.walk.specs.declared.answer.Found.TheVariants.{Split}
use Rattle.walk.proofs.PlaceLaws.{reached_as}
use Rattle.walk.proofs.ResumeLaws.{Back, back_parted, rewound, nowhere_entry, split_found, again_next, again_deepest, again_path, again_passes, again_within, again_part, again_node, again_on, leaf_nowhere, resumes_last}
use Rattle.ground.specs.Instance.{Instance}
use Rattle.engine.proofs.resume.+resume.Goals as goal

pub returns-then-depth-steps : goal.returns-then-depth-steps
returns-then-depth-steps g t c =
    let a = c.args in
    let y = c.stand in
    resumes_last Instance (g.E.Sites.walker a.engine.now) a.facts.now a.path.now a.depth a.done a.on.count a.on.limit a.atoms.now a.nexts.now a.on.standing a.steps a.on.next (deepest_at a.path.now)
    c.requires.depth_value c.if-depth-steps.true y.result y.new.facts y.new.path y.ensures

pub returns-in_default : goal.returns-in_default
returns-in_default g t c =
    let a = c.args in
    leaf_nowhere (g.E.Sites.walker a.engine.now) a.facts.now a.path.now a.depth a.done a.found c.requires.reached c.in_default.not-Split a.atoms.now a.nexts.now
    a.on.standing a.on.count a.steps a.on.next (deepest_at a.path.now) c.requires.depth_value (omega (arith, c.requires.depth_le_steps.0))

pub returns-then-not-is_taken : goal.returns-then-not-is_taken
returns-then-not-is_taken g t c =
    let a = c.args in
    let w = g.E.Sites.walker a.engine.now in
    let at = reached_as w a.facts.now a.path.now a.depth a.done a.found (Split c.in-Split.n) c.in-Split.is c.requires.reached in
    nowhere_entry w.find a.atoms.now a.nexts.now a.on.standing a.on.count a.steps a.on.next (deepest_at a.path.now) a.depth (path_in w a.path.now a.depth) c.requires.depth_value
    (omega (arith, c.requires.depth_le_steps.0)) (w.instance (site_at w a.path.now a.depth)) (alts_at w a.path.now a.depth) (split_found w a.facts.now a.path.now a.depth a.done c.in-Split.n at)
    (sym (rw c.alternatives_at-all.ensures at c.if-not-is_taken.ensures))

pub enter-made-requires-clause-parted : goal.enter-made-requires-clause-parted
enter-made-requires-clause-parted g t c =
    let a = c.args in
    let u = c.rewind in
    back_parted
    (rewound (g.E.Sites.walker a.engine.now) a.found c.in-Split.n (get_or a.nexts.now a.depth 0 - 1) 2050 u.new.facts u.new.path c.requires.reached c.in-Split.is (g.met.E.Engine.capacity a.engine.now) u.ensures.0 u.ensures.1 u.auto.path)

pub enter-made-requires-clause-next_of : goal.enter-made-requires-clause-next_of
enter-made-requires-clause-next_of g t c =
    let a = c.args in
    let u = c.rewind in
    let w = g.E.Sites.walker a.engine.now in
    let b : Back w a.facts.now a.path.now a.depth a.done c.in-Split.n (get_or a.nexts.now a.depth 0 - 1) u.new.facts u.new.path =
    rewound w a.found c.in-Split.n (get_or a.nexts.now a.depth 0 - 1) 2050 u.new.facts u.new.path c.requires.reached c.in-Split.is (g.met.E.Engine.capacity a.engine.now) u.ensures.0 u.ensures.1 u.auto.path in
    again_next (get_or a.nexts.now a.depth 0) b (get_or a.atoms.now a.depth 0) (sym (rw c.alternatives_at-all.ensures at c.if-not-is_taken.ensures))

pub resume-requires : goal.resume-requires
resume-requires g t c κs within =
    let a = c.args in
    let u = c.rewind in
    let w = g.E.Sites.walker a.engine.now in
    let b : Back w a.facts.now a.path.now a.depth a.done c.in-Split.n (get_or a.nexts.now a.depth 0 - 1) u.new.facts u.new.path =
    rewound w a.found c.in-Split.n (get_or a.nexts.now a.depth 0 - 1) 2050 u.new.facts u.new.path c.requires.reached c.in-Split.is (g.met.E.Engine.capacity a.engine.now) u.ensures.0 u.ensures.1 u.auto.path in
    let here : is_taken (alts_at w a.path.now a.depth) (get_or a.nexts.now a.depth 0) (get_or a.atoms.now a.depth 0) ≡ true = sym (rw c.alternatives_at-all.ensures at c.if-not-is_taken.ensures) in
    let e = c.enter-made in
    let went = e.ensures.made 0 in
    let more : a.depth < a.steps = omega (arith, c.requires.depth_le_steps.0) in
    let same : deepest_at e.new.path ≡ deepest_at a.path.now = again_deepest (get_or a.nexts.now a.depth 0) b went (omega arith) in (
      omega arith,
      (
        within,
        (
          c.requires.fit,
          (
            subst (λ (i : ℕ). Reached w e.new.facts e.new.path (a.depth + 1) i e.result) (sym c.mark-own.ensures) went.reached,
            (again_path (get_or a.nexts.now a.depth 0) b went a.atoms.now a.nexts.now refl c.requires.depth_value here, ((omega arith, c.requires.depth_le_steps.1, c.requires.depth_le_steps.2), omega arith)),
          ),
        ),
      ),
    )

pub returns-in_err-walked : goal.returns-in_err-walked
unfolding place_of
returns-in_err-walked g t c = rw c.from_residual.ensures c.in_err-walked.ensures

pub returns-in_default-walked : goal.returns-in_default-walked
unfolding place_of
returns-in_default-walked g t c =
    let a = c.args in
    let u = c.rewind in
    let w = g.E.Sites.walker a.engine.now in
    let b : Back w a.facts.now a.path.now a.depth a.done c.in-Split.n (get_or a.nexts.now a.depth 0 - 1) u.new.facts u.new.path =
    rewound w a.found c.in-Split.n (get_or a.nexts.now a.depth 0 - 1) 2050 u.new.facts u.new.path c.requires.reached c.in-Split.is (g.met.E.Engine.capacity a.engine.now) u.ensures.0 u.ensures.1 u.auto.path in
    let e = c.enter-made in
    let q = c.resume in
    let below : GoneOn w (place_of w.find (session_of a.on.standing a.on.count a.atoms.now a.nexts.now a.steps a.on.next (deepest_at a.path.now))) e.new.facts e.new.path (a.depth + 1) c.mark-own.result a.on.count a.on.limit
    c.in_ok-walked.walked q.new.facts q.new.path = c.in_ok-walked.ensures in
    again_passes (get_or a.nexts.now a.depth 0) b (e.ensures.made 0) c.mark-own.ensures below (omega (arith, c.requires.depth_le_steps.0, c.requires.steps_bound)) c.in_default-walked.not-Shut

pub work_off-rest-requires-clause-parted : goal.work_off-rest-requires-clause-parted
unfolding place_of
work_off-rest-requires-clause-parted g t c =
    let a = c.args in
    let u = c.rewind in
    let w = g.E.Sites.walker a.engine.now in
    let b : Back w a.facts.now a.path.now a.depth a.done c.in-Split.n (get_or a.nexts.now a.depth 0 - 1) u.new.facts u.new.path =
    rewound w a.found c.in-Split.n (get_or a.nexts.now a.depth 0 - 1) 2050 u.new.facts u.new.path c.requires.reached c.in-Split.is (g.met.E.Engine.capacity a.engine.now) u.ensures.0 u.ensures.1 u.auto.path in
    let e = c.enter-made in
    let q = c.resume in
    let below : GoneOn w (place_of w.find (session_of a.on.standing a.on.count a.atoms.now a.nexts.now a.steps a.on.next (deepest_at a.path.now))) e.new.facts e.new.path (a.depth + 1) c.mark-own.result a.on.count a.on.limit
    c.in_ok-walked.walked q.new.facts q.new.path = c.in_ok-walked.ensures in
    again_node (get_or a.nexts.now a.depth 0) b (e.ensures.made 0) c.mark-own.ensures below c.in-Shut.is (q.auto.path ∙ (e.ensures.made 0).reached.room.size)

pub work_off-rest-requires-clause-done_bound : goal.work_off-rest-requires-clause-done_bound
unfolding place_of
work_off-rest-requires-clause-done_bound g t c =
    let a = c.args in
    let u = c.rewind in
    let w = g.E.Sites.walker a.engine.now in
    let b : Back w a.facts.now a.path.now a.depth a.done c.in-Split.n (get_or a.nexts.now a.depth 0 - 1) u.new.facts u.new.path =
    rewound w a.found c.in-Split.n (get_or a.nexts.now a.depth 0 - 1) 2050 u.new.facts u.new.path c.requires.reached c.in-Split.is (g.met.E.Engine.capacity a.engine.now) u.ensures.0 u.ensures.1 u.auto.path in
    let e = c.enter-made in
    let q = c.resume in
    let below : GoneOn w (place_of w.find (session_of a.on.standing a.on.count a.atoms.now a.nexts.now a.steps a.on.next (deepest_at a.path.now))) e.new.facts e.new.path (a.depth + 1) c.mark-own.result a.on.count a.on.limit
    c.in_ok-walked.walked q.new.facts q.new.path = c.in_ok-walked.ensures in
    let long = q.auto.path ∙ (e.ensures.made 0).reached.room.size in (
      again_part (get_or a.nexts.now a.depth 0) b (e.ensures.made 0) c.mark-own.ensures below c.in-Shut.is long,
      again_within (get_or a.nexts.now a.depth 0) b (e.ensures.made 0) c.mark-own.ensures below c.in-Shut.is long,
    )

pub returns : goal.returns
unfolding place_of
returns g t c =
    let a = c.args in
    let u = c.rewind in
    let w = g.E.Sites.walker a.engine.now in
    let b : Back w a.facts.now a.path.now a.depth a.done c.in-Split.n (get_or a.nexts.now a.depth 0 - 1) u.new.facts u.new.path =
    rewound w a.found c.in-Split.n (get_or a.nexts.now a.depth 0 - 1) 2050 u.new.facts u.new.path c.requires.reached c.in-Split.is (g.met.E.Engine.capacity a.engine.now) u.ensures.0 u.ensures.1 u.auto.path in
    let e = c.enter-made in
    let q = c.resume in
    let y = c.work_off-rest in
    let below : GoneOn w (place_of w.find (session_of a.on.standing a.on.count a.atoms.now a.nexts.now a.steps a.on.next (deepest_at a.path.now))) e.new.facts e.new.path (a.depth + 1) c.mark-own.result a.on.count a.on.limit
    c.in_ok-walked.walked q.new.facts q.new.path = c.in_ok-walked.ensures in
    again_on (get_or a.nexts.now a.depth 0) b (e.ensures.made 0) c.mark-own.ensures below c.in-Shut.is (q.auto.path ∙ (e.ensures.made 0).reached.room.size) (omega (arith, c.requires.depth_le_steps.0, c.requires.steps_bound))
    y.result y.new.facts y.new.path y.ensures.0 y.ensures.1
