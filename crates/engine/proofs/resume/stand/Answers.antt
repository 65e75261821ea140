use Rattle.walk.specs.declared.answer.Found.TheVariants.{Closed, Open, Split}
use Rattle.walk.proofs.PlaceLaws.{reached_as}
use Rattle.walk.proofs.ResumeLaws.{Back, back_parted, rewound, closed_nowhere, closed_goes, open_goes, split_nowhere, split_goes}
use Rattle.engine.proofs.resume.stand.Goals as goal

pub returns-then-not-split_stands : goal.returns-then-not-split_stands
returns-then-not-split_stands g c =
    let a = c.args in
    let w = g.E.Sites.walker a.engine.now in
    split_nowhere w a.facts.now a.path.now a.depth a.done a.on.count a.on.limit a.on.standing a.on.next c.in-Split.n
    (reached_as w a.facts.now a.path.now a.depth a.done a.found (Split c.in-Split.n) c.in-Split.is c.requires.reached)
    (rw c.alternatives_at-all.ensures at c.if-not-split_stands.ensures)

pub work_off-walked-requires-clause-parted : goal.work_off-walked-requires-clause-parted
work_off-walked-requires-clause-parted g c =
    let a = c.args in
    let u = c.rewind in
    back_parted
    (rewound (g.E.Sites.walker a.engine.now) a.found c.in-Split.n a.on.next 2050 u.new.facts u.new.path c.requires.reached c.in-Split.is (g.met.E.Engine.capacity a.engine.now) u.ensures.0 u.ensures.1 u.auto.path)

pub returns-then-not-closed_stands : goal.returns-then-not-closed_stands
returns-then-not-closed_stands g c =
    let a = c.args in
    let w = g.E.Sites.walker a.engine.now in
    closed_nowhere w a.facts.now a.path.now a.depth a.done a.on.count a.on.limit a.on.standing a.on.next c.in-Closed.n
    (reached_as w a.facts.now a.path.now a.depth a.done a.found (Closed c.in-Closed.n) c.in-Closed.is c.requires.reached) c.if-not-closed_stands.ensures

pub returns-else-not-split_stands : goal.returns-else-not-split_stands
returns-else-not-split_stands g c =
    let a = c.args in
    let w = g.E.Sites.walker a.engine.now in
    let u = c.rewind in
    let y = c.work_off-walked in
    let b : Back w a.facts.now a.path.now a.depth a.done c.in-Split.n a.on.next u.new.facts u.new.path =
    rewound w a.found c.in-Split.n a.on.next 2050 u.new.facts u.new.path c.requires.reached c.in-Split.is (g.met.E.Engine.capacity a.engine.now) u.ensures.0 u.ensures.1 u.auto.path in
    split_goes w a.facts.now a.path.now a.depth a.done a.on.count a.on.limit a.on.standing a.on.next c.in-Split.n b.at
    (rw c.alternatives_at-all.ensures at c.if-not-split_stands.ensures) u.new.facts b.undone u.new.path b.turned y.result y.new.facts y.new.path y.ensures.0 y.ensures.1

pub returns-else-not-closed_stands : goal.returns-else-not-closed_stands
returns-else-not-closed_stands g c =
    let a = c.args in
    let w = g.E.Sites.walker a.engine.now in
    let u = c.undo in
    closed_goes w a.facts.now a.path.now a.depth a.done a.on.count a.on.limit a.on.standing a.on.next c.in-Closed.n
    (reached_as w a.facts.now a.path.now a.depth a.done a.found (Closed c.in-Closed.n) c.in-Closed.is c.requires.reached) c.if-not-closed_stands.ensures a.on.within
    u.new.r (rw (g.met.E.Engine.capacity a.engine.now) u.ensures)

pub returns-else-not-open_stands : goal.returns-else-not-open_stands
returns-else-not-open_stands g c =
    let a = c.args in
    let w = g.E.Sites.walker a.engine.now in
    open_goes w a.facts.now a.path.now a.depth a.done a.on.count a.on.limit a.on.standing a.on.next c.in-Open.field-0
    (reached_as w a.facts.now a.path.now a.depth a.done a.found (Open c.in-Open.field-0) c.in-Open.is c.requires.reached) c.if-not-open_stands.ensures a.on.within
