use Prim.Native.Nat.{◌+◌}
use mathlib.Core.Path.{◌∙◌}
use native.Mathlib.Omega.{arith}
use Rattle.walk.specs.terms.Path.{mark_at, site_at}
use Rattle.walk.proofs.PlaceLaws.{place_made}
use Rattle.relevancy_walk.specs.terms.Place.{relevancy_walker, TrueFresh}
use Rattle.relevancy_walk.specs.SoundLaws.{sound}
use Rattle.relevancy_walk.proofs.FreshLaws.{next_small, put, entered_marked, entered_opening, entered_fresh}
use Rattle.relevancy_walk.proofs.FindLaws.{own_few, node-Told}
use Rattle.relevancy_walk.proofs.place.RelevancyEngine.enter.Goals as goal

pub pass-requires-clause-depth_bound : goal.pass-requires-clause-depth_bound
pass-requires-clause-depth_bound c =
    let tb = c.args.self.now.table.now in
    omega (arith, c.requires.next_of.0, (sound tb c.requires.fit.0).four (site_at (relevancy_walker tb) c.args.path.now c.args.depth) c.requires.parted.at_split.listed)

pub add-n-requires-clause-a_lt_size : goal.add-n-requires-clause-a_lt_size
add-n-requires-clause-a_lt_size c =
    let tb = c.args.self.now.table.now in
    let small = next_small tb c.requires.fit.0 c.args.facts.now c.args.path.now c.args.depth c.requires.parted c.requires.next_of.0 in
    (omega (arith, c.requires.next_of.1, (sound tb c.requires.fit.0).few), omega arith)

pub settle-node-requires-clause-true_opening : goal.settle-node-requires-clause-true_opening
settle-node-requires-clause-true_opening c =
    let a = c.args in
    let r = c.requires in
    let n = c.add-n in (
      entered_opening a.self.now.table.now r.fit.0 a.facts.now a.path.now a.depth r.parted r.next_of.0 n.new.r n.result c.mark-own.result a.a c.mark-own.ensures r.next_of.1 n.ensures,
      entered_marked a.self.now.table.now r.fit.0 a.facts.now a.path.now a.depth r.parted r.next_of.0 n.new.r n.result c.mark-own.result a.a c.mark-own.ensures r.next_of.1 n.ensures,
    )

pub tell-requires : goal.tell-requires
tell-requires c =
    let a = c.args in
    let tb = a.self.now.table.now in
    let r = c.requires in
    let n = c.add-n in
    let p = c.pass in
    let z = c.settle-node in
    let fresh : TrueFresh tb n.new.r p.new.path (a.depth + 1) n.result (mark_at a.path.now a.depth) =
    entered_fresh tb r.fit.0 a.facts.now a.path.now a.depth r.parted r.next_of.0 n.new.r n.result c.mark-own.result a.a c.mark-own.ensures r.next_of.1 n.ensures
    p.new.path (p.auto.path ∙ r.parted.room.size) p.ensures in
    (fresh.room, own_few tb r.fit.0 n.new.r p.new.path (a.depth + 1) n.result (mark_at a.path.now a.depth) fresh z.new.r z.result z.ensures)

pub returns : goal.returns
returns c =
    let a = c.args in
    let tb = a.self.now.table.now in
    let r = c.requires in
    let n = c.add-n in
    let p = c.pass in
    let z = c.settle-node in
    let t = c.tell in
    let fresh : TrueFresh tb n.new.r p.new.path (a.depth + 1) n.result (mark_at a.path.now a.depth) =
    entered_fresh tb r.fit.0 a.facts.now a.path.now a.depth r.parted r.next_of.0 n.new.r n.result c.mark-own.result a.a c.mark-own.ensures r.next_of.1 n.ensures
    p.new.path (p.auto.path ∙ r.parted.room.size) p.ensures in
    let added = put tb r.fit.0 a.facts.now a.path.now a.depth r.parted r.next_of.0 n.new.r n.result c.mark-own.result a.a c.mark-own.ensures r.next_of.1 n.ensures in
    record {
      made = λ count.
          place_made (relevancy_walker tb) a.facts.now a.path.now a.depth count r.next_of.0 n.result n.new.r p.new.path p.ensures added.grows added.kept t.result z.new.r t.new.path
          (node-Told tb r.fit.0 n.new.r p.new.path (a.depth + 1) n.result (mark_at a.path.now a.depth) fresh z.new.r z.result z.ensures t.result t.new.path (t.auto.path ∙ fresh.room.size) t.ensures);
    }
