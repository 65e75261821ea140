use Rattle.walk.proofs.PlaceLaws.{place_counted}
use Rattle.relevancy_walk.specs.terms.Place.{relevancy_walker}
use Rattle.relevancy_walk.proofs.place.RelevancyEngine.place.Goals as goal

pub returns-clause-made : goal.returns-clause-made
returns-clause-made c = c.enter.ensures.made c.args.count

pub returns-clause-counted : goal.returns-clause-counted
returns-clause-counted c =
    let a = c.args in
    let e = c.enter in
    place_counted (relevancy_walker a.self.now.table.now) a.facts.now a.path.now a.depth a.count a.limit e.result e.new.facts e.new.path (e.ensures.made a.count) c.requires.count_lt_limit
