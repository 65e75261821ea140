use Rattle.offering.proofs.OfferLaws.{slip_filled}
use Rattle.offering.proofs.offer.fill.Goals as goal

pub returns : goal.returns
returns c = slip_filled c.args.slip.now c.zero.new.dst c.requires.0 c.zero.ensures c.args.frame.now c.copy.new.dst c.args.count c.requires.1 c.copy.ensures
