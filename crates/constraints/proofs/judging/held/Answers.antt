use Rattle.constraints.proofs.Listing.{set_is}
use Rattle.constraints.proofs.judging.held.Goals as goal

pub returns : goal.returns
returns c = set_is c.args.sources.now.run.now.reach _ c.in_ok-made.made c.in_ok-made.ensures.reach c.in_ok-made.ensures.times
