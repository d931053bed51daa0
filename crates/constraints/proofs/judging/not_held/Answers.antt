use Rattle.constraints.proofs.Listing.{not_set_is}
use Rattle.constraints.proofs.judging.not_held.Goals as goal

pub returns : goal.returns
returns c =
    not_set_is c.args.sources.now.run.now.reach _ c.in_ok-times.times c.in_ok-made.made c.in_ok-times.ensures.reach c.in_ok-times.ensures.times c.in_ok-made.ensures.reach c.in_ok-made.ensures.times
