use Rattle.effect_cells.proofs.InRange.{each_is}
use Rattle.effect_cells.proofs.passing.check_later.Goals as goal

pub stays_in_range-requires : goal.stays_in_range-requires
stays_in_range-requires c = each_is 0 c.args.states.now c.loop-at.at c.index-states-at.result c.requires.range c.loop-at-test.true c.index-states-at.is
