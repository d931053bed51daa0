use Rattle.effect_cells.proofs.InRange.{each_is}
use Rattle.effect_cells.proofs.committing.check_worths.Goals as goal

pub with_worth-requires-clause-range : goal.with_worth-requires-clause-range
with_worth-requires-clause-range c = each_is 0 c.args.states.now c.loop-at.at c.index-states-at.result c.requires.range c.loop-at-test.true c.index-states-at.is
