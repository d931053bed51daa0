use Rattle.effect_cells.specs.Worth.{worth_of}
use Rattle.effect_cells.proofs.PendingLoops.{each_left_is, over_more}
use Rattle.effect_cells.proofs.committing.put_worths.Goals as goal

pub with_worth-requires-clause-range : goal.with_worth-requires-clause-range
with_worth-requires-clause-range c =
    rw (← c.index-states-at.is)
    (each_left_is 0 0 (worth_of c.args.tree.now) c.args.states.now c.loop-at.states c.loop-at.at c.index-states-at.result
    c.requires.range c.loop-at-test.true c.loop-at.invariant c.index-states-at.is)

pub loop-at-preserved : goal.loop-at-preserved
loop-at-preserved c =
    rw c.with_worth.ensures (rw (← c.index-states-at.is)
    (over_more (worth_of c.args.tree.now) c.args.states.now c.loop-at.states c.loop-at.at c.index-states-at.result
    c.loop-at-test.true c.loop-at.invariant c.index-states-at.is))
