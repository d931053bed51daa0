use Rattle.effect_cells.proofs.InRange.{one_more}
use Rattle.effect_cells.proofs.ModelCells.{each_begins, states_more}
use Rattle.effect_cells.proofs.starts.first_states.Goals as goal

pub first_state-requires : goal.first_state-requires
first_state-requires c = each_begins c.args.starts.now c.loop-start.start-index c.start-item.result c.requires c.loop-start-test.true c.start-item.is

pub loop-start-preserved : goal.loop-start-preserved
loop-start-preserved c = record {
  value =
      states_more c.args.starts.now c.loop-start.start-index c.start-item.result c.loop-start.states.items c.push.new.self.items c.first_state.result
      c.loop-start-test.true c.start-item.is c.loop-start.invariant.value c.first_state.ensures.value c.in_ok-push.ensures.items;
  range = rw c.in_ok-push.ensures.items (one_more 0 c.loop-start.states.items c.first_state.result c.loop-start.invariant.range c.first_state.ensures.range);
}
