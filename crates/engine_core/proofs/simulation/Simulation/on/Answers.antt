use Rattle.engine_core.proofs.SimulationMoves.{in_step, time_before, cells_in_range, waits_solvable, kept, stands_woken, is_open, goes_onward, stands_moved}
use Rattle.engine_core.proofs.simulation.Simulation.on.Goals as goal

pub wake_all-requires-clause-in_step : goal.wake_all-requires-clause-in_step
wake_all-requires-clause-in_step c = in_step c.reached_states_are_of_the_model.ensures c.args.model.now c.args.self.now c.cells.ensures.valid c.requires.course c.requires.idle

pub wake_all-requires-clause-horizon : goal.wake_all-requires-clause-horizon
wake_all-requires-clause-horizon c = time_before c.reached_states_are_of_the_model.ensures c.args.model.now c.args.self.now c.cells.ensures.valid c.requires.course c.requires.idle c.end-end.result c.end-end.ensures

pub wake_all-requires-clause-range : goal.wake_all-requires-clause-range
wake_all-requires-clause-range c = rw c.get.ensures (cells_in_range c.reached_states_are_of_the_model.ensures c.args.model.now c.args.self.now c.cells.ensures.valid c.requires.course c.requires.idle)

pub wake_all-requires-clause-waits : goal.wake_all-requires-clause-waits
wake_all-requires-clause-waits c = rw c.get.ensures (waits_solvable c.reached_states_are_of_the_model.ensures c.args.model.now c.args.self.now c.cells.ensures.valid c.requires.course c.requires.idle c.waits_go_by_the_cells.ensures)

pub wake_all-requires-clause-kept : goal.wake_all-requires-clause-kept
wake_all-requires-clause-kept c = rw c.get.ensures (kept c.reached_states_are_of_the_model.ensures c.args.model.now c.args.self.now c.cells.ensures.valid c.requires.course c.requires.idle c.end-end.result c.end-end.ensures)

pub is_ready-requires : goal.is_ready-requires
is_ready-requires c = c.in_ok-wake_all.ensures.in_step

pub returns-then-is_ready : goal.returns-then-is_ready
returns-then-is_ready c = stands_woken c.reached_states_are_of_the_model.ensures c.args.model.now c.args.self.now c.cells.ensures.valid c.requires.course c.requires.idle c.wake_all.new.self c.end-end.result c.end-end.ensures c.in_ok-wake_all.ensures.in_step (rw c.get.ensures at c.in_ok-wake_all.ensures.table) (c.live_tasks_are_live.ensures c.wake_all.new.self c.in_ok-wake_all.ensures.in_step) (rw c.get.ensures at c.in_ok-wake_all.ensures.found) (c.is_ready.ensures.some c.if-is_ready.true c.args.self.now.present.cells)

pub move_on-requires-clause-open : goal.move_on-requires-clause-open
move_on-requires-clause-open c = is_open c.reached_states_are_of_the_model.ensures c.args.model.now c.args.self.now c.cells.ensures.valid c.requires.course c.requires.idle c.wake_all.new.self c.end-end.result c.end-end.ensures c.in_ok-wake_all.ensures.in_step (rw c.get.ensures at c.in_ok-wake_all.ensures.table) (c.live_tasks_are_live.ensures c.wake_all.new.self c.in_ok-wake_all.ensures.in_step) (rw c.get.ensures at c.in_ok-wake_all.ensures.found) (c.is_ready.ensures.none c.if-is_ready.false c.args.self.now.present.cells)

pub move_on-requires-clause-onward : goal.move_on-requires-clause-onward
move_on-requires-clause-onward c =
    goes_onward c.reached_states_are_of_the_model.ensures c.args.model.now c.args.self.now c.cells.ensures.valid c.requires.course c.requires.idle c.wake_all.new.self c.end-end.result c.end-end.ensures c.in_ok-wake_all.ensures.in_step (rw c.get.ensures at c.in_ok-wake_all.ensures.table) (c.live_tasks_are_live.ensures c.wake_all.new.self c.in_ok-wake_all.ensures.in_step) (rw c.get.ensures at c.in_ok-wake_all.ensures.found) (c.is_ready.ensures.none c.if-is_ready.false c.args.self.now.present.cells) c.what_has_ended_may_be_left_out.ensures.step c.weight_falls.ensures.falls

pub returns : goal.returns
returns c = stands_moved c.reached_states_are_of_the_model.ensures c.args.model.now c.args.self.now c.cells.ensures.valid c.requires.course c.requires.idle c.wake_all.new.self c.end-end.result c.end-end.ensures c.in_ok-wake_all.ensures.in_step (rw c.get.ensures at c.in_ok-wake_all.ensures.table) (c.live_tasks_are_live.ensures c.wake_all.new.self c.in_ok-wake_all.ensures.in_step) (rw c.get.ensures at c.in_ok-wake_all.ensures.found) (c.is_ready.ensures.none c.if-is_ready.false c.args.self.now.present.cells) c.move_on.new.self c.in_ok-move_on.ensures
