use Rattle.engine_core.proofs.SimulationBatches.{goes_on, in_step, spent_so_far, jobs_ready, may_end, stands_after}
use Rattle.engine_core.proofs.simulation.Simulation.batch_of.Goals as goal

pub take_batch-requires-clause-bound : goal.take_batch-requires-clause-bound
take_batch-requires-clause-bound c = c.requires.course.bound

pub take_batch-requires-clause-spent : goal.take_batch-requires-clause-spent
take_batch-requires-clause-spent c = spent_so_far c.reached_states_are_of_the_model.ensures c.args.model.now c.args.self.now c.cells.ensures.valid c.requires.course c.args.ready.now c.requires.ready c.requires.job

pub take_batch-requires-clause-ready : goal.take_batch-requires-clause-ready
take_batch-requires-clause-ready c =
    jobs_ready c.reached_states_are_of_the_model.ensures c.args.model.now c.args.self.now c.cells.ensures.valid c.requires.course c.args.ready.now c.requires.ready c.requires.job
    c.tasks_stand_by_number.ensures.distinct c.tasks_stand_by_number.ensures.itself c.tasks_stand_by_number.ensures.found

pub take_end-requires-clause-open : goal.take_end-requires-clause-open
take_end-requires-clause-open c = goes_on c.reached_states_are_of_the_model.ensures c.args.model.now c.args.self.now c.cells.ensures.valid c.requires.course c.args.ready.now c.requires.ready c.requires.job

pub take_end-requires-clause-in_step : goal.take_end-requires-clause-in_step
take_end-requires-clause-in_step c = in_step c.reached_states_are_of_the_model.ensures c.args.model.now c.args.self.now c.cells.ensures.valid c.requires.course c.args.ready.now c.requires.ready c.requires.job

pub take_end-requires-clause-may : goal.take_end-requires-clause-may
take_end-requires-clause-may c = may_end c.reached_states_are_of_the_model.ensures c.args.model.now c.args.self.now c.cells.ensures.valid c.requires.course c.args.ready.now c.requires.ready c.requires.job c.take_batch.new.cells c.in_ok-end.end c.in_ok-end.ensures.end c.live_tasks_live_on.ensures

pub returns : goal.returns
returns c = stands_after c.reached_states_are_of_the_model.ensures c.args.model.now c.args.self.now c.cells.ensures.valid c.requires.course c.args.ready.now c.requires.ready c.requires.job c.take_batch.new.cells c.in_ok-end.end c.in_ok-end.ensures.end c.take_end.new.self c.in_ok-take_end.ensures
