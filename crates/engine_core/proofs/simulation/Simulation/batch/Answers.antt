use Rattle.engine_core.proofs.SimulationBatches.{goes_on, in_step, spent_so_far, jobs_ready, may_end, stands_after, pays_after, looks_after}
use Rattle.engine_core.proofs.simulation.Simulation.batch.Goals as goal

pub run_batch-requires-clause-bound : goal.run_batch-requires-clause-bound
run_batch-requires-clause-bound g c = c.requires.course.bound

pub run_batch-requires-clause-spent : goal.run_batch-requires-clause-spent
run_batch-requires-clause-spent g c = spent_so_far c.reached_states_are_of_the_model.ensures c.args.model.now c.args.self.now c.cells.ensures.valid c.requires.course c.args.ready.now c.requires.ready c.requires.job

pub run_batch-requires-clause-ready : goal.run_batch-requires-clause-ready
run_batch-requires-clause-ready g c =
    jobs_ready c.reached_states_are_of_the_model.ensures c.args.model.now c.args.self.now c.cells.ensures.valid c.requires.course c.args.ready.now c.requires.ready c.requires.job
    c.tasks_stand_by_number.ensures.distinct c.tasks_stand_by_number.ensures.itself c.tasks_stand_by_number.ensures.found

pub take_end-requires-clause-open : goal.take_end-requires-clause-open
take_end-requires-clause-open g c = goes_on c.reached_states_are_of_the_model.ensures c.args.model.now c.args.self.now c.cells.ensures.valid c.requires.course c.args.ready.now c.requires.ready c.requires.job

pub take_end-requires-clause-in_step : goal.take_end-requires-clause-in_step
take_end-requires-clause-in_step g c = in_step c.reached_states_are_of_the_model.ensures c.args.model.now c.args.self.now c.cells.ensures.valid c.requires.course c.args.ready.now c.requires.ready c.requires.job

pub take_end-requires-clause-may : goal.take_end-requires-clause-may
take_end-requires-clause-may g c = may_end c.reached_states_are_of_the_model.ensures c.args.model.now c.args.self.now c.cells.ensures.valid c.requires.course c.args.ready.now c.requires.ready c.requires.job c.run_batch.new.cells c.in_ok-end.end c.in_ok-end.ensures.end c.live_tasks_live_on.ensures

pub returns-clause-stage : goal.returns-clause-stage
returns-clause-stage g c = stands_after c.reached_states_are_of_the_model.ensures c.args.model.now c.args.self.now c.cells.ensures.valid c.requires.course c.args.ready.now c.requires.ready c.requires.job c.run_batch.new.cells c.in_ok-end.end c.in_ok-end.ensures.end c.take_end.new.self c.in_ok-take_end.ensures

pub returns-clause-frugal : goal.returns-clause-frugal
returns-clause-frugal g c =
    pays_after c.reached_states_are_of_the_model.ensures c.args.model.now c.args.self.now c.cells.ensures.valid c.requires.course c.args.ready.now c.requires.ready c.requires.job
    c.run_batch.new.cells c.in_ok-end.end c.in_ok-end.ensures.end (g.S.Stepper.records c.args.stepper.now) c.args.steps.now c.run_batch.new.steps c.in_ok-end.ensures.frugal

pub returns-clause-few_looks : goal.returns-clause-few_looks
returns-clause-few_looks g c =
    looks_after c.reached_states_are_of_the_model.ensures c.args.model.now c.args.self.now c.cells.ensures.valid c.requires.course c.args.ready.now c.requires.ready c.requires.job
    c.run_batch.new.cells c.in_ok-end.end c.in_ok-end.ensures.end c.args.looks.now c.run_batch.new.looks c.in_ok-end.ensures.few_looks
