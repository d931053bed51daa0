use Rattle.std.proofs.Common.{◌∙◌, refl}
use Rattle.engine_core.specs.Simulations.{point_in, engine_state_of}
use Rattle.engine_core.proofs.EngineSteps.{leads_next}
use Rattle.engine_core.proofs.Transitions.{on_course}
use Rattle.engine_core.proofs.simulation.Simulation.step_over.Goals as goal

pub batch_of-requires-clause-course : goal.batch_of-requires-clause-course
batch_of-requires-clause-course c = c.requires.before.course

pub batch_of-requires-clause-ready : goal.batch_of-requires-clause-ready
batch_of-requires-clause-ready c = c.requires.before.ready

pub to_next_job-requires : goal.to_next_job-requires
to_next_job-requires c =
    on_course c.what_has_ended_may_be_left_out.ensures.step c.args.model.now c.cells.ensures.valid c.args.self.now c.batch_of.new.self c.requires.before.course c.in_ok-batch_of.ensures

pub returns-clause-request : goal.returns-clause-request
returns-clause-request c = c.in_ok-to_next_job.ensures.request ∙ c.in_ok-batch_of.ensures.request

pub returns-clause-next : goal.returns-clause-next
returns-clause-next c =
    leads_next c.args.model.now c.args.self.now c.batch_of.new.self (engine_state_of c.args.model.now c.args.self.now) (point_in c.to_next_job.new.self) refl c.in_ok-batch_of.ensures
    c.in_ok-to_next_job.ensures.leads
