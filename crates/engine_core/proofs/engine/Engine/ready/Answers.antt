use Rattle.std.proofs.Common.{◌∙◌, List, ℕ, map, ap, subst}
use Rattle.run_data.specs.declared.jobs.Job.{Job}
use Rattle.engine_core.specs.EngineStates.{IsEngineState}
use Rattle.engine_core.specs.Simulations.{engine_state_of}
use Rattle.engine_core.proofs.EngineSteps.{jobs_are}
use Rattle.engine_core.proofs.Transitions.{stands_there}
use Rattle.engine_core.proofs.engine.Engine.ready.Goals as goal

pub returns-clause-jobs : goal.returns-clause-jobs
returns-clause-jobs c =
    c.jobs.ensures ∙ ap (λ (jobs : List (ℕ × Job)). map (λ job. job.1) jobs) (jobs_are (engine_state_of c.self.inside.model.now c.self.inside.simulation) c.args.self.now c.self.inside.ready c.self.view_is c.self.invariant.ready)

pub returns-clause-stands : goal.returns-clause-stands
returns-clause-stands c = subst IsEngineState c.self.view_is (stands_there c.self.inside.model.now c.self.inside.simulation c.self.invariant.course c.self.invariant.has_job)
