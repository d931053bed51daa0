use Rattle.std.proofs.Common.{◌≡◌, ◌<◌, List, ℕ, Some, map, length, slice_get, sym, subst}
use Rattle.run_data.specs.declared.jobs.Job.{Job}
use Rattle.engine_core.specs.Simulations.{engine_state_of}
use Rattle.engine_core.proofs.EngineSteps.{jobs_are}
use Rattle.engine_core.proofs.engine.Engine.made.Goals as goal

pub made-requires : goal.made-requires
made-requires c =
    subst (λ (jobs : List (ℕ × Job)). c.args.job < length jobs)
    (sym (jobs_are (engine_state_of c.self.inside.model.now c.self.inside.simulation) c.args.self.now c.self.inside.ready c.self.view_is c.self.invariant.ready)) c.requires

pub returns : goal.returns
returns c =
    subst (λ (jobs : List (ℕ × Job)). slice_get (map (λ job. job.0) jobs) c.args.job ≡ Some c.made.result)
    (jobs_are (engine_state_of c.self.inside.model.now c.self.inside.simulation) c.args.self.now c.self.inside.ready c.self.view_is c.self.invariant.ready) c.made.ensures
