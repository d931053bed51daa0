use Rattle.std.proofs.Common.{◌≡◌, ◌∙◌, [], ap, sym, subst}
use Rattle.engine_core.specs.EngineStates.{EngineState, jobs_in}
use Rattle.engine_core.specs.Simulations.{engine_state_of}
use Rattle.engine_core.proofs.EngineSteps.{is_fresh}
use Rattle.engine_core.proofs.Transitions.{stands_there}
use Rattle.engine_core.proofs.engine.Engine.finish.Goals as goal

pub into_run-requires-clause-none : goal.into_run-requires-clause-none
into_run-requires-clause-none c = subst (λ (s : EngineState). jobs_in s.point ≡ []) (sym c.self.view_is) c.requires

pub into_run-requires-clause-job : goal.into_run-requires-clause-job
into_run-requires-clause-job c = c.self.invariant.has_job

pub returns-clause-fresh : goal.returns-clause-fresh
returns-clause-fresh c =
    is_fresh (engine_state_of c.self.inside.model.now c.self.inside.simulation) c.args.self c.into_run.result c.self.view_is
    (stands_there c.self.inside.model.now c.self.inside.simulation c.self.invariant.course c.self.invariant.has_job) c.into_run.ensures

pub returns-clause-point : goal.returns-clause-point
returns-clause-point c = ap (λ (s : EngineState). s.point) (sym c.self.view_is) ∙ c.into_run.ensures
