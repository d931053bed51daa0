use Rattle.std.proofs.Common.{◌≡◌, ◌∙◌, ap, sym, subst, Some}
use Rattle.run_data.specs.Batches.{by_path}
use Rattle.engine_core.specs.BatchEnds.{batch_frames}
use Rattle.engine_core.specs.EngineStates.{EngineState, jobs_in}
use Rattle.engine_core.specs.Simulations.{engine_state_of}
use Rattle.engine_core.specs.declared.simulation.Request.{Request}
use Rattle.engine_core.proofs.EngineSteps.{jobs_are, next_of}
use Rattle.engine_core.proofs.engine.Engine.take_over.Goals as goal

pub step_over-requires-clause-before : goal.step_over-requires-clause-before
step_over-requires-clause-before c = c.self.invariant

pub step_over-requires-clause-job : goal.step_over-requires-clause-job
step_over-requires-clause-job c = λ none. c.requires.job (sym (jobs_are (engine_state_of c.self.inside.model.now c.self.inside.simulation) c.args.self c.self.inside.ready c.self.view_is c.self.invariant.ready) ∙ none)

pub step_over-requires-clause-frames : goal.step_over-requires-clause-frames
step_over-requires-clause-frames c =
    subst (λ (jobs : _). batch_frames c.self.inside.model.now (c.self.inside.simulation.request.bound) jobs ≡ Some (by_path c.args.frames.now)) (sym c.self.invariant.ready)
    (subst (λ (s : EngineState). batch_frames s.model s.bound (jobs_in s.point) ≡ Some (by_path c.args.frames.now)) (sym c.self.view_is) c.requires.frames)

pub engine_at-engine-requires : goal.engine_at-engine-requires
engine_at-engine-requires c = c.in_ok-step_over.ensures.before

pub returns-clause-model : goal.returns-clause-model
returns-clause-model c = ap (λ (s : EngineState). s.model) c.engine_at-engine.ensures.is ∙ ap (λ (s : EngineState). s.model) c.self.view_is

pub returns-clause-plan : goal.returns-clause-plan
returns-clause-plan c =
    ap (λ (s : EngineState). s.plan) c.engine_at-engine.ensures.is ∙ ap (λ (r : Request). r.plan) c.in_ok-step_over.ensures.request ∙ ap (λ (s : EngineState). s.plan) c.self.view_is

pub returns-clause-bound : goal.returns-clause-bound
returns-clause-bound c =
    ap (λ (s : EngineState). s.bound) c.engine_at-engine.ensures.is ∙ ap (λ (r : Request). r.bound) c.in_ok-step_over.ensures.request ∙ ap (λ (s : EngineState). s.bound) c.self.view_is

pub returns-clause-stands : goal.returns-clause-stands
returns-clause-stands c = c.engine_at-engine.ensures.stands

pub returns-clause-next : goal.returns-clause-next
returns-clause-next c =
    next_of c.self.inside.model.now c.self.inside.simulation c.step_over.new.self c.args.self c.engine_at-engine.result c.self.view_is c.engine_at-engine.ensures.is c.in_ok-step_over.ensures.next
