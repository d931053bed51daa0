use Rattle.std.proofs.Common.{◌∙◌, ap, sym, subst}
use Rattle.engine_core.specs.EngineStates.{EngineState, PaysForBatch, LooksForBatch}
use Rattle.engine_core.specs.Simulations.{engine_state_of}
use Rattle.engine_core.specs.declared.simulation.Request.{Request}
use Rattle.engine_core.proofs.EngineSteps.{jobs_are, next_of}
use Rattle.engine_core.proofs.engine.Engine.step.Goals as goal

pub step-requires-clause-before : goal.step-requires-clause-before
step-requires-clause-before g c = c.self.invariant

pub step-requires-clause-job : goal.step-requires-clause-job
step-requires-clause-job g c = λ none. c.requires.job (sym (jobs_are (engine_state_of c.self.inside.model.now c.self.inside.simulation) c.args.self c.self.inside.ready c.self.view_is c.self.invariant.ready) ∙ none)

pub step-requires-clause-stepper : goal.step-requires-clause-stepper
step-requires-clause-stepper g c = subst (g.S.Stepper.is_of c.args.stepper.now) (sym (ap (λ (s : EngineState). s.model) c.self.view_is)) c.requires.stepper

pub engine_at-engine-requires : goal.engine_at-engine-requires
engine_at-engine-requires g c = c.in_ok-step.ensures.before

pub returns-clause-model : goal.returns-clause-model
returns-clause-model g c = ap (λ (s : EngineState). s.model) c.engine_at-engine.ensures.is ∙ ap (λ (s : EngineState). s.model) c.self.view_is

pub returns-clause-plan : goal.returns-clause-plan
returns-clause-plan g c =
    ap (λ (s : EngineState). s.plan) c.engine_at-engine.ensures.is ∙ ap (λ (r : Request). r.plan) c.in_ok-step.ensures.request ∙ ap (λ (s : EngineState). s.plan) c.self.view_is

pub returns-clause-bound : goal.returns-clause-bound
returns-clause-bound g c =
    ap (λ (s : EngineState). s.bound) c.engine_at-engine.ensures.is ∙ ap (λ (r : Request). r.bound) c.in_ok-step.ensures.request ∙ ap (λ (s : EngineState). s.bound) c.self.view_is

pub returns-clause-stands : goal.returns-clause-stands
returns-clause-stands g c = c.engine_at-engine.ensures.stands

pub returns-clause-next : goal.returns-clause-next
returns-clause-next g c = next_of c.self.inside.model.now c.self.inside.simulation c.step.new.self c.args.self c.engine_at-engine.result c.self.view_is c.engine_at-engine.ensures.is c.in_ok-step.ensures.next

pub returns-clause-frugal : goal.returns-clause-frugal
returns-clause-frugal g c =
    subst (λ (s : EngineState). PaysForBatch s (g.S.Stepper.records c.args.stepper.now) c.args.steps.now c.step.new.steps) c.self.view_is c.in_ok-step.ensures.frugal

pub returns-clause-few_looks : goal.returns-clause-few_looks
returns-clause-few_looks g c = subst (λ (s : EngineState). LooksForBatch s c.args.looks.now c.step.new.looks) c.self.view_is c.in_ok-step.ensures.few_looks
