use Rattle.std.proofs.Common.{◌∙◌, ap, sym, subst}
use Rattle.run_data.specs.Fresh.{start}
use Rattle.run_data.specs.Transitions.{more}
use Rattle.run_data.specs.laws.PrunedStates.{pruned}
use Rattle.engine_core.specs.EngineStates.{EngineState, LeadsTo}
use Rattle.engine_core.specs.Simulations.{point_in}
use Rattle.engine_core.specs.declared.simulation.Request.{Request}
use Rattle.engine_core.proofs.Transitions.{on_course_first, leads_first}
use Rattle.engine_core.proofs.engine.Engine.begin.Goals as goal

pub to_next_job-requires : goal.to_next_job-requires
to_next_job-requires c = on_course_first c.args.model.now c.args.plan.now c.args.bound c.in_ok-simulation.simulation c.in_ok-simulation.ensures c.requires.plan c.requires.bound

pub engine_at-engine-requires : goal.engine_at-engine-requires
engine_at-engine-requires c = c.in_ok-to_next_job.ensures.before

pub returns-clause-model : goal.returns-clause-model
returns-clause-model c = ap (λ (s : EngineState). s.model) c.engine_at-engine.ensures.is

pub returns-clause-plan : goal.returns-clause-plan
returns-clause-plan c =
    ap (λ (s : EngineState). s.plan) c.engine_at-engine.ensures.is ∙ ap (λ (r : Request). r.plan) (c.in_ok-to_next_job.ensures.request ∙ c.in_ok-simulation.ensures.request)

pub returns-clause-bound : goal.returns-clause-bound
returns-clause-bound c =
    ap (λ (s : EngineState). s.bound) c.engine_at-engine.ensures.is ∙ ap (λ (r : Request). r.bound) (c.in_ok-to_next_job.ensures.request ∙ c.in_ok-simulation.ensures.request)

pub returns-clause-stands : goal.returns-clause-stands
returns-clause-stands c = c.engine_at-engine.ensures.stands

pub returns-clause-first : goal.returns-clause-first
returns-clause-first c =
    subst (λ (s : EngineState). LeadsTo c.args.model.now c.args.plan.now c.args.bound (more (pruned (start c.args.model.now c.args.plan.now))) s.point) (sym c.engine_at-engine.ensures.is)
    (leads_first c.args.model.now c.args.plan.now c.args.bound c.in_ok-simulation.simulation c.in_ok-simulation.ensures (point_in c.to_next_job.new.self) c.in_ok-to_next_job.ensures.leads)
