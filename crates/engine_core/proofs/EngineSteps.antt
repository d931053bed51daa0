-- A file of lemmas: what it proves need not be read to trust a clause.
--
-- An engine from one point to the next.
use Rattle.std.proofs.Common.{◌≡◌, ℕ, List, ap, sym, ◌∙◌, subst}
use Rattle.aerie_base.specs.declared.models.model.Parts.{Parts}
use Rattle.run_data.specs.declared.jobs.Job.{Job}
use Rattle.run_data.specs.declared.runs.Run.{Run}
use Rattle.run_data.specs.Fresh.{SimulationState, IsFresh}
use Rattle.run_data.specs.Transitions.{Next, finished}
use Rattle.engine_core.specs.EngineStates.{EngineState, IsReachedPruned, IsEngineState, IsNextOf, LeadsTo, after_transition, jobs_in}
use Rattle.engine_core.specs.Simulations.{point_in, engine_state_of, IsAtNext, IsTransitionFrom}
use Rattle.engine_core.specs.declared.simulation.Request.{Request}
use Rattle.engine_core.specs.declared.simulation.Simulation.{Simulation}
use Rattle.engine_core.specs.PrunedPoints.{run_reached}

-- what a transition leads to is what the engine leads to
pub leads_next : (model : Parts) (before after : Simulation) (engine : EngineState) (point : Next SimulationState Run) → engine_state_of model before ≡ engine → IsTransitionFrom model before after →
    LeadsTo model after.request.plan after.request.bound (point_in after) point →
    LeadsTo engine.model engine.plan engine.bound (after_transition engine.model engine.plan engine.bound engine.point) point
leads_next model before after engine point is stands leads =
    subst (λ (s : EngineState). LeadsTo s.model s.plan s.bound (after_transition s.model s.plan s.bound s.point) point) is
    (subst (λ (p : Next SimulationState Run). LeadsTo model before.request.plan before.request.bound p point) stands.point
    (subst (λ (r : Request). LeadsTo model r.plan r.bound (point_in after) point) stands.request leads))

-- the same of engines that stand where simulations do
pub next_of : (model : Parts) (before after : Simulation) (engine later : EngineState) → engine_state_of model before ≡ engine → later ≡ engine_state_of model after → IsAtNext model before after → IsNextOf engine later
next_of model before after engine later is at next = subst (λ (s : EngineState). IsNextOf s later) is (subst (IsNextOf (engine_state_of model before)) (sym at) next)

-- the ready jobs of an engine
pub jobs_are : (engine other : EngineState) (ready : List (ℕ × Job)) → engine ≡ other → ready ≡ jobs_in engine.point → ready ≡ jobs_in other.point
jobs_are engine other ready same is = is ∙ ap (λ (s : EngineState). jobs_in s.point) same

pub is_fresh : (engine other : EngineState) (run : Run) → engine ≡ other → IsEngineState engine → engine.point ≡ finished run → IsFresh other.model other.plan other.bound run
is_fresh engine other run same stands is =
    subst (λ (s : EngineState). IsFresh s.model s.plan s.bound run) same
    (run_reached engine.model engine.plan engine.bound run (subst (IsReachedPruned engine.model engine.plan engine.bound) is stands.reached))
