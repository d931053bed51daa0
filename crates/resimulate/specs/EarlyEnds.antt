-- Where a simulation beside an old run may end early: with the rest of that run.
use Rattle.std.specs.Prelude.{◌≡◌, ℕ, ◌-◌, List, [], ◌∷◌, ◌++◌, length, Some, slice_get}
use Rattle.aerie_base.specs.declared.models.model.Parts.{Parts}
use Rattle.aerie_base.specs.declared.plans.Plan.{Plan}
use Rattle.run_data.specs.declared.runs.Instant.{Instant}
use Rattle.run_data.specs.declared.runs.Outcome.TheVariants.{Completed}
use Rattle.run_data.specs.declared.runs.Run.{Run}
use Rattle.run_data.specs.Fresh.{SimulationState, instant_at, IsFresh}
use Rattle.run_data.specs.laws.AlikeSteps.{BothReach}
use Rattle.run_data.specs.laws.RestOfRuns.{AlikeSettled, completed_run}
use Rattle.engine_core.specs.EngineStates.{EngineState, instants_in}

-- an old run which was completed, of a plan that lasts as long
pub record MayBeEnded (plan : Plan) (old : Run) : Type 0 where
  pub lasts : plan.duration ≡ old.plan.duration
  pub completed : old.outcome ≡ Completed

-- the last of some instants and the last of others are at one time
pub record EndAtOnce (instants others : List Instant) : Type 0 where
  pub last : Instant
  pub other : Instant
  pub is_last : slice_get instants (length instants - 1) ≡ Some last
  pub other_is : slice_get others (length others - 1) ≡ Some other
  pub time : last.time ≡ other.time

-- with these instants behind its own the simulation's run is completed
abbrev pub IsRest : Parts → Plan → ℕ → EngineState → List Instant → Type 0
IsRest model plan bound engine rest = IsFresh model plan bound (completed_run plan bound (instants_in engine.point ++ rest))

-- behind these instants of a new simulation, which spent so much until then, and those of an old one the two are alike
pub record AreAlikeBehind (model : Parts) (plan old_plan : Plan) (bound old_bound : ℕ) (instants : List Instant) (spent : ℕ) (old_instants : List Instant) : Type 0 where
  pub at : SimulationState
  pub other : SimulationState
  pub both : BothReach model plan old_plan bound old_bound at other
  pub alike : AlikeSettled at other
  pub settles : instants ≡ at.instants ++ (instant_at at ∷ [])
  pub spends : spent ≡ at.spent
  pub old_settles : old_instants ≡ other.instants ++ (instant_at other ∷ [])
