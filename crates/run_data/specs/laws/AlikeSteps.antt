-- From states that are alike, in which only what has ended may differ, a step gives states that are alike.
use Rattle.std.specs.Prelude.{◌≡◌, ◌⊎◌, ℕ, ◌+◌, ◌≤◌, IsTrue, List, ◌++◌}
use Rattle.aerie_base.specs.declared.models.model.Parts.{Parts}
use Rattle.aerie_base.specs.declared.plans.Plan.{Plan}
use Rattle.aerie_base.specs.models.ValidModel.{valid_model}
use Rattle.aerie_base.specs.plans.OfModel.{IsPlanOf}
use Rattle.run_data.specs.declared.runs.Instant.{Instant}
use Rattle.run_data.specs.declared.runs.Outcome.{Outcome}
use Rattle.run_data.specs.declared.runs.Outcome.TheVariants.{Completed, Failed, StepLimit}
use Rattle.run_data.specs.declared.runs.Run.{Run}
use Rattle.run_data.specs.Fresh.{SimulationState, IsReached, next_state}
use Rattle.run_data.specs.Transitions.{Next, more, finished}
use Rattle.run_data.specs.laws.LiveParts.{live}

-- two states that no further step can tell apart: only what has ended may differ, and what was before
pub record Alike (at other : SimulationState) : Type 0 where
  pub time : at.time ≡ other.time
  pub cells : at.cells ≡ other.cells
  pub batches : at.batches ≡ other.batches
  pub touched : at.touched ≡ other.touched
  pub tables : live at.table ≡ live other.table

-- Two simulations, a new one and an old one, of plans of one valid model which last as long, and a state that each reaches.
pub record BothReach (model : Parts) (plan old_plan : Plan) (bound old_bound : ℕ) (at other : SimulationState) : Type 0 where
  pub valid : IsTrue (valid_model model)
  pub is_plan : IsPlanOf model plan
  pub old_is_plan : IsPlanOf model old_plan
  pub lasts : plan.duration ≡ old_plan.duration
  pub reached : IsReached model plan bound (more at)
  pub old_reached : IsReached model old_plan old_bound (more other)

-- Where the old step goes on, so does the new one: to states that are alike, for the same costs, with the same instants
-- settled. Where the old step ends its run, so does the new one, in the same way.
abbrev pub StepsAlike : SimulationState → SimulationState → Next SimulationState Run → Next SimulationState Run → Type 0
StepsAlike at other (more next) (more old) =
    Alike next old × (next.spent + other.spent ≡ at.spent + old.spent)
    × ((settled : List Instant) × (next.instants ≡ at.instants ++ settled) × (old.instants ≡ other.instants ++ settled))
StepsAlike at other (finished run) (finished old) =
    (run.outcome ≡ old.outcome) × (run.reach ≡ old.reach)
    × ((settled : List Instant) × (run.instants ≡ at.instants ++ settled) × (old.instants ≡ other.instants ++ settled))
StepsAlike at other (more next) (finished old) = ⊥
StepsAlike at other (finished run) (more old) = ⊥

-- an end that is not by the bound
abbrev pub IsNoLimit : Outcome → Type 0
IsNoLimit Completed = Unit {0}
IsNoLimit (Failed time who fault) = Unit {0}
IsNoLimit (StepLimit time) = ⊥

-- A run may be followed to its end where it completes, or where what is left of the new bound is no less than what was left
-- of the old one, and it did not end by that.
abbrev pub MayEnd : ℕ → ℕ → SimulationState → SimulationState → Outcome → Type 0
MayEnd bound old_bound at other outcome = (outcome ≡ Completed) ⊎ (IsNoLimit outcome × (at.spent + old_bound ≤ bound + other.spent))

-- what the old step costs fits what is left of the new bound
abbrev pub IsPaid : ℕ → ℕ → SimulationState → SimulationState → Next SimulationState Run → Type 0
IsPaid bound old_bound at other (more old) = at.spent + old.spent ≤ bound + other.spent
IsPaid bound old_bound at other (finished old) = MayEnd bound old_bound at other old.outcome

abbrev pub NextIsAlike : Type 0
NextIsAlike =
    (model : Parts) (plan old_plan : Plan) (bound old_bound : ℕ) (at other : SimulationState) →
    BothReach model plan old_plan bound old_bound at other → Alike at other →
    IsPaid bound old_bound at other (next_state model old_plan old_bound other) →
    StepsAlike at other (next_state model plan bound at) (next_state model old_plan old_bound other)
