-- A simulation whose state is alike with one of an old run takes over the rest of that run.
use Rattle.std.specs.Prelude.{◌≡◌, ℕ, ◌+◌, ◌≤◌, List, ◌∷◌, ◌++◌}
use Rattle.aerie_base.specs.declared.models.model.Parts.{Parts}
use Rattle.aerie_base.specs.declared.plans.Plan.{Plan}
use Rattle.run_data.specs.declared.runs.Instant.{Instant}
use Rattle.run_data.specs.declared.runs.Outcome.TheVariants.{Completed}
use Rattle.run_data.specs.declared.runs.Run.{Run}
use Rattle.run_data.specs.Fresh.{SimulationState, instant_at, IsFresh}
use Rattle.run_data.specs.laws.AlikeSteps.{Alike, BothReach, IsNoLimit}
use Rattle.run_data.specs.laws.LiveParts.{live}
use Rattle.run_data.specs.laws.RunCosts.{cost_of_batches, cost_of_instants}
use Rattle.run_data.specs.laws.SettledInstants.{IsSettled}

-- the completed run of a plan with these instants
abbrev pub completed_run : Plan → ℕ → List Instant → Run
completed_run plan bound instants =
    record { plan = plan; bound = bound; instants = instants; reach = plan.duration; outcome = Completed }

-- the run of a plan with these instants that ended as another did
abbrev pub run_ended_as : Run → Plan → ℕ → List Instant → Run
run_ended_as old plan bound instants =
    record { plan = plan; bound = bound; instants = instants; reach = old.reach; outcome = old.outcome }

-- Where a new simulation is alike with one that a completed run went through, and what the rest of the old run cost fits
-- what is left of the bound, the rest of the new run is that of the old one. (Of the first instant of the rest the batches so
-- far are paid for already; at the beginning of an instant there are none.)
abbrev pub RestIsTakenOver : Type 0
RestIsTakenOver =
    (model : Parts) (plan old_plan : Plan) (bound old_bound : ℕ) (at other : SimulationState) (old : Run) (rest : List Instant) →
    BothReach model plan old_plan bound old_bound at other → Alike at other →
    IsFresh model old_plan old_bound old → old.outcome ≡ Completed → old.instants ≡ other.instants ++ rest →
    at.spent + cost_of_instants rest ≤ bound + cost_of_batches other.batches →
    IsFresh model plan bound (completed_run plan bound (at.instants ++ rest))

-- So it is however the old run ended, if not by its bound, where what is left of the new bound is no less than what was left
-- of the old one; costs need not be known then.
abbrev pub RestIsTakenOverWithin : Type 0
RestIsTakenOverWithin =
    (model : Parts) (plan old_plan : Plan) (bound old_bound : ℕ) (at other : SimulationState) (old : Run) (rest : List Instant) →
    BothReach model plan old_plan bound old_bound at other → Alike at other →
    IsFresh model old_plan old_bound old → IsNoLimit old.outcome → old.instants ≡ other.instants ++ rest →
    at.spent + old_bound ≤ bound + other.spent →
    IsFresh model plan bound (run_ended_as old plan bound (at.instants ++ rest))

-- ---- from settled states

-- settled states at the same time with the same cells and the same live part, whatever their instants were
pub record AlikeSettled (at other : SimulationState) : Type 0 where
  pub settled : IsSettled at
  pub old_settled : IsSettled other
  pub time : at.time ≡ other.time
  pub cells : at.cells ≡ other.cells
  pub tables : live at.table ≡ live other.table

-- the rest of the run is taken over behind the instant that is settled
abbrev pub RestIsTakenOverSettled : Type 0
RestIsTakenOverSettled =
    (model : Parts) (plan old_plan : Plan) (bound old_bound : ℕ) (at other : SimulationState) (old : Run) (rest : List Instant) →
    BothReach model plan old_plan bound old_bound at other → AlikeSettled at other →
    IsFresh model old_plan old_bound old → old.outcome ≡ Completed → old.instants ≡ other.instants ++ (instant_at other ∷ rest) →
    at.spent + cost_of_instants rest ≤ bound →
    IsFresh model plan bound (completed_run plan bound (at.instants ++ (instant_at at ∷ rest)))
