-- What is noted of two simulations that stand at the same time, and what follows where nothing is.
use Rattle.std.specs.Prelude.{◌≡◌, ◌⊎◌, ℕ, ◌+◌, ◌≤◌, true, false, List, ◌∷◌, ◌++◌, slice_get}
use Rattle.aerie_base.specs.declared.models.model.Parts.{Parts}
use Rattle.aerie_base.specs.declared.plans.Plan.{Plan}
use Rattle.run_data.specs.declared.runs.Instant.{Instant}
use Rattle.run_data.specs.declared.runs.Outcome.TheVariants.{Completed}
use Rattle.run_data.specs.declared.runs.Run.{Run}
use Rattle.run_data.specs.Endings.{has_ended}
use Rattle.run_data.specs.Fresh.{SimulationState, instant_at, IsFresh}
use Rattle.run_data.specs.Tasks.{task_at}
use Rattle.run_data.specs.laws.AlikeSteps.{BothReach}
use Rattle.run_data.specs.laws.RestOfRuns.{AlikeSettled, completed_run}
use Rattle.run_data.specs.laws.RunCosts.{cost_of_instants}
use Rattle.run_data.specs.laws.SettledInstants.{IsSettled}
use Rattle.change_set.specs.Differences.{Differences, notes_cell, notes_task, NotesNothing}

-- a task that is the same in both, or has ended in both
abbrev pub IsSameOrEnded : SimulationState → SimulationState → List ℕ → Type 0
IsSameOrEnded at other path =
    (task_at at.table path ≡ task_at other.table path) ⊎ ((has_ended at.table path ≡ true) × (has_ended other.table path ≡ true))

-- whatever differs in two settled states at one time is noted: each cell in another state, and each task that has not ended in
-- both and is not the same
pub record NotesDifferences (noted : Differences) (at other : SimulationState) : Type 0 where
  pub settled : IsSettled at
  pub old_settled : IsSettled other
  pub time : at.time ≡ other.time
  pub cells : (cell : ℕ) → notes_cell noted cell ≡ false → slice_get at.cells cell ≡ slice_get other.cells cell
  pub tasks : (path : List ℕ) → notes_task noted path ≡ false → IsSameOrEnded at other path

-- where nothing is noted, the two are alike
abbrev pub NothingNotedIsAlike : Type 0
NothingNotedIsAlike =
    (model : Parts) (plan old_plan : Plan) (bound old_bound : ℕ) (noted : Differences) (at other : SimulationState) →
    BothReach model plan old_plan bound old_bound at other → NotesDifferences noted at other → NotesNothing noted → AlikeSettled at other

-- so the rest of a completed old run, if it can be paid, is the rest of the new one
abbrev pub RestIsTakenOverUnnoted : Type 0
RestIsTakenOverUnnoted =
    (model : Parts) (plan old_plan : Plan) (bound old_bound : ℕ) (noted : Differences) (at other : SimulationState) (old : Run) (rest : List Instant) →
    BothReach model plan old_plan bound old_bound at other → NotesDifferences noted at other → NotesNothing noted →
    IsFresh model old_plan old_bound old → old.outcome ≡ Completed → old.instants ≡ other.instants ++ (instant_at other ∷ rest) →
    at.spent + cost_of_instants rest ≤ bound →
    IsFresh model plan bound (completed_run plan bound (at.instants ++ (instant_at at ∷ rest)))
