-- How a run ended, as the value that is printed.
use Rattle.std.specs.Prelude.{ℕ, List, [], ◌∷◌, codes, option_map, slice_get, unwrap_or}
use Rattle.serde_json.specs.Data.{Data, string}
use Rattle.aerie_base.specs.declared.faults.Fault.{Fault}
use Rattle.aerie_base.specs.declared.faults.Fault.TheVariants.{Range, Divide, NegativeDelay, TooDeep}
use Rattle.aerie_base.specs.declared.models.model.Parts.{Parts}
use Rattle.json_line.specs.Json.{object_of}
use Rattle.run_data.specs.declared.runs.Outcome.{Outcome}
use Rattle.run_data.specs.declared.runs.Outcome.TheVariants.{Completed, Failed, StepLimit}
use Rattle.run_data.specs.declared.runs.Who.{Who}
use Rattle.run_data.specs.declared.runs.Who.TheVariants.{Task, Cell}
use Rattle.json_line.specs.Numbers.{natural_data}
use Rattle.json_line.specs.PathTexts.{path_data}

abbrev pub fault_word : Fault → List ℕ
fault_word Range = codes "Range"
fault_word Divide = codes "Divide"
fault_word NegativeDelay = codes "NegativeDelay"
fault_word TooDeep = codes "TooDeep"

-- the name of a cell, where the model has one of that number
abbrev pub cell_name : Parts → ℕ → List ℕ
cell_name model cell = unwrap_or (option_map (λ named. named.0) (slice_get model.cells cell)) []

-- a fault of a task, by its path
abbrev pub over_task_data : ℕ → Fault → List ℕ → Data
over_task_data time fault path =
    object_of ((codes "fault", string (fault_word fault)) ∷ (codes "task", path_data path) ∷ (codes "time", natural_data time) ∷ [])

-- a fault of a cell that left its range, by its name
abbrev pub over_cell_data : Parts → ℕ → Fault → ℕ → Data
over_cell_data model time fault cell =
    object_of ((codes "cell", string (cell_name model cell)) ∷ (codes "fault", string (fault_word fault)) ∷ (codes "time", natural_data time) ∷ [])

abbrev pub failure_data : Parts → ℕ → Fault → Who → Data
failure_data model time fault (Task path) = over_task_data time fault path
failure_data model time fault (Cell cell) = over_cell_data model time fault cell

abbrev pub failed_data : Data → Data
failed_data failure = object_of ((codes "failed", failure) ∷ [])

-- a time by its name
abbrev pub moment_data : ℕ → Data
moment_data time = object_of ((codes "time", natural_data time) ∷ [])

abbrev pub step_limit_data : ℕ → Data
step_limit_data time = object_of ((codes "steplimit", moment_data time) ∷ [])

abbrev pub outcome_data : Parts → Outcome → Data
outcome_data model Completed = string (codes "completed")
outcome_data model (Failed time who fault) = failed_data (failure_data model time fault who)
outcome_data model (StepLimit time) = step_limit_data time
