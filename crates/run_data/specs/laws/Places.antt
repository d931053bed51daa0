-- The states of a model stand at places of its bodies, and there are few of these.
use Rattle.std.specs.Prelude.{◌*◌, ◌≤◌, IsTrue}
use Rattle.aerie_base.specs.declared.models.model.Parts.{Parts}
use Rattle.aerie_base.specs.models.Limits.{statement_limit}
use Rattle.aerie_base.specs.models.ValidModel.{valid_model}
use Rattle.aerie_base.specs.statements.Places.{block_size}
use Rattle.run_data.specs.declared.tasks.BodyId.{BodyId}
use Rattle.run_data.specs.declared.tasks.TaskState.{TaskState}
use Rattle.run_data.specs.Jobs.{is_state_of}
use Rattle.run_data.specs.TaskStates.{body_of}

-- a state of the model stands at a place of its body, or at the end of it
abbrev pub StatesStandInBodies : Type 0
StatesStandInBodies =
    (model : Parts) (state : TaskState) → IsTrue (is_state_of model state) → state.at ≤ block_size (body_of model state.kind)

-- a body of a valid model has at most two places for each statement that it may have
abbrev pub PlacesAreFew : Type 0
PlacesAreFew =
    (model : Parts) (kind : BodyId) → IsTrue (valid_model model) → block_size (body_of model kind) ≤ 2 * statement_limit
