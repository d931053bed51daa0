-- A state of a model stands at a place of its body's code, that code is short, and a valid model has few cells.
use Rattle.std.proofs.Common.{ℕ, ◌^◌, ◌<◌, ◌≤◌, ◌&&◌, Bool, IsTrue, List, nat_le, arith, length}
use Rattle.std.specs.List.{list_all}
use Rattle.aerie_base.specs.declared.models.model.Parts.{Parts}
use Rattle.aerie_base.specs.models.Cells.{is_cell}
use Rattle.aerie_base.specs.models.Limits.{cell_limit}
use Rattle.aerie_base.specs.models.ValidModel.{valid_model, has_good_cells}
use Rattle.aerie_base.specs.models.ValidParts.{are_good}
use Rattle.body_code.specs.Denoting.{IsCodeOf}
use Rattle.body_code.specs.declared.instructions.Instruction.{Instruction}
use Rattle.run_data.specs.declared.tasks.BodyId.{BodyId}
use Rattle.run_data.specs.declared.tasks.TaskState.{TaskState}
use Rattle.run_data.specs.Jobs.{is_state_of}
use Rattle.run_data.specs.TaskStates.{body_of}
use Rattle.run_data.specs.laws.Places.{StatesStandInBodies, PlacesAreFew}

-- a state of the model stands at a place of the code of its body
pub state_place : (model : Parts) (state : TaskState) (code : List Instruction) → StatesStandInBodies → IsTrue (is_state_of model state) → IsCodeOf (body_of model state.kind) code → state.at < length code
state_place model state code stand h is_code = omega (arith, stand model state h, is_code.places)

-- the code of a body of a valid model is short
pub room : (model : Parts) (kind : BodyId) (code : List Instruction) → PlacesAreFew → IsTrue (valid_model model) → IsCodeOf (body_of model kind) code → length code < 2 ^ 32
room model kind code few valid is_code = omega (arith, few model kind valid, is_code.places)

small : (count limit : ℕ) (rest : Bool) → IsTrue (nat_le count limit && rest) → count ≤ limit
small count limit rest h = grind arith

-- a valid model has few cells
pub few_cells : (model : Parts) → IsTrue (valid_model model) → length model.cells ≤ 256
unfolding has_good_cells
few_cells model valid =
    small (length model.cells) cell_limit (list_all (λ cell. is_cell model.enums cell.1) model.cells) (are_good model valid).cells
