-- What edits make of plans.
use Rattle.std.specs.Prelude.{Result}
use Rattle.aerie_base.specs.declared.models.model.Parts.{Parts}
use Rattle.aerie_base.specs.declared.plans.Plan.{Plan}
use Rattle.plan_edit.specs.declared.errors.EditError.{EditError}
use Rattle.plan_edit.specs.Editing.{add_of, remove_of, move_of, set_of}
use Rattle.plan_edit.specs.Loading.{load_of}
use Rattle.commands.specs.declared.edits.Edit.{Edit}
use Rattle.commands.specs.declared.edits.Edit.TheVariants.{Add, Remove, Move, Set, Load}

-- the edited plan, by its model
abbrev pub edit_of : Edit → Parts → Plan → Result Plan EditError
edit_of (Add at kind arguments) model plan = add_of model plan at kind arguments
edit_of (Remove id) model plan = remove_of plan id
edit_of (Move id at) model plan = move_of plan id at
edit_of (Set id parameter value) model plan = set_of model plan id parameter value
edit_of (Load text) model plan = load_of model plan text
