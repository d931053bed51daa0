-- The first action of a command.
use Rattle.hangar_core.specs.declared.actions.Action.{Action}
use Rattle.hangar_core.specs.declared.actions.Action.TheVariants as action
use Rattle.commands.specs.declared.commands.Command.{Command}
use Rattle.commands.specs.declared.commands.Command.TheVariants.{New, Fork, Drop, Edit, Migrate, Show, Simulate, Schedule, Merge, Expand}

abbrev pub first_action : Command → Action
first_action (New branch) = action.New branch
first_action (Fork branch source) = action.Fork branch source
first_action (Drop branch) = action.Drop branch
first_action (Edit branch edit) = action.Edit branch edit
first_action (Migrate branch model) = action.Migrate branch model
first_action (Show branch) = action.Fetch branch
first_action (Simulate branch) = action.Fetch branch
first_action (Schedule branch) = action.Fetch branch
first_action (Merge target source base) = action.Fetch target
first_action (Expand branch) = action.Fetch branch
