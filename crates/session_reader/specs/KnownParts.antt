-- The models, activity types and parameters that go by a name.
use Rattle.std.specs.Prelude.{ℕ, List, Option, option_and_then, position, slice_get}
use Rattle.aerie_base.specs.declared.models.Activity.{Activity}
use Rattle.aerie_base.specs.declared.models.Parameter.{Parameter}
use Rattle.aerie_base.specs.declared.models.model.Parts.{Parts}
use Rattle.aerie_base.specs.models.Names.{same_name}
use Rattle.plan_edit.specs.Arguments.{parameter_position}
use Rattle.plan_edit.specs.Editing.{type_position}

-- the position of the model with a name
abbrev pub model_position : List Parts → List ℕ → Option ℕ
model_position models name = position (λ model. same_name model.name name) models

abbrev pub model_named : List Parts → List ℕ → Option Parts
model_named models name = option_and_then (slice_get models) (model_position models name)

abbrev pub type_named : Parts → List ℕ → Option Activity
type_named model name = option_and_then (slice_get model.activities) (type_position model name)

abbrev pub parameter_named : List Parameter → List ℕ → Option Parameter
parameter_named parameters name = option_and_then (slice_get parameters) (parameter_position parameters name)
