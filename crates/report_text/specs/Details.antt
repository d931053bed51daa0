-- What a report of a simulation tells besides where details are asked for: cells, and what constraints name.
use Rattle.std.specs.Prelude.{◌≡◌, ℕ, ℤ, pos, negsuc, Bool, true, false, List, [], ◌∷◌, ◌++◌, codes, map, Option, Some, None, option_map, slice_get, unwrap_or, refl}
use Rattle.std.specs.Fmt.{digits}
use Rattle.std.specs.List.{zip}
use Rattle.json.specs.Print.{escape_byte}
use Rattle.json.specs.Token.{Token}
use Rattle.serde_json.specs.Data.{Data, array, boolean, string}
use Rattle.serde_json.specs.View.{items_of}
use Rattle.serde_json.specs.Written.{compact_text}
use Rattle.aerie_base.specs.declared.models.CellStart.{CellStart}
use Rattle.aerie_base.specs.declared.models.EnumType.{EnumType}
use Rattle.aerie_base.specs.declared.models.model.Parts.{Parts}
use Rattle.aerie_base.specs.declared.values.Value.{Value}
use Rattle.aerie_base.specs.declared.values.Value.TheVariants.{Int, Truth, Variant}
use Rattle.constraints.specs.declared.types.Constraint.{Constraint}
use Rattle.effect_cells.specs.declared.effects.CellState.{CellState}
use Rattle.effect_cells.specs.declared.effects.CellState.TheVariants.{Counter, Register, Volume}
use Rattle.json_line.specs.Json.{object_of}
use Rattle.json_line.specs.Numbers.{digits_data, natural_data}
use Rattle.json_line.specs.Parts.{member_if_tokens}
use Rattle.plan_edit.specs.ShownPlan.{json_of_value}
use Rattle.run_data.specs.Values.{cells_at}
use Rattle.run_data.specs.declared.runs.Run.{Run}
use Rattle.report_text.specs.DatasetLines.{dataset_names_data, datasets_data}
use Rattle.report_text.specs.NamedByConstraints.{named_datasets, named_resources, named_types}
use Rattle.report_text.specs.ReportCases.{camera}
use Rattle.report_text.specs.SpanLines.{type_name}

-- what is told only where details are
abbrev pub if_told : Bool → Data → Option Data
if_told true data_ = Some data_
if_told false data_ = None

-- ---- cells

-- the value of a register: a whole number, which may be too large for a number of JSON, as the text of its digits
abbrev pub kept_data : List EnumType → Value → Data
kept_data enums (Int number) = digits_data number
kept_data enums (Truth truth) = json_of_value enums (Truth truth)
kept_data enums (Variant kind number) = json_of_value enums (Variant kind number)

abbrev pub counter_data : List ℕ → ℤ → Data
counter_data name number =
    object_of ((codes "kind", string (codes "counter")) ∷ (codes "name", string name) ∷ (codes "value", digits_data number) ∷ [])

abbrev pub register_data : Parts → List ℕ → Value → Bool → Data
register_data model name value conflicted =
    object_of ((codes "conflicted", boolean conflicted)
    ∷ (codes "kind", string (codes "register"))
    ∷ (codes "name", string name)
    ∷ (codes "value", kept_data model.enums value)
    ∷ [])

-- the volume in millionths of a unit, the rate in units a second
abbrev pub accumulator_data : List ℕ → ℤ → ℤ → Data
accumulator_data name volume rate =
    object_of ((codes "kind", string (codes "accumulator"))
    ∷ (codes "name", string name)
    ∷ (codes "rate", digits_data rate)
    ∷ (codes "volume", digits_data volume)
    ∷ [])

-- a cell by its name, in a state
abbrev pub cell_data : Parts → List ℕ → CellState → Data
cell_data model name (Counter number) = counter_data name number
cell_data model name (Register value conflicted) = register_data model name value conflicted
cell_data model name (Volume volume rate) = accumulator_data name volume rate

abbrev pub named_cell_data : Parts → (List ℕ × CellStart) × CellState → Data
named_cell_data model cell = cell_data model cell.0.0 cell.1

-- cells of a model with these states
abbrev pub states_data : Parts → List CellState → Data
states_data model states = array (items_of (map (named_cell_data model) (zip model.cells states)))

-- the cells of a run at its reach, in the order of the model
abbrev pub cells_data : Parts → Run → Data
cells_data model run = states_data model (cells_at model run run.reach)

-- ---- constraints

-- the name of a resource, where the model has one of that number
abbrev pub name_of_resource : Parts → ℕ → List ℕ
name_of_resource model number = unwrap_or (option_map (λ named. named.0) (slice_get model.resources number)) []

abbrev pub type_names_data : Parts → List ℕ → Data
type_names_data model kinds = array (items_of (map (λ kind. string (type_name model kind)) kinds))

abbrev pub resource_names_data : Parts → List ℕ → Data
resource_names_data model numbers = array (items_of (map (λ number. string (name_of_resource model number)) numbers))

-- a constraint with the datasets, the resources and the activity types that it names, each once, in the order of the text
abbrev pub naming_data : Parts → Constraint → Data
naming_data model constraint =
    object_of ((codes "datasets", dataset_names_data (named_datasets constraint.rule))
    ∷ (codes "name", string constraint.name)
    ∷ (codes "resources", resource_names_data model (named_resources constraint.rule))
    ∷ (codes "types", type_names_data model (named_types constraint.rule))
    ∷ [])

-- all constraints, in their order
abbrev pub namings_data : Parts → List Constraint → Data
namings_data model constraints = array (items_of (map (naming_data model) constraints))

-- ---- all that is told between the branch and the outcome

-- behind these tokens the cells at the end, what constraints name, the datasets among that, and the plan's duration
abbrev pub details_behind : List Token → Bool → Parts → Run → List Constraint → List Token
details_behind front told model run constraints =
    (((front ++ member_if_tokens (codes "cells") (if_told told (cells_data model run)))
    ++ member_if_tokens (codes "constraints") (if_told told (namings_data model constraints)))
    ++ member_if_tokens (codes "datasets") (if_told told (datasets_data model.enums constraints)))
    ++ member_if_tokens (codes "duration") (if_told told (natural_data run.plan.duration))

-- ---- worked cases

pub a_count : compact_text (cell_data camera (codes "taken") (Counter (pos 3))) ≡ codes "{\"kind\":\"counter\",\"name\":\"taken\",\"value\":\"3\"}"
unfolding digits escape_byte
a_count = refl

pub a_mode : compact_text (cell_data camera (codes "mode") (Register (Variant 0 1) true)) ≡ codes "{\"conflicted\":true,\"kind\":\"register\",\"name\":\"mode\",\"value\":\"Mode.WIDE\"}"
unfolding digits escape_byte
a_mode = refl

pub a_number_that_is_kept : compact_text (cell_data camera (codes "last") (Register (Int (negsuc 6)) false)) ≡ codes "{\"conflicted\":false,\"kind\":\"register\",\"name\":\"last\",\"value\":\"-7\"}"
unfolding digits escape_byte
a_number_that_is_kept = refl

pub a_battery : compact_text (cell_data camera (codes "battery") (Volume (pos 1_256_000_000_000) (negsuc 149))) ≡ codes "{\"kind\":\"accumulator\",\"name\":\"battery\",\"rate\":\"-150\",\"volume\":\"1256000000000\"}"
unfolding digits escape_byte
a_battery = refl
