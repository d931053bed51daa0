-- The activity types and daemons that a model may have.
use Rattle.std.specs.Prelude.{ℕ, ◌&&◌, Bool, true, false, not, List, [], ◌∷◌, Option, Some, None, nat_le, length, map, slice_get}
use Rattle.std.specs.List.{list_all}
use Rattle.aerie_base.specs.declared.values.Kind.{Kind}
use Rattle.aerie_base.specs.declared.values.Kind.TheVariants.{Truth}
use Rattle.aerie_base.specs.declared.values.Value.{Value}
use Rattle.aerie_base.specs.declared.expressions.Expr.{Expr}
use Rattle.aerie_base.specs.declared.statements.Stmt.{Stmt, out-Stmt}
use Rattle.aerie_base.specs.declared.statements.Stmt.TheOpen.{Stmt-F}
use Rattle.aerie_base.specs.declared.models.EnumType.{EnumType}
use Rattle.aerie_base.specs.declared.models.Parameter.{Parameter}
use Rattle.aerie_base.specs.declared.models.Activity.{Activity}
use Rattle.aerie_base.specs.declared.models.Daemon.{Daemon}
use Rattle.aerie_base.specs.models.Bodies.{Setting, is_body}
use Rattle.aerie_base.specs.models.Cells.{NamedCells}
use Rattle.aerie_base.specs.models.Expressions.{typed, is_kind_of}
use Rattle.aerie_base.specs.models.Limits.{parameter_limit, require_limit}
use Rattle.aerie_base.specs.models.Names.{is_name_among, are_distinct}
use Rattle.aerie_base.specs.models.Signatures.{Signature, parameter_kinds}
use Rattle.aerie_base.specs.models.Values.{is_kind, is_value_of}

-- ---- parameters

abbrev pub is_default : List EnumType → Kind → Option Value → Bool
is_default enums kind None = true
is_default enums kind (Some value) = is_value_of enums kind value

-- a type of the model, and a default of that type, where there is one
abbrev pub is_parameter : List EnumType → Parameter → Bool
is_parameter enums parameter = is_kind enums parameter.kind && is_default enums parameter.kind parameter.default

abbrev pub parameter_names : Activity → List (List ℕ)
parameter_names activity = map (λ parameter. parameter.name) activity.parameters

-- at most 16, of different names, none of which is the name of a cell or an enumeration
abbrev pub are_parameters : List EnumType → List (List ℕ) → Activity → Bool
are_parameters enums taken activity =
    nat_le (length activity.parameters) parameter_limit
    && list_all (is_parameter enums) activity.parameters
    && are_distinct (parameter_names activity)
    && list_all (λ name. not (is_name_among name taken)) (parameter_names activity)

-- ---- what a directive's arguments must meet

-- a truth over the parameters alone
abbrev pub is_require : List EnumType → Activity → Expr → Bool
is_require enums activity expr =
    is_kind_of (typed enums (slice_get (parameter_kinds activity)) (λ read. None) expr) Truth

abbrev pub are_requires : List EnumType → Activity → Bool
are_requires enums activity =
    nat_le (length activity.requires_) require_limit && list_all (is_require enums activity) activity.requires_

-- ---- bodies

abbrev pub is_return_step : {A : Type 0} → Stmt-F A → Bool
is_return_step (Stmt-F.Return value) = true
is_return_step _ = false

unfoldable pub is_return : Stmt → Bool
is_return stmt = is_return_step (out-Stmt stmt)

-- whether the last statement is a `return`
abbrev pub ends_in_return : List Stmt → Bool
ends_in_return [] = false
ends_in_return (stmt ∷ []) = is_return stmt
ends_in_return (stmt ∷ next ∷ rest) = ends_in_return (next ∷ rest)

-- the type of a result is one of the model's, and then the body ends in a `return`
abbrev pub is_result : List EnumType → Option Kind → List Stmt → Bool
is_result enums None body = true
is_result enums (Some kind) body = is_kind enums kind && ends_in_return body

abbrev pub activity_setting : List EnumType → NamedCells → List Signature → Activity → Setting
activity_setting enums cells signatures activity = record {
  enums = enums;
  cells = cells;
  signatures = signatures;
  parameters = length activity.parameters;
  result = activity.result;
}

-- whether an activity type is as it should be, by the signatures of all of them and the names of the cells and
-- enumerations
unfoldable pub is_activity : List EnumType → NamedCells → List Signature → List (List ℕ) → Activity → Bool
is_activity enums cells signatures taken activity =
    are_parameters enums taken activity
    && are_requires enums activity
    && is_result enums activity.result activity.body
    && is_body (activity_setting enums cells signatures activity) (parameter_kinds activity) activity.slots activity.body

-- a daemon has no parameters and no result
abbrev pub daemon_setting : List EnumType → NamedCells → List Signature → Setting
daemon_setting enums cells signatures =
    record { enums = enums; cells = cells; signatures = signatures; parameters = 0; result = None }

-- whether a daemon is as it should be
unfoldable pub is_daemon : List EnumType → NamedCells → List Signature → Daemon → Bool
is_daemon enums cells signatures daemon = is_body (daemon_setting enums cells signatures) [] daemon.slots daemon.body
