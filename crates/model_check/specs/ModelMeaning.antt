-- The model that is meant; where something is wrong with it, it is never used.
use Rattle.std.specs.Prelude.{ℕ, ℤ, pos, List, [], ◌∷◌, ◌++◌, Option, Some, None}
use Rattle.aerie_base.specs.declared.expressions.Expr.{Expr}
use Rattle.aerie_base.specs.declared.models.Activity.{Activity}
use Rattle.aerie_base.specs.declared.models.CellStart.{CellStart}
use Rattle.aerie_base.specs.declared.models.CellStart.TheVariants as cell
use Rattle.aerie_base.specs.declared.models.Daemon.{Daemon}
use Rattle.aerie_base.specs.declared.models.EnumType.{EnumType}
use Rattle.aerie_base.specs.declared.models.Parameter.{Parameter}
use Rattle.aerie_base.specs.declared.models.Resource.{Resource}
use Rattle.aerie_base.specs.declared.models.Resource.TheVariants as resource
use Rattle.aerie_base.specs.declared.models.model.Parts.{Parts}
use Rattle.aerie_base.specs.declared.operands.CellRead.{CellRead}
use Rattle.aerie_base.specs.declared.operands.CellRead.TheVariants as read
use Rattle.aerie_base.specs.declared.operands.Operand.{Operand}
use Rattle.aerie_base.specs.declared.operands.Operand.TheVariants as operand
use Rattle.aerie_base.specs.declared.values.Kind.{Kind}
use Rattle.aerie_base.specs.declared.values.Kind.TheVariants.{Int}
use Rattle.model_reader.specs.declared.raw.expressions.RawExpr.{RawExpr}
use Rattle.model_reader.specs.declared.raw.items.RawItem.{RawItem}
use Rattle.model_reader.specs.declared.raw.items.RawItem.TheVariants as item
use Rattle.model_reader.specs.declared.raw.items.RawParameter.{RawParameter}
use Rattle.model_reader.specs.declared.raw.literals.RawLiteralKind.{RawLiteralKind}
use Rattle.model_reader.specs.declared.raw.literals.RawLiteralKind.TheVariants as literal
use Rattle.model_reader.specs.declared.raw.models.RawModel.{RawModel}
use Rattle.model_reader.specs.declared.raw.names.RawName.{RawName}
use Rattle.model_reader.specs.declared.raw.statements.RawStmt.{RawStmt}
use Rattle.model_reader.specs.declared.raw.types.RawType.{RawType}
use Rattle.model_check.specs.declared.leaves.FormUse.TheVariants as use_
use Rattle.model_check.specs.declared.scopes.BodyScope.{BodyScope}
use Rattle.model_check.specs.declared.symbols.Symbols.{Symbols}
use Rattle.model_check.specs.BodyScopes.{empty_scope}
use Rattle.model_check.specs.CellReads.{read_operand}
use Rattle.model_check.specs.Expressions.{expr_of}
use Rattle.model_check.specs.LinearForms.{linear_of}
use Rattle.model_check.specs.Literals.{literal_value}
use Rattle.model_check.specs.ModelDiagnostics.{parameter_scope}
use Rattle.model_check.specs.ModelSymbols.{type_kind, default_value, symbols_of, bare_symbols}
use Rattle.model_check.specs.StatementScopes.{scope_behind_all}
use Rattle.model_check.specs.Statements.{block_of}

-- ---- enumerations

abbrev pub names_of : List RawName → List (List ℕ)
names_of [] = []
names_of (name ∷ rest) = name.name ∷ names_of rest

abbrev pub enum_of : RawItem → List EnumType
enum_of (item.Enum name variants) = record { name = name.name; variants = names_of variants } ∷ []
enum_of _ = []

-- ---- cells

abbrev pub known_kind : Option Kind → Kind
known_kind None = Int
known_kind (Some kind) = kind

abbrev pub kind_written : Symbols → RawType → Kind
kind_written symbols type = known_kind (type_kind symbols.enums type)

abbrev pub rate_of : RawLiteralKind → ℤ
rate_of (literal.Number number) = number
rate_of (literal.Truth truth) = pos 0
rate_of (literal.Variant kind variant) = pos 0

abbrev pub cell_of_item : Symbols → RawItem → List (List ℕ × CellStart)
cell_of_item symbols (item.Counter name start) = (name.name, cell.Counter start) ∷ []
cell_of_item symbols (item.Register name kind start) =
    (name.name, cell.Register (kind_written symbols kind) (literal_value symbols.enums start.what)) ∷ []
cell_of_item symbols (item.Accumulator name volume rate) = (name.name, cell.Accumulator volume (rate_of rate.what)) ∷ []
cell_of_item symbols _ = []

-- ---- resources

abbrev pub read_of : Operand → CellRead
read_of (operand.Read read) = read
read_of (operand.Local slot) = read.Counter 0

abbrev pub resource_of : Symbols → RawItem → List (List ℕ × Resource)
resource_of symbols (item.Discrete name read) =
    (name.name, resource.Discrete (read_of (read_operand symbols empty_scope read))) ∷ []
resource_of symbols (item.Linear name sum) = (name.name, resource.Linear (linear_of use_.Resource symbols empty_scope sum)) ∷ []
resource_of symbols _ = []

-- ---- activity types and daemons

abbrev pub model_parameters : Symbols → List RawParameter → List Parameter
model_parameters symbols [] = []
model_parameters symbols (parameter ∷ rest) =
    record {
      name = parameter.name.name;
      kind = kind_written symbols parameter.kind;
      default = default_value symbols.enums parameter.default;
    }
    ∷ model_parameters symbols rest

abbrev pub result_written : Symbols → Option RawType → Option Kind
result_written symbols None = None
result_written symbols (Some type) = Some (kind_written symbols type)

abbrev pub model_requires : Symbols → BodyScope → List RawExpr → List Expr
model_requires symbols scope [] = []
model_requires symbols scope (truth ∷ rest) = expr_of (bare_symbols symbols.enums) scope truth ∷ model_requires symbols scope rest

-- an activity type, by the scope behind its parameters
abbrev pub activity_in : Symbols → BodyScope → RawName → List RawParameter → Option RawType → List RawExpr → List RawStmt → Activity
activity_in symbols scope name parameters result requires_ body =
    record {
      name = name.name;
      parameters = model_parameters symbols parameters;
      result = result_written symbols result;
      requires_ = model_requires symbols scope requires_;
      slots = (scope_behind_all symbols body scope).count;
      body = block_of symbols body scope;
    }

abbrev pub activity_of : Symbols → RawItem → List Activity
activity_of symbols (item.Activity name parameters result requires_ body) =
    activity_in symbols (parameter_scope symbols empty_scope parameters) name parameters result requires_ body ∷ []
activity_of symbols _ = []

abbrev pub daemon_of : Symbols → RawItem → List Daemon
daemon_of symbols (item.Daemon body) =
    record { slots = (scope_behind_all symbols body empty_scope).count; body = block_of symbols body empty_scope } ∷ []
daemon_of symbols _ = []

-- ---- models

abbrev pub parts_of_items : {A : Type 0} → (RawItem → List A) → List RawItem → List A
parts_of_items of_item [] = []
parts_of_items of_item (item ∷ rest) = of_item item ++ parts_of_items of_item rest

abbrev pub model_by : Symbols → RawModel → Parts
model_by symbols raw =
    record {
      name = raw.name.name;
      enums = parts_of_items enum_of raw.items;
      cells = parts_of_items (cell_of_item symbols) raw.items;
      resources = parts_of_items (resource_of symbols) raw.items;
      activities = parts_of_items (activity_of symbols) raw.items;
      daemons = parts_of_items (daemon_of symbols) raw.items;
    }

-- the model that is meant
unfoldable pub model_of : RawModel → Parts
model_of raw = model_by (symbols_of raw.items) raw
