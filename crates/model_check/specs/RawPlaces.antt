-- The places of a model as it is written: where its names, literals, expressions and statements stand.
use Rattle.std.specs.Prelude.{◌≡◌, List, [], ◌∷◌, ◌++◌, Option, Some, None}
use Rattle.aerie_base.specs.declared.places.Place.{Place}
use Rattle.model_reader.specs.declared.raw.expressions.RawExpr.{RawExpr}
use Rattle.model_reader.specs.declared.raw.expressions.RawExprKind.TheOpen.{RawExprKind-F}
use Rattle.model_reader.specs.declared.raw.invokes.RawInvoke.{RawInvoke}
use Rattle.model_reader.specs.declared.raw.items.RawItem.{RawItem}
use Rattle.model_reader.specs.declared.raw.items.RawItem.TheVariants as item
use Rattle.model_reader.specs.declared.raw.items.RawParameter.{RawParameter}
use Rattle.model_reader.specs.declared.raw.literals.RawLiteral.{RawLiteral}
use Rattle.model_reader.specs.declared.raw.literals.RawLiteralKind.{RawLiteralKind}
use Rattle.model_reader.specs.declared.raw.literals.RawLiteralKind.TheVariants as literal
use Rattle.model_reader.specs.declared.raw.models.RawModel.{RawModel}
use Rattle.model_reader.specs.declared.raw.names.RawName.{RawName}
use Rattle.model_reader.specs.declared.raw.statements.RawStmt.{RawStmt}
use Rattle.model_reader.specs.declared.raw.statements.RawStmtKind.TheOpen.{RawStmtKind-F}
use Rattle.model_reader.specs.declared.raw.types.RawType.{RawType}
use Rattle.model_reader.specs.declared.raw.types.RawType.TheVariants as type
use Rattle.model_check.specs.Invokes.{NamedArgument}
use Rattle.model_check.specs.RawExpressions.{RawLevel, no_part, raw_gives}
use Rattle.model_check.specs.RawStatements.{StmtLevel, raw_stmt_gives}

-- ---- several parts, or none

abbrev pub places_in_all : {A : Type 0} → (A → List Place) → List A → List Place
places_in_all places_in [] = []
places_in_all places_in (part ∷ rest) = places_in part ++ places_in_all places_in rest

abbrev pub places_if_any : {A : Type 0} → (A → List Place) → Option A → List Place
places_if_any places_in None = []
places_if_any places_in (Some part) = places_in part

-- ---- names, types and literals

abbrev pub name_places : RawName → List Place
name_places name = name.at ∷ []

abbrev pub type_places : RawType → List Place
type_places type.Int = []
type_places type.Truth = []
type_places (type.Named name) = name_places name

-- the names in a literal
abbrev pub literal_names : RawLiteralKind → List Place
literal_names (literal.Number number) = []
literal_names (literal.Truth truth) = []
literal_names (literal.Variant kind variant) = kind.at ∷ variant.at ∷ []

abbrev pub literal_places : RawLiteral → List Place
literal_places literal = literal.at ∷ literal_names literal.what

-- ---- expressions

-- an expression's own place, and those of its parts
abbrev pub expr_places_step : Place → RawLevel (List Place) → List Place
expr_places_step at (RawExprKind-F.Literal literal) = at ∷ literal_names literal
expr_places_step at (RawExprKind-F.Read read) = at ∷ read.name.at ∷ []
expr_places_step at (RawExprKind-F.Not inner) = at ∷ inner.1
expr_places_step at (RawExprKind-F.Negate inner) = at ∷ inner.1
expr_places_step at (RawExprKind-F.Binary operator left right) = at ∷ (left.1 ++ right.1)

-- the place of a part that is not there, which never comes
abbrev pub no_part_places : List Place
no_part_places = no_part.at ∷ []

unfoldable pub expr_places : RawExpr → List Place
expr_places raw = raw_gives (List Place) no_part_places expr_places_step raw.at raw.what

abbrev pub argument_places : NamedArgument → List Place
argument_places argument = argument.0.at ∷ expr_places argument.1

abbrev pub invoke_places : RawInvoke → List Place
invoke_places invoke = invoke.name.at ∷ places_in_all argument_places invoke.arguments

-- ---- statements

-- those of a statement of a block, which are given with it
abbrev pub given_places : RawStmt × List Place → List Place
given_places stmt = stmt.1

-- a statement's own place, and those of its parts
abbrev pub stmt_places_step : Place → StmtLevel (List Place) → List Place
stmt_places_step at (RawStmtKind-F.Let name value) = at ∷ name.at ∷ expr_places value
stmt_places_step at (RawStmtKind-F.LetCall name call) = at ∷ name.at ∷ invoke_places call
stmt_places_step at (RawStmtKind-F.Assign name value) = at ∷ name.at ∷ expr_places value
stmt_places_step at (RawStmtKind-F.Add name value) = at ∷ name.at ∷ expr_places value
stmt_places_step at (RawStmtKind-F.Put name value) = at ∷ name.at ∷ expr_places value
stmt_places_step at (RawStmtKind-F.AddVolume name value) = at ∷ name.at ∷ expr_places value
stmt_places_step at (RawStmtKind-F.AddRate name value) = at ∷ name.at ∷ expr_places value
stmt_places_step at (RawStmtKind-F.Delay by) = at ∷ expr_places by
stmt_places_step at (RawStmtKind-F.WaitUntil condition) = at ∷ expr_places condition
stmt_places_step at (RawStmtKind-F.Spawn child) = at ∷ invoke_places child
stmt_places_step at (RawStmtKind-F.Call child) = at ∷ invoke_places child
stmt_places_step at (RawStmtKind-F.If test block other) =
    at ∷ (expr_places test ++ (places_in_all given_places block ++ places_in_all given_places other))
stmt_places_step at (RawStmtKind-F.While test body) = at ∷ (expr_places test ++ places_in_all given_places body)
stmt_places_step at (RawStmtKind-F.Return value) = at ∷ places_if_any expr_places value

unfoldable pub stmt_places : RawStmt → List Place
stmt_places stmt = raw_stmt_gives (List Place) stmt_places_step stmt.at stmt.what

-- ---- declarations

abbrev pub parameter_places : RawParameter → List Place
parameter_places parameter =
    parameter.name.at ∷ (type_places parameter.kind ++ places_if_any literal_places parameter.default)

abbrev pub item_places : RawItem → List Place
item_places (item.Enum name variants) = name.at ∷ places_in_all name_places variants
item_places (item.Counter name start) = name.at ∷ []
item_places (item.Register name kind start) = name.at ∷ (type_places kind ++ literal_places start)
item_places (item.Accumulator name volume rate) = name.at ∷ literal_places rate
item_places (item.Discrete name read) = name.at ∷ read.name.at ∷ []
item_places (item.Linear name sum) = name.at ∷ expr_places sum
item_places (item.Activity name parameters result requires_ body) =
    name.at
    ∷ (places_in_all parameter_places parameters
    ++ (places_if_any type_places result ++ (places_in_all expr_places requires_ ++ places_in_all stmt_places body)))
item_places (item.Daemon body) = places_in_all stmt_places body

-- ---- models

unfoldable pub model_places : RawModel → List Place
model_places raw = raw.name.at ∷ places_in_all item_places raw.items

-- a name, a literal, an expression or a statement of the model stands there
abbrev pub IsPlaceOf : RawModel → Place → Type 0
IsPlaceOf raw place = (front behind : List Place) × (model_places raw ≡ front ++ (place ∷ behind))
