-- What becomes of the parts of a model: what is made of each, what is wrong with it, and what is known behind it.
use Rattle.std.specs.Prelude.{◌≡◌, ℕ, Bool, not, List, ◌++◌, Option}
use Rattle.aerie_base.specs.declared.conditions.Cond.{Cond}
use Rattle.aerie_base.specs.declared.expressions.Comparison.{Comparison}
use Rattle.aerie_base.specs.declared.expressions.Expr.{Expr}
use Rattle.aerie_base.specs.declared.expressions.Operator.{Operator}
use Rattle.aerie_base.specs.declared.linear.Linear.{Linear}
use Rattle.aerie_base.specs.declared.models.Activity.{Activity}
use Rattle.aerie_base.specs.declared.models.CellStart.{CellStart}
use Rattle.aerie_base.specs.declared.models.Parameter.{Parameter}
use Rattle.aerie_base.specs.declared.places.Place.{Place}
use Rattle.aerie_base.specs.declared.values.Kind.{Kind}
use Rattle.aerie_base.specs.models.Names.{is_name_among}
use Rattle.model_reader.specs.declared.raw.expressions.RawExpr.{RawExpr}
use Rattle.model_reader.specs.declared.raw.invokes.RawInvoke.{RawInvoke}
use Rattle.model_reader.specs.declared.raw.items.RawItem.{RawItem}
use Rattle.model_reader.specs.declared.raw.items.RawParameter.{RawParameter}
use Rattle.model_reader.specs.declared.raw.literals.RawLiteral.{RawLiteral}
use Rattle.model_reader.specs.declared.raw.names.RawName.{RawName}
use Rattle.model_reader.specs.declared.raw.statements.RawStmt.{RawStmt}
use Rattle.model_reader.specs.declared.raw.types.RawType.{RawType}
use Rattle.model_check.specs.declared.bodies.CheckedBody.{CheckedBody}
use Rattle.model_check.specs.declared.causes.Cause.TheVariants.{Duplicate}
use Rattle.diagnostics.specs.declared.diagnostic.Diagnostic.{Diagnostic}
use Rattle.model_check.specs.declared.causes.Cause.{Cause}
use Rattle.model_check.specs.declared.leaves.FormUse.{FormUse}
use Rattle.model_check.specs.declared.parts.CheckedParts.{CheckedParts}
use Rattle.model_check.specs.declared.scopes.BodyScope.{BodyScope}
use Rattle.model_check.specs.declared.symbols.ResultSymbol.{ResultSymbol}
use Rattle.model_check.specs.declared.symbols.Symbols.{Symbols}
use Rattle.model_check.specs.BodyScopes.{empty_scope}
use Rattle.model_check.specs.CellReads.{cell_number}
use Rattle.model_check.specs.CheckedBodies.{checked_body}
use Rattle.model_check.specs.CheckedParameters.{parameter_of, with_parameter}
use Rattle.model_check.specs.CheckedParts.{with_checked_item}
use Rattle.model_check.specs.DeclaredParts.{register_start}
use Rattle.diagnostics.specs.Diagnostics.{refused_unless}
use Rattle.model_check.specs.Diagnostics.{noted, Makes}
use Rattle.model_check.specs.Expressions.{typed_diagnostics, expr_of}
use Rattle.model_check.specs.GivenArguments.{GivenValues, given_with, given_with_all, argument_found, arguments_found}
use Rattle.model_check.specs.Invokes.{NamedArgument, Parameters, known_diagnostics, filled_arguments, invoke_diagnostics, invoke_arguments}
use Rattle.model_check.specs.LinearForms.{form_diagnostics, linear_of}
use Rattle.model_check.specs.MadeStatements.{MakesBehind}
use Rattle.model_check.specs.ModelDiagnostics.{repeated_diagnostics, typed_literal_diagnostics, parameter_diagnostics, parameter_scope, parameters_diagnostics, requires_diagnostics, activity_diagnostics_in, item_diagnostics}
use Rattle.model_check.specs.ModelMeaning.{model_parameters, model_requires, activity_in}
use Rattle.model_check.specs.ModelSymbols.{with_names, type_diagnostics}
use Rattle.diagnostics.specs.NameLists.{with_name}
use Rattle.model_check.specs.Statements.{cell_in, valued_diagnostics, flow_diagnostics, return_diagnostics, returned_of, block_diagnostics}
use Rattle.model_check.specs.Waits.{compared_diagnostics, compared_of, forms_compared, plain_operator_diagnostics, plain_operator_of}

-- something is made, by what was noted before it and behind it
abbrev pub PartMaking : Type 0 → Type 1
PartMaking A = Option (Diagnostic Cause) → Option (Diagnostic Cause) → A → Type 0

-- something is added to others, by these before it and behind it
abbrev pub PartAdding : Type 0 → Type 1
PartAdding A = A → A → Option (Diagnostic Cause) → Option (Diagnostic Cause) → Type 0

-- ---- names

-- names more, of which each may be that of an earlier one
abbrev pub AddsNames : List RawName → PartAdding (List (List ℕ))
AddsNames names earlier later before after =
    (later ≡ with_names earlier names) × (after ≡ noted before (repeated_diagnostics earlier names))

-- ---- expressions

-- an expression of which a type is wanted
abbrev pub MakesTyped : Symbols → BodyScope → Kind → RawExpr → PartMaking Expr
MakesTyped symbols scope wanted raw = Makes (expr_of symbols scope raw) (typed_diagnostics symbols scope wanted raw)

-- one of which a type may be wanted
abbrev pub MakesValued : Symbols → BodyScope → Option Kind → RawExpr → PartMaking Expr
MakesValued symbols scope wanted raw = Makes (expr_of symbols scope raw) (valued_diagnostics symbols scope wanted raw)

abbrev pub MakesForm : FormUse → Symbols → BodyScope → RawExpr → PartMaking Linear
MakesForm use_ symbols scope raw = Makes (linear_of use_ symbols scope raw) (form_diagnostics use_ symbols scope raw)

-- two linear forms that are compared, or else two sides of an equality
abbrev pub MakesComparison : Symbols → BodyScope → Comparison → RawExpr → RawExpr → Bool → PartMaking Cond
MakesComparison symbols scope how left right forms =
    Makes (compared_of symbols scope how left right forms) (compared_diagnostics symbols scope left right forms)

-- a comparison, by the types of its sides
abbrev pub MakesCompared : Symbols → BodyScope → Comparison → RawExpr → RawExpr → PartMaking Cond
MakesCompared symbols scope how left right = MakesComparison symbols scope how left right (forms_compared symbols scope how left right)

-- an operator that joins no conditions
abbrev pub MakesPlainOperator : Symbols → BodyScope → Place → Operator → RawExpr → RawExpr → PartMaking Cond
MakesPlainOperator symbols scope at operator left right =
    Makes (plain_operator_of symbols scope operator left right) (plain_operator_diagnostics symbols scope at operator left right)

-- ---- starts of activities

-- one more argument
abbrev pub AddsArgument : Symbols → BodyScope → Parameters → NamedArgument → PartAdding GivenValues
AddsArgument symbols scope parameters argument given behind before after =
    (behind ≡ given_with symbols scope parameters given argument)
    × (after ≡ noted before (argument_found symbols scope parameters given argument))

abbrev pub AddsArguments : Symbols → BodyScope → Parameters → List NamedArgument → PartAdding GivenValues
AddsArguments symbols scope parameters arguments given behind before after =
    (behind ≡ given_with_all symbols scope parameters given arguments)
    × (after ≡ noted before (arguments_found symbols scope parameters given arguments))

-- the arguments of an activity type with these parameters, in their order
abbrev pub MakesArguments : Symbols → BodyScope → Parameters → RawInvoke → PartMaking (List Expr)
MakesArguments symbols scope parameters invoke =
    Makes (filled_arguments symbols scope parameters invoke.arguments 0 parameters.values)
    (known_diagnostics symbols scope parameters invoke)

abbrev pub MakesInvoke : Symbols → BodyScope → RawInvoke → PartMaking (List Expr)
MakesInvoke symbols scope invoke = Makes (invoke_arguments symbols scope invoke) (invoke_diagnostics symbols scope invoke)

-- ---- bodies

-- the cell and the value of an effect on a part of an accumulator
abbrev pub MakesFlow : Symbols → BodyScope → RawName → RawExpr → PartMaking (ℕ × Expr)
MakesFlow symbols scope name value =
    Makes (cell_number (cell_in symbols name), expr_of symbols scope value) (flow_diagnostics symbols scope name value)

-- the value of a `return`
abbrev pub MakesReturned : Symbols → BodyScope → Option ResultSymbol → Place → Option RawExpr → PartMaking (Option Expr)
MakesReturned symbols scope returns at value =
    Makes (returned_of symbols scope value) (return_diagnostics symbols scope returns at value)

-- a body behind the locals of a scope
abbrev pub MakesBody : Symbols → Option ResultSymbol → List RawStmt → BodyScope → PartMaking CheckedBody
MakesBody symbols returns raw scope = Makes (checked_body symbols raw scope) (block_diagnostics symbols returns raw scope)

-- ---- declarations

abbrev pub MakesRegister : Symbols → RawType → RawLiteral → PartMaking CellStart
MakesRegister symbols kind start =
    Makes (register_start symbols kind start)
    (type_diagnostics symbols.enums kind ++ typed_literal_diagnostics symbols kind start)

-- a parameter, which is known behind itself
abbrev pub MakesParameter : Symbols → RawParameter → BodyScope → BodyScope → PartMaking Parameter
MakesParameter symbols written scope =
    MakesBehind (parameter_of symbols written) (parameter_diagnostics symbols scope written) (with_parameter symbols scope written)

abbrev pub MakesParameters : Symbols → List RawParameter → BodyScope → BodyScope → PartMaking (List Parameter)
MakesParameters symbols written scope =
    MakesBehind (model_parameters symbols written) (parameters_diagnostics symbols scope written) (parameter_scope symbols scope written)

abbrev pub MakesRequires : Symbols → BodyScope → List RawExpr → PartMaking (List Expr)
MakesRequires symbols scope written = Makes (model_requires symbols scope written) (requires_diagnostics symbols scope written)

abbrev pub MakesActivity : Symbols → RawName → List RawParameter → Option RawType → List RawExpr → List RawStmt → PartMaking Activity
MakesActivity symbols name parameters result truths body =
    Makes (activity_in symbols (parameter_scope symbols empty_scope parameters) name parameters result truths body)
    (activity_diagnostics_in symbols (parameter_scope symbols empty_scope parameters) name parameters result truths body)

-- one more declaration
abbrev pub AddsItem : Symbols → RawItem → PartAdding CheckedParts
AddsItem symbols item parts behind before after =
    (behind ≡ with_checked_item symbols parts item) × (after ≡ noted before (item_diagnostics symbols item))
