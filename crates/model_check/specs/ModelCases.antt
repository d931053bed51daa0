-- Worked cases of what is wrong with models. Each place is a column of one line.
use Rattle.std.specs.Prelude.{◌≡◌, ℕ, pos, true, List, [], ◌∷◌, Option, Some, None, codes, refl}
use Rattle.aerie_base.specs.declared.expressions.Comparison.TheVariants as by
use Rattle.aerie_base.specs.declared.expressions.Operator.{Operator}
use Rattle.aerie_base.specs.declared.expressions.Operator.TheVariants as operator
use Rattle.aerie_base.specs.declared.places.Place.{Place}
use Rattle.model_reader.specs.declared.raw.expressions.RawExpr.{RawExpr}
use Rattle.model_reader.specs.declared.raw.expressions.RawExprKind.{RawExprKind, Literal, Read, Binary}
use Rattle.model_reader.specs.declared.raw.expressions.RawExprKind.TheBlock.{hidden-the_row-RawExpr-0, shape-the_row-RawExpr-0}
use Rattle.model_reader.specs.declared.raw.items.RawItem.{RawItem}
use Rattle.model_reader.specs.declared.raw.items.RawItem.TheVariants as item
use Rattle.model_reader.specs.declared.raw.items.RawParameter.{RawParameter}
use Rattle.model_reader.specs.declared.raw.literals.RawLiteral.{RawLiteral}
use Rattle.model_reader.specs.declared.raw.literals.RawLiteralKind.TheVariants as literal
use Rattle.model_reader.specs.declared.raw.models.RawModel.{RawModel}
use Rattle.model_reader.specs.declared.raw.names.RawName.{RawName}
use Rattle.model_reader.specs.declared.raw.reads.RawPart.TheVariants.{Whole, Conflicted}
use Rattle.model_reader.specs.declared.raw.statements.RawStmt.{RawStmt}
use Rattle.model_reader.specs.declared.raw.statements.RawStmtKind.{RawStmtKind, Let, Assign, Add, Put, Delay, WaitUntil, Spawn, If}
use Rattle.model_reader.specs.declared.raw.statements.RawStmtKind.TheBlock.{hidden-the_row-RawStmt-0, shape-the_row-RawStmt-0}
use Rattle.model_reader.specs.declared.raw.types.RawType.TheVariants as type
use denote.Hole.Carrier.{hidden}
use Rattle.model_check.specs.declared.causes.Cause.{Cause}
use Rattle.model_check.specs.declared.causes.Cause.TheVariants.{Unknown, Duplicate, WrongType, NotLinear, OutOfRange}
use Rattle.diagnostics.specs.declared.diagnostic.Diagnostic.{Diagnostic}
use Rattle.model_check.specs.Expressions.{expr_diagnostics}
use Rattle.model_check.specs.Invokes.{invoke_diagnostics}
use Rattle.model_check.specs.LinearForms.{leaves_of}
use Rattle.model_check.specs.ModelDiagnostics.{model_diagnostics, first_refused}
use Rattle.model_check.specs.ModelSymbols.{symbols_of}
use Rattle.model_check.specs.StatementScopes.{scope_behind}
use Rattle.model_check.specs.Statements.{stmt_diagnostics}
use Rattle.model_check.specs.Waits.{cond_diagnostics}

-- ---- models in a few words

abbrev at : ℕ → Place
at column = record { line = 1; column = column }

abbrev name : ℕ → List ℕ → RawName
name column text = record { at = at column; name = text }

abbrev n : List ℕ
n = codes "n"

abbrev x : List ℕ
x = codes "x"

abbrev by_name : List ℕ
by_name = codes "by"

abbrev expr : ℕ → RawExprKind → RawExpr
expr column what = record { at = at column; what = what }

abbrev read : ℕ → List ℕ → RawExpr
read column text = expr column (Read (record { name = name column text; part = Whole }))

abbrev number : ℕ → ℕ → RawExpr
number column value = expr column (Literal (literal.Number (pos value)))

abbrev truth : ℕ → RawExpr
truth column = expr column (Literal (literal.Truth true))

abbrev operation : Operator → RawExpr → RawExpr → RawExpr
operation operator left right = record { at = left.at; what = Binary operator left right }

abbrev statement : ℕ → RawStmtKind → RawStmt
statement column what = record { at = at column; what = what }

abbrev counter : ℕ → List ℕ → RawItem
counter column text = item.Counter (name column text) (pos 0)

-- a register b of truths
abbrev flag : RawItem
flag = item.Register (name 20 (codes "b")) type.Truth (record { at = at 21; what = literal.Truth true })

abbrev whole_parameter : Option RawLiteral → RawParameter
whole_parameter default = record { name = name 50 by_name; kind = type.Int; default = default }

-- an activity type Bump with a parameter `by`, and this body
abbrev bump : List RawStmt → RawItem
bump body = item.Activity (name 40 (codes "Bump")) (whole_parameter None ∷ []) None [] body

abbrev model : List RawItem → RawModel
model items = record { name = name 7 (codes "m"); items = items }

-- a counter n, a register b and an activity type with a body
abbrev with_body : List RawStmt → RawModel
with_body body = model (counter 10 n ∷ flag ∷ bump body ∷ [])

abbrev told : ℕ → Cause → Option (Diagnostic Cause)
told column cause = Some (record { place = at column; cause = cause })

-- ---- names

pub all_is_well : first_refused (with_body (statement 60 (Add (name 60 n) (read 65 by_name)) ∷ statement 70 (Delay (number 76 10)) ∷ [])) ≡ None
unfolding model_diagnostics symbols_of stmt_diagnostics expr_diagnostics scope_behind
all_is_well = refl

pub a_second_counter : first_refused (model (counter 19 n ∷ counter 34 n ∷ [])) ≡ told 34 Duplicate
unfolding model_diagnostics symbols_of
a_second_counter = refl

pub no_such_cell : first_refused (with_body (statement 60 (Add (name 60 x) (number 65 1)) ∷ [])) ≡ told 60 Unknown
unfolding model_diagnostics symbols_of stmt_diagnostics expr_diagnostics scope_behind
no_such_cell = refl

pub a_counter_is_not_set : first_refused (with_body (statement 60 (Put (name 60 n) (number 65 1)) ∷ [])) ≡ told 60 WrongType
unfolding model_diagnostics symbols_of stmt_diagnostics expr_diagnostics scope_behind
a_counter_is_not_set = refl

-- ---- locals

pub a_parameter_is_not_assigned : first_refused (with_body (statement 60 (Assign (name 60 by_name) (number 65 1)) ∷ [])) ≡ told 60 WrongType
unfolding model_diagnostics symbols_of stmt_diagnostics expr_diagnostics scope_behind
a_parameter_is_not_assigned = refl

-- behind its block a local is no longer known
pub a_local_behind_its_block :
    first_refused (with_body (statement 60 (If (truth 63) (statement 70 (Let (name 74 x) (number 78 1)) ∷ []) []) ∷ statement 80 (Add (name 80 n) (read 85 x)) ∷ [])) ≡ told 85 Unknown
unfolding model_diagnostics symbols_of stmt_diagnostics expr_diagnostics scope_behind hidden-the_row-RawStmt-0 shape-the_row-RawStmt-0 hidden
a_local_behind_its_block = refl

-- a local's own value does not know it
pub a_local_of_itself : first_refused (with_body (statement 60 (Let (name 64 x) (read 68 x)) ∷ [])) ≡ told 68 Unknown
unfolding model_diagnostics symbols_of stmt_diagnostics expr_diagnostics scope_behind
a_local_of_itself = refl

-- a local with the name of a cell that stands behind it in the text
pub a_cell_behind_a_local : first_refused (model (bump (statement 60 (Let (name 64 x) (number 68 1)) ∷ []) ∷ counter 90 x ∷ [])) ≡ told 90 Duplicate
unfolding model_diagnostics symbols_of stmt_diagnostics expr_diagnostics scope_behind
a_cell_behind_a_local = refl

-- ---- types

-- `==` of two types is refused at its right side
pub two_types : first_refused (with_body (statement 60 (If (operation (operator.Compare by.Equal) (read 63 (codes "b")) (read 68 n)) [] []) ∷ [])) ≡ told 68 WrongType
unfolding model_diagnostics symbols_of stmt_diagnostics expr_diagnostics scope_behind hidden-the_row-RawExpr-0 shape-the_row-RawExpr-0 hidden-the_row-RawStmt-0 shape-the_row-RawStmt-0 hidden
two_types = refl

-- a missing argument stands in front of an unknown one
pub a_missing_argument : first_refused (with_body (statement 60 (Spawn (record { name = name 66 (codes "Bump"); arguments = (name 71 x, number 75 1) ∷ [] })) ∷ [])) ≡ told 66 WrongType
unfolding model_diagnostics symbols_of stmt_diagnostics expr_diagnostics invoke_diagnostics scope_behind
a_missing_argument = refl

pub a_default_of_another_type : first_refused (model (item.Activity (name 40 (codes "Bump")) (whole_parameter (Some (record { at = at 55; what = literal.Truth true })) ∷ []) None [] [] ∷ [])) ≡ told 55 WrongType
unfolding model_diagnostics symbols_of
a_default_of_another_type = refl

-- a `require` reads parameters alone
pub a_require_of_a_cell : first_refused (model (counter 10 n ∷ item.Activity (name 40 (codes "Bump")) [] None (operation (operator.Compare by.More) (read 58 n) (number 62 0) ∷ []) [] ∷ [])) ≡ told 58 Unknown
unfolding model_diagnostics symbols_of expr_diagnostics hidden-the_row-RawExpr-0 shape-the_row-RawExpr-0 hidden
a_require_of_a_cell = refl

pub a_result_without_a_return : first_refused (model (item.Activity (name 40 (codes "Bump")) [] (Some type.Int) [] [] ∷ [])) ≡ told 40 WrongType
unfolding model_diagnostics symbols_of
a_result_without_a_return = refl

-- ---- conditions and linear forms

abbrev waits_for : RawExpr → Option (Diagnostic Cause)
waits_for condition = first_refused (with_body (statement 60 (WaitUntil condition) ∷ []))

abbrev more : RawExpr → RawExpr → RawExpr
more left right = operation (operator.Compare by.More) left right

abbrev product : RawExpr → RawExpr → RawExpr
product left right = operation operator.Times left right

pub a_literal_on_the_left : waits_for (more (product (number 71 2) (read 75 n)) (number 79 1)) ≡ None
unfolding model_diagnostics symbols_of stmt_diagnostics expr_diagnostics cond_diagnostics leaves_of scope_behind hidden-the_row-RawExpr-0 shape-the_row-RawExpr-0 hidden
a_literal_on_the_left = refl

pub a_literal_on_the_right : waits_for (more (product (read 71 n) (number 75 3)) (number 79 1)) ≡ told 71 NotLinear
unfolding model_diagnostics symbols_of stmt_diagnostics expr_diagnostics cond_diagnostics leaves_of scope_behind hidden-the_row-RawExpr-0 shape-the_row-RawExpr-0 hidden
a_literal_on_the_right = refl

-- a product is one part, also where its right side has the wrong type
pub a_product_of_a_truth : waits_for (more (product (number 71 2) (read 75 (codes "b"))) (number 79 1)) ≡ told 71 NotLinear
unfolding model_diagnostics symbols_of stmt_diagnostics expr_diagnostics cond_diagnostics leaves_of scope_behind hidden-the_row-RawExpr-0 shape-the_row-RawExpr-0 hidden
a_product_of_a_truth = refl

-- an unknown name causes nothing further
pub a_product_of_nothing : waits_for (more (product (number 71 2) (read 75 x)) (number 79 1)) ≡ told 75 Unknown
unfolding model_diagnostics symbols_of stmt_diagnostics expr_diagnostics cond_diagnostics leaves_of scope_behind hidden-the_row-RawExpr-0 shape-the_row-RawExpr-0 hidden
a_product_of_nothing = refl

pub a_great_coefficient : waits_for (more (product (number 71 1_000_001) (read 79 n)) (number 83 1)) ≡ told 71 OutOfRange
unfolding model_diagnostics symbols_of stmt_diagnostics expr_diagnostics cond_diagnostics leaves_of scope_behind hidden-the_row-RawExpr-0 shape-the_row-RawExpr-0 hidden
a_great_coefficient = refl

-- a conflict flag is no side of an equality
pub a_flag_compared : waits_for (operation (operator.Compare by.Equal) (expr 71 (Read (record { name = name 71 (codes "b"); part = Conflicted }))) (truth 87)) ≡ told 71 NotLinear
unfolding model_diagnostics symbols_of stmt_diagnostics expr_diagnostics cond_diagnostics leaves_of scope_behind hidden-the_row-RawExpr-0 shape-the_row-RawExpr-0 hidden
a_flag_compared = refl

-- a constant is no linear resource
pub a_constant_resource : first_refused (model (item.Linear (name 17 (codes "q")) (number 21 3) ∷ [])) ≡ told 21 NotLinear
unfolding model_diagnostics symbols_of expr_diagnostics leaves_of
a_constant_resource = refl
