-- What the reader judges of a model: how much it has of each sort, how deep its expressions and blocks are, and in which
-- range its numbers lie. Depth is that of operators, signs and blocks: parentheses leave no trace in what is read.
use Rattle.std.specs.Prelude.{ℕ, ◌+◌, ◌≤◌, max, List, [], ◌∷◌, Option, Some, None, length}
use Rattle.std.specs.List.{AllByRecursion}
use Rattle.aerie_base.specs.Ranges.{IsNumber}
use Rattle.aerie_base.specs.models.Limits.{depth_limit, parameter_limit, require_limit, statement_limit, variant_limit}
use Rattle.readers.specs.Marks.{Mark}
use Rattle.model_reader.specs.declared.raw.expressions.RawExpr.{RawExpr}
use Rattle.model_reader.specs.declared.raw.expressions.RawExprKind.{RawExprKind, Literal, Read, Not', Negate', Binary', Row_of-RawExpr, end_of-RawExpr, more_of-RawExpr}
use Rattle.model_reader.specs.declared.raw.items.RawItem.{RawItem}
use Rattle.model_reader.specs.declared.raw.items.RawItem.TheVariants as item
use Rattle.model_reader.specs.declared.raw.items.RawParameter.{RawParameter}
use Rattle.model_reader.specs.declared.raw.literals.RawLiteral.{RawLiteral}
use Rattle.model_reader.specs.declared.raw.literals.RawLiteralKind.{RawLiteralKind}
use Rattle.model_reader.specs.declared.raw.literals.RawLiteralKind.TheVariants as literal
use Rattle.model_reader.specs.declared.raw.models.RawModel.{RawModel}
use Rattle.model_reader.specs.declared.raw.names.RawName.{RawName}
use Rattle.model_reader.specs.declared.raw.statements.RawStmt.{RawStmt}
use Rattle.model_reader.specs.declared.raw.statements.RawStmtKind.{RawStmtKind, Let, LetCall, Assign, Add, Put, AddVolume, AddRate, Delay, WaitUntil, Spawn, Call, If', While', Return, Row_of-RawStmt, end_of-RawStmt, more_of-RawStmt}
use Rattle.model_reader.specs.declared.reading.declarations.ItemKind.{ItemKind}
use Rattle.model_reader.specs.declared.reading.declarations.ItemKind.TheVariants as kind
use Rattle.model_reader.specs.reading.Items.{most_of}

-- ---- numbers

-- what each mark counts is a number
abbrev pub CountNumbers : List Mark → Type 0
CountNumbers = AllByRecursion (λ mark. IsNumber mark.number)

-- the number of a literal has its range
abbrev pub IsLiteralInRange : RawLiteralKind → Type 0
IsLiteralInRange (literal.Number number) = IsNumber number
IsLiteralInRange (literal.Truth truth) = Unit {0}
IsLiteralInRange (literal.Variant kind variant) = Unit {0}

-- ---- expressions

abbrev mutual
  -- how deep operators and signs stand inside one another
  pub raw_depth : RawExprKind → ℕ
  raw_depth (Literal literal) = 0
  raw_depth (Read read) = 0
  raw_depth (Not' _ inner) = 1 + part_depth inner
  raw_depth (Negate' _ inner) = 1 + part_depth inner
  raw_depth (Binary' operator _ left _ right) = 1 + max (part_depth left) (part_depth right)

  -- the same of a part
  pub part_depth : {m : _} → Row_of-RawExpr m → ℕ
  part_depth end_of-RawExpr = 0
  part_depth (more_of-RawExpr at what rest) = raw_depth what

abbrev mutual
  -- each literal has its range
  pub HasLiteralsInRange : RawExprKind → Type 0
  HasLiteralsInRange (Literal literal) = IsLiteralInRange literal
  HasLiteralsInRange (Read read) = Unit {0}
  HasLiteralsInRange (Not' _ inner) = PartInRange inner
  HasLiteralsInRange (Negate' _ inner) = PartInRange inner
  HasLiteralsInRange (Binary' operator _ left _ right) = PartInRange left × PartInRange right

  -- the same of a part
  pub PartInRange : {m : _} → Row_of-RawExpr m → Type 0
  PartInRange end_of-RawExpr = Unit {0}
  PartInRange (more_of-RawExpr at what rest) = HasLiteralsInRange what

-- an expression that is not too deep, with literals in their range
abbrev pub IsLimitedExpr : RawExpr → Type 0
IsLimitedExpr raw = (raw_depth raw.what ≤ depth_limit) × HasLiteralsInRange raw.what

abbrev pub AreLimitedArguments : List (RawName × RawExpr) → Type 0
AreLimitedArguments = AllByRecursion (λ argument. IsLimitedExpr argument.1)

abbrev pub IsLimitedValue : Option RawExpr → Type 0
IsLimitedValue None = Unit {0}
IsLimitedValue (Some value) = IsLimitedExpr value

-- ---- statements

abbrev mutual
  -- how many statements a statement is, with those in its blocks
  pub raw_count : RawStmtKind → ℕ
  raw_count (If' test _ block _ other) = 1 + (row_count block + row_count other)
  raw_count (While' test _ body) = 1 + row_count body
  raw_count _ = 1

  -- the same of the statements of a block
  pub row_count : {m : _} → Row_of-RawStmt m → ℕ
  row_count end_of-RawStmt = 0
  row_count (more_of-RawStmt at what rest) = raw_count what + row_count rest

abbrev mutual
  -- how deep blocks stand inside one another
  pub raw_nesting : RawStmtKind → ℕ
  raw_nesting (If' test _ block _ other) = 1 + max (row_nesting block) (row_nesting other)
  raw_nesting (While' test _ body) = 1 + row_nesting body
  raw_nesting _ = 0

  -- the same of the statements of a block
  pub row_nesting : {m : _} → Row_of-RawStmt m → ℕ
  row_nesting end_of-RawStmt = 0
  row_nesting (more_of-RawStmt at what rest) = max (raw_nesting what) (row_nesting rest)

abbrev mutual
  -- each expression in a statement, and in its blocks, is within the limits
  pub HasLimitedExprs : RawStmtKind → Type 0
  HasLimitedExprs (Let name value) = IsLimitedExpr value
  HasLimitedExprs (LetCall name call) = AreLimitedArguments call.arguments
  HasLimitedExprs (Assign name value) = IsLimitedExpr value
  HasLimitedExprs (Add name value) = IsLimitedExpr value
  HasLimitedExprs (Put name value) = IsLimitedExpr value
  HasLimitedExprs (AddVolume name value) = IsLimitedExpr value
  HasLimitedExprs (AddRate name value) = IsLimitedExpr value
  HasLimitedExprs (Delay by) = IsLimitedExpr by
  HasLimitedExprs (WaitUntil condition) = IsLimitedExpr condition
  HasLimitedExprs (Spawn child) = AreLimitedArguments child.arguments
  HasLimitedExprs (Call child) = AreLimitedArguments child.arguments
  HasLimitedExprs (If' test _ block _ other) = IsLimitedExpr test × RowLimited block × RowLimited other
  HasLimitedExprs (While' test _ body) = IsLimitedExpr test × RowLimited body
  HasLimitedExprs (Return value) = IsLimitedValue value

  -- the same of the statements of a block
  pub RowLimited : {m : _} → Row_of-RawStmt m → Type 0
  RowLimited end_of-RawStmt = Unit {0}
  RowLimited (more_of-RawStmt at what rest) = HasLimitedExprs what × RowLimited rest

abbrev pub stmts_count : List RawStmt → ℕ
stmts_count [] = 0
stmts_count (stmt ∷ rest) = raw_count stmt.what + stmts_count rest

abbrev pub stmts_nesting : List RawStmt → ℕ
stmts_nesting [] = 0
stmts_nesting (stmt ∷ rest) = max (raw_nesting stmt.what) (stmts_nesting rest)

abbrev pub AreLimitedStmts : List RawStmt → Type 0
AreLimitedStmts = AllByRecursion (λ stmt. HasLimitedExprs stmt.what)

-- a body with not too many statements, whose blocks and expressions are not too deep
abbrev pub IsLimitedBody : List RawStmt → Type 0
IsLimitedBody body =
    (stmts_count body ≤ statement_limit) × (stmts_nesting body ≤ depth_limit) × AreLimitedStmts body

-- ---- declarations

abbrev pub IsLimitedDefault : Option RawLiteral → Type 0
IsLimitedDefault None = Unit {0}
IsLimitedDefault (Some literal) = IsLiteralInRange literal.what

abbrev pub AreLimitedParameters : List RawParameter → Type 0
AreLimitedParameters = AllByRecursion (λ parameter. IsLimitedDefault parameter.default)

-- what is limited within a declaration
abbrev pub IsLimitedItem : RawItem → Type 0
IsLimitedItem (item.Enum name variants) = (1 ≤ length variants) × (length variants ≤ variant_limit)
IsLimitedItem (item.Counter name start) = IsNumber start
IsLimitedItem (item.Register name type start) = IsLiteralInRange start.what
IsLimitedItem (item.Accumulator name volume rate) = IsNumber volume
IsLimitedItem (item.Discrete name read) = Unit {0}
IsLimitedItem (item.Linear name sum) = IsLimitedExpr sum
IsLimitedItem (item.Activity name parameters result requires_ body) =
    ((length parameters ≤ parameter_limit) × AreLimitedParameters parameters)
    × ((length requires_ ≤ require_limit) × AllByRecursion IsLimitedExpr requires_)
    × IsLimitedBody body
IsLimitedItem (item.Daemon body) = IsLimitedBody body

abbrev pub kind_of_item : RawItem → ItemKind
kind_of_item (item.Enum name variants) = kind.Enum
kind_of_item (item.Counter name start) = kind.Cell
kind_of_item (item.Register name type start) = kind.Cell
kind_of_item (item.Accumulator name volume rate) = kind.Cell
kind_of_item (item.Discrete name read) = kind.Resource
kind_of_item (item.Linear name sum) = kind.Resource
kind_of_item (item.Activity name parameters result requires_ body) = kind.Activity
kind_of_item (item.Daemon body) = kind.Daemon

-- 1 where two kinds are one, and else 0
abbrev pub one_where_same : ItemKind → ItemKind → ℕ
one_where_same kind.Enum kind.Enum = 1
one_where_same kind.Cell kind.Cell = 1
one_where_same kind.Resource kind.Resource = 1
one_where_same kind.Activity kind.Activity = 1
one_where_same kind.Daemon kind.Daemon = 1
one_where_same _ _ = 0

-- how many declarations are of a kind
abbrev pub count_of_kind : ItemKind → List RawItem → ℕ
count_of_kind of [] = 0
count_of_kind of (item ∷ rest) = one_where_same of (kind_of_item item) + count_of_kind of rest

-- ---- models

-- A model is within the limits: of each kind it has as many declarations as it may, and each of them is within its own.
abbrev pub IsWithinLimits : RawModel → Type 0
IsWithinLimits raw =
    ((of : ItemKind) → count_of_kind of raw.items ≤ (most_of of).count) × AllByRecursion IsLimitedItem raw.items
