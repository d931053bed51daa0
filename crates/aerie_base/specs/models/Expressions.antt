-- The expressions that a model may have: well typed, with literals of the model, and not too deep.
use Rattle.std.specs.Prelude.{ℕ, ◌+◌, max, ◌&&◌, Bool, true, false, List, Option, Some, None, nat_le, if◌then◌else◌}
use Rattle.aerie_base.specs.expressions.Recursion.{expr_gives}
use Rattle.aerie_base.specs.expressions.Typing.{kind_of, same_kind}
use Rattle.aerie_base.specs.declared.values.Kind.{Kind}
use Rattle.aerie_base.specs.declared.operands.CellRead.{CellRead}
use Rattle.aerie_base.specs.declared.expressions.Expr.{Expr}
use Rattle.aerie_base.specs.declared.expressions.Expr.TheOpen.{Expr-F}
use Rattle.aerie_base.specs.declared.models.EnumType.{EnumType}
use Rattle.aerie_base.specs.models.Limits.{depth_limit}
use Rattle.aerie_base.specs.models.Values.{is_value}

abbrev pub expr_depth_step : Expr-F ℕ → ℕ
expr_depth_step (Expr-F.Literal value) = 0
expr_depth_step (Expr-F.Operand operand) = 0
expr_depth_step (Expr-F.Not inner) = 1 + inner
expr_depth_step (Expr-F.Negate inner) = 1 + inner
expr_depth_step (Expr-F.Binary operator left right) = 1 + max left right

-- how deep operators nest; in a chain of one operator each opens a level
unfoldable pub expr_depth : Expr → ℕ
expr_depth = expr_gives ℕ 0 expr_depth_step

abbrev pub literals_step : List EnumType → Expr-F Bool → Bool
literals_step enums (Expr-F.Literal value) = is_value enums value
literals_step enums (Expr-F.Operand operand) = true
literals_step enums (Expr-F.Not inner) = inner
literals_step enums (Expr-F.Negate inner) = inner
literals_step enums (Expr-F.Binary operator left right) = left && right

-- whether each literal is a value of the model
unfoldable pub has_literals : List EnumType → Expr → Bool
has_literals enums = expr_gives Bool true (literals_step enums)

-- the type of an expression of the model, by the types of the locals that are known and of the reads that there are
unfoldable pub typed : List EnumType → (ℕ → Option Kind) → (CellRead → Option Kind) → Expr → Option Kind
typed enums locals reads expr =
    if has_literals enums expr && nat_le (expr_depth expr) depth_limit then kind_of expr locals reads else None

abbrev pub is_kind_of : Option Kind → Kind → Bool
is_kind_of None kind = false
is_kind_of (Some found) kind = same_kind found kind
