-- Worked cases of the parts of a model: cells, resources, expressions, conditions and the ends of bodies.
use Rattle.std.specs.Prelude.{◌≡◌, ℕ, zero, suc, pos, negsuc, Bool, true, false, List, [], ◌∷◌, Option, Some, None, codes, replicate, refl}
use Rattle.aerie_base.specs.declared.values.Kind.{Kind}
use Rattle.aerie_base.specs.declared.values.Kind.TheVariants as kind
use Rattle.aerie_base.specs.declared.values.Value.TheVariants as value
use Rattle.aerie_base.specs.declared.operands.CellRead.TheVariants as read
use Rattle.aerie_base.specs.declared.operands.Operand.{Operand as Operands}
use Rattle.aerie_base.specs.declared.operands.Operand.TheVariants as operand
use Rattle.aerie_base.specs.declared.expressions.Expr.{Expr, Literal, Not}
use Rattle.aerie_base.specs.declared.expressions.Expr.TheBlock.{hidden-the_row-Expr-0, shape-the_row-Expr-0}
use Rattle.aerie_base.specs.declared.linear.Linear.{Linear}
use Rattle.aerie_base.specs.declared.linear.Term.{Term}
use Rattle.aerie_base.specs.declared.conditions.Simple.TheVariants as side
use Rattle.aerie_base.specs.declared.conditions.Cond.{Cond, Flag, Same}
use Rattle.aerie_base.specs.declared.statements.Stmt.{While, Return, out-Stmt}
use Rattle.aerie_base.specs.declared.models.CellStart.TheVariants as cell
use Rattle.aerie_base.specs.declared.models.Resource.TheVariants as resource
use Rattle.aerie_base.specs.declared.models.EnumType.{EnumType}
use Rattle.aerie_base.specs.expressions.Typing.{kind_of}
use Rattle.aerie_base.specs.models.Activities.{ends_in_return, is_return}
use Rattle.aerie_base.specs.models.Cells.{NamedCells, is_cell, read_kind}
use Rattle.aerie_base.specs.models.Conditions.{is_condition, is_typed_condition, cond_depth, is_linear}
use Rattle.aerie_base.specs.models.Expressions.{typed, has_literals, expr_depth}
use Rattle.aerie_base.specs.models.Resources.{is_resource}
use Rattle.aerie_base.specs.models.Values.{is_value_of}
use Rattle.aerie_base.specs.models.ValidModel.{is_enum}
use denote.Hole.Carrier.{hidden, out}

-- ---- an enumeration of two variants, and a cell of each kind

abbrev color : EnumType
color = record { name = codes "Color"; variants = codes "RED" ∷ codes "BLUE" ∷ [] }

abbrev cells : NamedCells
cells =
    (codes "n", cell.Counter (pos 0))
    ∷ (codes "r", cell.Register (kind.Enum 0) (value.Variant 0 1))
    ∷ (codes "b", cell.Register kind.Truth (value.Truth false))
    ∷ (codes "v", cell.Accumulator (pos 0) (pos 3))
    ∷ []

abbrev no_locals : ℕ → Option Kind
no_locals slot = None

-- ---- values and cells

pub the_last_variant : is_value_of (color ∷ []) (kind.Enum 0) (value.Variant 0 1) ≡ true
the_last_variant = refl

pub one_variant_more : is_value_of (color ∷ []) (kind.Enum 0) (value.Variant 0 2) ≡ false
one_variant_more = refl

pub another_type : is_value_of (color ∷ []) (kind.Enum 0) (value.Truth true) ≡ false
another_type = refl

pub no_such_enumeration : is_cell (color ∷ []) (cell.Register (kind.Enum 1) (value.Variant 1 0)) ≡ false
no_such_enumeration = refl

pub the_greatest_number : is_value_of [] kind.Int (value.Int (pos 1_000_000_000_000_000_000)) ≡ true
the_greatest_number = refl

pub one_number_below_the_least : is_value_of [] kind.Int (value.Int (negsuc 1_000_000_000_000_000_000)) ≡ false
one_number_below_the_least = refl

pub a_counter_out_of_range : is_cell [] (cell.Counter (pos 1_000_000_000_000_000_001)) ≡ false
a_counter_out_of_range = refl

pub a_register_out_of_range : is_cell [] (cell.Register kind.Int (value.Int (pos 1_000_000_000_000_000_001))) ≡ false
a_register_out_of_range = refl

pub a_volume_out_of_range : is_cell [] (cell.Accumulator (pos 1_000_000_000_000_000_001) (pos 3)) ≡ false
a_volume_out_of_range = refl

pub the_greatest_rate : is_cell [] (cell.Accumulator (pos 0) (pos 1_000_000_000_000)) ≡ true
the_greatest_rate = refl

pub one_rate_below_the_least : is_cell [] (cell.Accumulator (pos 0) (negsuc 1_000_000_000_000)) ≡ false
one_rate_below_the_least = refl

pub variants_differ : is_enum (record { name = codes "E"; variants = codes "A" ∷ codes "A" ∷ [] }) ≡ false
variants_differ = refl

pub a_register_has_no_volume : read_kind cells (read.Volume 1) ≡ None
a_register_has_no_volume = refl

-- ---- resources

abbrev one : ℕ → Term
one cell = record { coefficient = pos 1; operand = operand.Read (read.Counter cell) }

abbrev sum : List Term → ℕ → Linear
sum terms constant = record { terms = terms; constant = pos constant }

pub a_rate_is_shown : is_resource cells (resource.Discrete (read.Rate 3)) ≡ true
a_rate_is_shown = refl

pub a_volume_is_not_discrete : is_resource cells (resource.Discrete (read.Volume 3)) ≡ false
a_volume_is_not_discrete = refl

pub no_term_at_all : is_resource cells (resource.Linear (sum [] 0)) ≡ false
no_term_at_all = refl

pub sixteen_terms : is_resource cells (resource.Linear (sum (replicate 16 (one 0)) 0)) ≡ true
sixteen_terms = refl

pub seventeen_terms : is_resource cells (resource.Linear (sum (replicate 17 (one 0)) 0)) ≡ false
seventeen_terms = refl

pub no_constant_in_a_resource : is_resource cells (resource.Linear (sum (one 0 ∷ []) 1)) ≡ false
no_constant_in_a_resource = refl

pub no_register_in_a_sum : is_resource cells (resource.Linear (sum (record { coefficient = pos 1; operand = operand.Read (read.Register 2) } ∷ []) 0)) ≡ false
no_register_in_a_sum = refl

-- ---- linear forms: with fifteen terms the constant is one literal, with sixteen there is none

pub a_literal_beside_fifteen_terms : is_linear no_locals (read_kind cells) (sum (replicate 15 (one 0)) 1_000_000_000_000_000_000) ≡ true
a_literal_beside_fifteen_terms = refl

pub no_literal_beside_sixteen_terms : is_linear no_locals (read_kind cells) (sum (replicate 16 (one 0)) 1) ≡ false
no_literal_beside_sixteen_terms = refl

pub a_coefficient_above_a_million : is_linear no_locals (read_kind cells) (sum (record { coefficient = pos 1_000_001; operand = operand.Read (read.Counter 0) } ∷ []) 0) ≡ false
a_coefficient_above_a_million = refl

-- ---- conditions

abbrev accepted : Cond → Bool
accepted condition = is_condition (color ∷ []) no_locals (read_kind cells) condition

abbrev register : ℕ → Operands
register cell = operand.Read (read.Register cell)

pub a_truth_register_by_itself : accepted (Flag (register 2)) ≡ true
unfolding is_condition is_typed_condition cond_depth
a_truth_register_by_itself = refl

pub no_other_register_by_itself : accepted (Flag (register 1)) ≡ false
unfolding is_condition is_typed_condition cond_depth
no_other_register_by_itself = refl

pub a_variant_compared : accepted (Same (side.Operand (register 1)) (side.Literal (value.Variant 0 0)) true) ≡ true
unfolding is_condition is_typed_condition cond_depth
a_variant_compared = refl

-- an equality of whole numbers is a comparison of linear forms
pub no_numbers_in_an_equality : accepted (Same (side.Literal (value.Int (pos 1))) (side.Literal (value.Int (pos 1))) true) ≡ false
unfolding is_condition is_typed_condition cond_depth
no_numbers_in_an_equality = refl

pub no_flag_in_an_equality : accepted (Same (side.Operand (operand.Read (read.Conflicted 2))) (side.Literal (value.Truth true)) true) ≡ false
unfolding is_condition is_typed_condition cond_depth
no_flag_in_an_equality = refl

-- ---- depth

abbrev negated : ℕ → Expr → Expr
negated zero expr = expr
negated (suc times) expr = Not (negated times expr)

abbrev type_of : Expr → Option Kind
type_of expr = typed [] no_locals (read_kind cells) expr

pub as_deep_as_can_be : type_of (negated 64 (Literal (value.Truth true))) ≡ Some kind.Truth
unfolding typed has_literals expr_depth kind_of hidden-the_row-Expr-0 shape-the_row-Expr-0 hidden
as_deep_as_can_be = refl

pub one_level_deeper : type_of (negated 65 (Literal (value.Truth true))) ≡ None
unfolding typed has_literals expr_depth kind_of hidden-the_row-Expr-0 shape-the_row-Expr-0 hidden
one_level_deeper = refl

pub no_such_variant : type_of (Literal (value.Variant 0 0)) ≡ None
unfolding typed has_literals expr_depth kind_of
no_such_variant = refl

-- ---- the end of a body that has a result

pub ends_with_a_return : ends_in_return (Return None ∷ []) ≡ true
unfolding is_return out-Stmt out
ends_with_a_return = refl

pub something_behind_the_return : ends_in_return (Return None ∷ While (Literal (value.Truth true)) [] ∷ []) ≡ false
unfolding is_return out-Stmt out
something_behind_the_return = refl

pub no_statement_at_all : ends_in_return [] ≡ false
no_statement_at_all = refl
