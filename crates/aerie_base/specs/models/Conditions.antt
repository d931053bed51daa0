-- The conditions that a model may have.
use Rattle.std.specs.Prelude.{ℕ, ◌+◌, ◌-◌, ◌*◌, max, ◌&&◌, Bool, true, false, List, Option, Some, None, nat_le, length}
use Rattle.std.specs.List.{list_all}
use Rattle.std.specs.Int.RustNames.{unsigned_abs}
use Rattle.aerie_base.specs.Ranges.{number_limit}
use Rattle.aerie_base.specs.conditions.Recursion.{cond_gives}
use Rattle.aerie_base.specs.expressions.Arithmetic.{value_kind}
use Rattle.aerie_base.specs.expressions.Typing.{operand_kind, same_kind}
use Rattle.aerie_base.specs.declared.values.Kind.{Kind}
use Rattle.aerie_base.specs.declared.values.Kind.TheVariants.{Int, Truth}
use Rattle.aerie_base.specs.declared.operands.CellRead.{CellRead}
use Rattle.aerie_base.specs.declared.operands.CellRead.TheVariants as read
use Rattle.aerie_base.specs.declared.operands.Operand.TheVariants.{Read, Local}
use Rattle.aerie_base.specs.declared.linear.Term.{Term}
use Rattle.aerie_base.specs.declared.linear.Linear.{Linear}
use Rattle.aerie_base.specs.declared.conditions.Simple.{Simple}
use Rattle.aerie_base.specs.declared.conditions.Simple.TheVariants as simple
use Rattle.aerie_base.specs.declared.conditions.Cond.{Cond}
use Rattle.aerie_base.specs.declared.conditions.Cond.TheOpen.{Cond-F}
use Rattle.aerie_base.specs.declared.models.EnumType.{EnumType}
use Rattle.aerie_base.specs.models.Expressions.{is_kind_of}
use Rattle.aerie_base.specs.models.Limits.{depth_limit, term_limit, coefficient_limit}
use Rattle.aerie_base.specs.models.Values.{is_value}

-- the types of the locals that are known, and of the reads that there are
abbrev pub Locals : Type 0
Locals = ℕ → Option Kind

abbrev pub ReadKinds : Type 0
ReadKinds = CellRead → Option Kind

-- ---- linear forms

abbrev pub is_coefficient : Term → Bool
is_coefficient term = nat_le (unsigned_abs term.coefficient) coefficient_limit

-- a coefficient within its range, of a whole number
abbrev pub is_term : Locals → ReadKinds → Term → Bool
is_term locals reads term = is_coefficient term && is_kind_of (operand_kind locals reads term.operand) Int

-- a sum of at most 16 leaves, of which the literals have become the constant
abbrev pub is_linear : Locals → ReadKinds → Linear → Bool
is_linear locals reads form =
    nat_le (length form.terms) term_limit
    && list_all (is_term locals reads) form.terms
    && nat_le (unsigned_abs form.constant) ((term_limit - length form.terms) * number_limit)

-- ---- equalities

-- the type of a side of an equality: a literal of the model, a local or a register
abbrev pub side_kind : List EnumType → Locals → ReadKinds → Simple → Option Kind
side_kind enums locals reads (simple.Literal value) = literal_kind (is_value enums value) where
  literal_kind : Bool → Option Kind
  literal_kind true = Some (value_kind value)
  literal_kind false = None
side_kind enums locals reads (simple.Operand (Local slot)) = locals slot
side_kind enums locals reads (simple.Operand (Read (read.Register cell))) = reads (read.Register cell)
side_kind enums locals reads (simple.Operand (Read (read.Counter cell))) = None
side_kind enums locals reads (simple.Operand (Read (read.Conflicted cell))) = None
side_kind enums locals reads (simple.Operand (Read (read.Volume cell))) = None
side_kind enums locals reads (simple.Operand (Read (read.Rate cell))) = None

-- two sides of one type, which is no whole number
abbrev pub may_equal : Option Kind → Option Kind → Bool
may_equal None right = false
may_equal (Some left) None = false
may_equal (Some Int) (Some right) = false
may_equal (Some left) (Some right) = same_kind left right

-- ---- conditions

abbrev pub Checking : Type 0
Checking = Locals → ReadKinds → Bool

abbrev pub condition_step : List EnumType → Cond-F Checking → Checking
condition_step enums (Cond-F.Literal truth) locals reads = true
condition_step enums (Cond-F.Flag operand) locals reads = is_kind_of (operand_kind locals reads operand) Truth
condition_step enums (Cond-F.Same left right equal) locals reads =
    may_equal (side_kind enums locals reads left) (side_kind enums locals reads right)
condition_step enums (Cond-F.Compare left how right) locals reads =
    is_linear locals reads left && is_linear locals reads right
condition_step enums (Cond-F.Not part) locals reads = part locals reads
condition_step enums (Cond-F.And left right) locals reads = left locals reads && right locals reads
condition_step enums (Cond-F.Or left right) locals reads = left locals reads && right locals reads

-- whether each part of a condition is of its form and type
unfoldable pub is_typed_condition : List EnumType → Cond → Checking
is_typed_condition enums = cond_gives Checking (λ locals reads. false) (condition_step enums)

abbrev pub cond_depth_step : Cond-F ℕ → ℕ
cond_depth_step (Cond-F.Literal truth) = 0
cond_depth_step (Cond-F.Flag operand) = 0
cond_depth_step (Cond-F.Same left right equal) = 1
cond_depth_step (Cond-F.Compare left how right) = 1
cond_depth_step (Cond-F.Not part) = 1 + part
cond_depth_step (Cond-F.And left right) = 1 + max left right
cond_depth_step (Cond-F.Or left right) = 1 + max left right

-- how deep operators nest
unfoldable pub cond_depth : Cond → ℕ
cond_depth = cond_gives ℕ 0 cond_depth_step

-- whether this is a condition of the model
unfoldable pub is_condition : List EnumType → Locals → ReadKinds → Cond → Bool
is_condition enums locals reads condition =
    is_typed_condition enums condition locals reads && nat_le (cond_depth condition) depth_limit
