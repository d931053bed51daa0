-- The conditions of which the time to wait is computed.
use Rattle.std.specs.Prelude.{◌≡◌, ℕ, ◌-◌, ◌^◌, ℤ, pos, Bool, true, false, ◌&&◌, [], ◌∷◌, Option, Some, None, length, nat_le, nat_lt, unsigned_abs, refl}
use Rattle.std.specs.List.{list_all}
use Rattle.aerie_base.specs.conditions.Recursion.{cond_gives}
use Rattle.aerie_base.specs.expressions.Arithmetic.{value_kind}
use Rattle.aerie_base.specs.declared.conditions.Cond.{Cond, Flag, Compare, fold-Cond}
use Rattle.aerie_base.specs.declared.conditions.Cond.TheOpen.{Cond-F}
use Rattle.aerie_base.specs.declared.conditions.Simple.{Simple}
use Rattle.aerie_base.specs.declared.conditions.Simple.TheVariants as simple
use Rattle.aerie_base.specs.declared.expressions.Comparison.TheVariants.{AtLeast}
use Rattle.aerie_base.specs.declared.linear.Linear.{Linear}
use Rattle.aerie_base.specs.declared.operands.CellRead.TheVariants as read
use Rattle.aerie_base.specs.declared.operands.Operand.{Operand}
use Rattle.aerie_base.specs.declared.operands.Operand.TheVariants.{Read, Local}
use Rattle.aerie_base.specs.declared.values.Kind.{Kind}
use Rattle.aerie_base.specs.declared.values.Kind.TheVariants.{Truth}
use Rattle.aerie_base.specs.models.Conditions.{Locals, ReadKinds, is_term, may_equal}
use Rattle.aerie_base.specs.expressions.Typing.{operand_kind}
use Rattle.aerie_base.specs.models.Expressions.{is_kind_of}
use Rattle.aerie_base.specs.models.Limits.{term_limit}
use Rattle.effect_cells.specs.Reads.{kind_on}
use Rattle.effect_cells.specs.WakeTimes.{filling}

-- there are no locals
abbrev pub no_locals : Locals
no_locals slot = None

-- the magnitude that a constant stays below
abbrev pub constant_limit : ℕ
constant_limit = 2 ^ 100

-- a sum of at most 16 terms, each a coefficient of at most 10^6 in magnitude and a whole number that a cell has, and of a
-- constant below 2^100 in magnitude
abbrev pub is_form_for : ReadKinds → Linear → Bool
is_form_for kinds form =
    nat_le (length form.terms) term_limit
    && (list_all (is_term no_locals kinds) form.terms
    && nat_lt (unsigned_abs form.constant) constant_limit)

-- the type of a side of an equality: a literal or a register
abbrev pub filled_side_kind : ReadKinds → Simple → Option Kind
filled_side_kind kinds (simple.Literal value) = Some (value_kind value)
filled_side_kind kinds (simple.Operand (Read (read.Register cell))) = kinds (read.Register cell)
filled_side_kind kinds (simple.Operand (Read (read.Counter cell))) = None
filled_side_kind kinds (simple.Operand (Read (read.Conflicted cell))) = None
filled_side_kind kinds (simple.Operand (Read (read.Volume cell))) = None
filled_side_kind kinds (simple.Operand (Read (read.Rate cell))) = None
filled_side_kind kinds (simple.Operand (Local slot)) = None

abbrev pub solvable_step : ReadKinds → Cond-F Bool → Bool
solvable_step kinds (Cond-F.Literal truth) = true
solvable_step kinds (Cond-F.Flag operand) = is_kind_of (operand_kind no_locals kinds operand) Truth
solvable_step kinds (Cond-F.Same left right equal) = may_equal (filled_side_kind kinds left) (filled_side_kind kinds right)
solvable_step kinds (Cond-F.Compare left how right) = is_form_for kinds left && is_form_for kinds right
solvable_step kinds (Cond-F.Not part) = part
solvable_step kinds (Cond-F.And left right) = left && right
solvable_step kinds (Cond-F.Or left right) = left && right

-- whether a condition has no locals, is well typed for what the reads have, and has its linear forms within these limits
unfoldable pub may_be_solved : ReadKinds → Cond → Bool
may_be_solved kinds = cond_gives Bool false (solvable_step kinds)

-- the same by the fold, which does not compute
abbrev pub may_be_solved_by_fold : ReadKinds → Cond → Bool
may_be_solved_by_fold kinds = fold-Cond Bool (solvable_step kinds)

-- ---- worked cases

-- what an operand has is at least a constant
abbrev pub at_least : Operand → ℤ → Cond
at_least operand constant =
    Compare (record { terms = record { coefficient = pos 1; operand = operand } ∷ []; constant = pos 0 }) AtLeast
    (record { terms = []; constant = constant })

pub a_volume_and_a_constant : may_be_solved (kind_on filling) (at_least (Read (read.Volume 1)) (pos (2 ^ 100 - 1))) ≡ true
unfolding may_be_solved
a_volume_and_a_constant = refl

pub no_constant_at_the_limit : may_be_solved (kind_on filling) (at_least (Read (read.Volume 1)) (pos (2 ^ 100))) ≡ false
unfolding may_be_solved
no_constant_at_the_limit = refl

pub no_local : may_be_solved (kind_on filling) (at_least (Local 0) (pos 10)) ≡ false
unfolding may_be_solved
no_local = refl

pub no_number_by_itself : may_be_solved (kind_on filling) (Flag (Read (read.Counter 0))) ≡ false
unfolding may_be_solved
no_number_by_itself = refl
