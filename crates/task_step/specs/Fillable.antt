-- The conditions into which locals may be filled: their linear forms are small enough to be summed up.
use Rattle.std.specs.Prelude.{◌*◌, Bool, true, false, ◌&&◌, IsTrue, List, length, nat_le, unsigned_abs}
use Rattle.std.specs.List.{list_all}
use Rattle.aerie_base.specs.Ranges.{number_limit}
use Rattle.aerie_base.specs.declared.values.Value.{Value}
use Rattle.aerie_base.specs.declared.linear.Linear.{Linear}
use Rattle.aerie_base.specs.declared.conditions.Cond.{Cond, fold-Cond}
use Rattle.aerie_base.specs.declared.conditions.Cond.TheOpen.{Cond-F}
use Rattle.aerie_base.specs.declared.models.EnumType.{EnumType}
use Rattle.aerie_base.specs.conditions.Filling.{filled_step}
use Rattle.aerie_base.specs.conditions.Recursion.{cond_gives}
use Rattle.aerie_base.specs.models.Conditions.{Locals, ReadKinds, is_coefficient, is_condition}
use Rattle.aerie_base.specs.models.Limits.{term_limit}

-- this is a condition of a model, for some types of the locals and of the reads
abbrev pub IsConditionOfSome : Cond → Type 0
IsConditionOfSome condition = (enums : List EnumType) × (locals : Locals) × (reads : ReadKinds) × IsTrue (is_condition enums locals reads condition)

-- a sum of at most 16 terms with coefficients of at most 10^6, and of a constant of at most 16 numbers
abbrev pub is_modest_sum : Linear → Bool
is_modest_sum form =
    nat_le (length form.terms) term_limit
    && (list_all is_coefficient form.terms
    && nat_le (unsigned_abs form.constant) (term_limit * number_limit))

abbrev pub fillable_step : Cond-F Bool → Bool
fillable_step (Cond-F.Literal truth) = true
fillable_step (Cond-F.Flag operand) = true
fillable_step (Cond-F.Same left right equal) = true
fillable_step (Cond-F.Compare left how right) = is_modest_sum left && is_modest_sum right
fillable_step (Cond-F.Not part) = part
fillable_step (Cond-F.And left right) = left && right
fillable_step (Cond-F.Or left right) = left && right

-- whether each linear form of a condition is such a sum
unfoldable pub is_fillable : Cond → Bool
is_fillable = cond_gives Bool false fillable_step

-- ---- both by the fold, which does not compute

abbrev pub is_fillable_by_fold : Cond → Bool
is_fillable_by_fold = fold-Cond Bool fillable_step

abbrev pub filled_by_fold : Cond → List Value → Cond
filled_by_fold = fold-Cond (List Value → Cond) filled_step
