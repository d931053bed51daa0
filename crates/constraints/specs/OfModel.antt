-- Which constraints a model may have: they name what it has, each thing in a place for its type, and their numbers are in
-- their ranges.
use Rattle.std.specs.Prelude.{ℕ, ◌*◌, ℤ, Bool, true, false, not, ◌&&◌, ◌||◌, if◌then◌else◌, length, Option, Some, None, nat_le, nat_lt, slice_get}
use Rattle.std.specs.List.{list_all}
use Rattle.std.specs.Int.RustNames.{unsigned_abs}
use Rattle.aerie_base.specs.Ranges.{number_limit, time_limit}
use Rattle.aerie_base.specs.declared.names.Name.{Name}
use Rattle.aerie_base.specs.declared.values.Kind.{Kind}
use Rattle.aerie_base.specs.declared.values.Kind.TheVariants as kind
use Rattle.aerie_base.specs.declared.values.Value.{Value}
use Rattle.aerie_base.specs.declared.models.Resource.{Resource}
use Rattle.aerie_base.specs.declared.models.Resource.TheVariants as resource
use Rattle.aerie_base.specs.declared.models.model.Parts.{Parts}
use Rattle.aerie_base.specs.expressions.Typing.{same_kind}
use Rattle.aerie_base.specs.models.Cells.{NamedCells, read_kind}
use Rattle.aerie_base.specs.models.Limits.{coefficient_limit, term_limit}
use Rattle.aerie_base.specs.models.Values.{is_value_of}
use Rattle.dataset_in.specs.declared.series.Series.{Series}
use Rattle.dataset_in.specs.declared.series.Series.TheVariants as series
use Rattle.constraints.specs.declared.types.Reading.{Reading}
use Rattle.constraints.specs.declared.types.Reading.TheVariants as read
use Rattle.constraints.specs.declared.types.RuleTerm.{RuleTerm}
use Rattle.constraints.specs.declared.types.RuleSum.{RuleSum}
use Rattle.constraints.specs.declared.types.Window.{Window}
use Rattle.constraints.specs.declared.types.Window.TheOpen.{Window-F}
use Rattle.constraints.specs.declared.types.Rule.{Rule}
use Rattle.constraints.specs.declared.types.Rule.TheVariants.{Plain, Each, Forbid}
use Rattle.constraints.specs.declared.types.Constraint.{Constraint}
use Rattle.constraints.specs.GivenSeries.{is_series}
use Rattle.constraints.specs.Recursion.{window_gives}

-- ---- what may be read

-- the type of a resource's values
abbrev pub resource_kind : NamedCells → Option (Name × Resource) → Option Kind
resource_kind cells None = None
resource_kind cells (Some (name, resource.Discrete cell)) = read_kind cells cell
resource_kind cells (Some (name, resource.Linear form)) = Some kind.Int

-- the type of a dataset's values
abbrev pub series_kind : Series → Kind
series_kind (series.Truth entries) = kind.Truth
series_kind (series.Whole entries) = kind.Int
series_kind (series.Linear segments) = kind.Int

-- the type of what a rule reads, where there is such a thing; a dataset is one that was read
abbrev pub reading_kind : Parts → Reading → Option Kind
reading_kind model (read.Resource number) = resource_kind model.cells (slice_get model.resources number)
reading_kind model (read.Series name series) = if is_series series then Some (series_kind series) else None

abbrev pub is_of_kind : Kind → Option Kind → Bool
is_of_kind kind None = false
is_of_kind kind (Some found) = same_kind found kind

abbrev pub is_truth : Parts → Reading → Bool
is_truth model reading = is_of_kind kind.Truth (reading_kind model reading)

-- whether this is a value that something of this type may be compared with: a truth, or a variant of an enumeration
abbrev pub may_equal : Parts → Value → Option Kind → Bool
may_equal model value None = false
may_equal model value (Some found) = not (same_kind found kind.Int) && is_value_of model.enums found value

abbrev pub may_be_equal : Parts → Reading → Value → Bool
may_be_equal model reading value = may_equal model value (reading_kind model reading)

abbrev pub reads_number : Parts → Reading → Bool
reads_number model reading = is_of_kind kind.Int (reading_kind model reading)

-- ---- sums

-- a whole number, with a coefficient in its range
abbrev pub is_term : Parts → RuleTerm → Bool
is_term model term = nat_le (unsigned_abs term.coefficient) coefficient_limit && is_of_kind kind.Int (reading_kind model term.resource)

-- at most 16 terms, and a constant that is the sum of at most 16 numbers
abbrev pub is_sum : Parts → RuleSum → Bool
is_sum model sum =
    nat_le (length sum.terms) term_limit
    && list_all (is_term model) sum.terms
    && nat_le (unsigned_abs sum.constant) (16 * number_limit)

-- ---- windows

abbrev pub is_type : Parts → ℕ → Bool
is_type model kind = nat_lt kind (length model.activities)

-- not more than the longest time, to either side
abbrev pub is_shift : ℤ → Bool
is_shift micros = nat_le (unsigned_abs micros) time_limit

abbrev pub window_step : Parts → Window-F Bool → Bool
window_step model (Window-F.Literal truth) = true
window_step model (Window-F.And left right) = left && right
window_step model (Window-F.Or left right) = left && right
window_step model (Window-F.Not part) = part
window_step model (Window-F.During kind) = is_type model kind
window_step model Window-F.DuringBound = true
window_step model (Window-F.Shift part start end) = part && is_shift start && is_shift end
window_step model (Window-F.Longer part least) = part
window_step model (Window-F.Truth reading) = is_truth model reading
window_step model (Window-F.Same resource value equal) = may_equal model value (reading_kind model resource)
window_step model (Window-F.Compare left how right) = is_sum model left && is_sum model right

-- whether the model may have this window
unfoldable pub is_window : Parts → Window → Bool
is_window model window = window_gives Bool false (window_step model) window

abbrev pub bound_step : Window-F Bool → Bool
bound_step (Window-F.Literal truth) = false
bound_step (Window-F.And left right) = left || right
bound_step (Window-F.Or left right) = left || right
bound_step (Window-F.Not part) = part
bound_step (Window-F.During kind) = false
bound_step Window-F.DuringBound = true
bound_step (Window-F.Shift part start end) = part
bound_step (Window-F.Longer part least) = part
bound_step (Window-F.Truth reading) = false
bound_step (Window-F.Same resource value equal) = false
bound_step (Window-F.Compare left how right) = false

-- whether the window speaks of the span that a rule is judged for
unfoldable pub speaks_of_bound : Window → Bool
speaks_of_bound window = window_gives Bool false bound_step window

-- ---- constraints

abbrev pub is_rule : Parts → Rule → Bool
is_rule model (Plain window) = is_window model window && not (speaks_of_bound window)
is_rule model (Each kind window) = is_type model kind && is_window model window
is_rule model (Forbid one other) = is_type model one && is_type model other

-- whether the model may have this constraint
abbrev pub is_constraint : Parts → Constraint → Bool
is_constraint model constraint = is_rule model constraint.rule
