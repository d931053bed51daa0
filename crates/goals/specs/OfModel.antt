-- Which goals a model may have: they name what it has, each thing in a place for its type, and their numbers are in their
-- ranges.
use Rattle.std.specs.Prelude.{ℕ, ℤ, Bool, not, ◌&&◌, is_some, nat_le, nat_lt, int_le, slice_get}
use Rattle.aerie_base.specs.declared.models.model.Parts.{Parts}
use Rattle.aerie_base.specs.plans.OfModel.{takes}
use Rattle.plan_edit.specs.Requires.{unmet_of_type}
use Rattle.constraints.specs.OfModel.{is_type, is_shift, is_window, speaks_of_bound}
use Rattle.goals.specs.declared.types.Template.{Template}
use Rattle.goals.specs.declared.types.GoalAnchor.{GoalAnchor}
use Rattle.goals.specs.declared.types.GoalAnchor.TheVariants.{Starts, Ends, Windows}
use Rattle.goals.specs.declared.types.GoalKind.{GoalKind}
use Rattle.goals.specs.declared.types.GoalKind.TheVariants.{Recurrence, Coexistence, Cardinality}
use Rattle.goals.specs.declared.types.Goal.{Goal}

-- a type of the model, with a value for each of its parameters; the values meet each `require` of the type
abbrev pub is_template : Parts → Template → Bool
is_template model template =
    takes model.enums (slice_get model.activities template.kind) template.arguments
    && not (is_some (unmet_of_type (slice_get model.activities template.kind) template.arguments))

-- a window here speaks of no span that it would be judged for
abbrev pub is_anchor : Parts → GoalAnchor → Bool
is_anchor model (Starts kind) = is_type model kind
is_anchor model (Ends kind) = is_type model kind
is_anchor model (Windows window) = is_window model window && not (speaks_of_bound window)

-- the most starts that a goal may ask for
abbrev pub count_limit : ℕ
count_limit = 10_000

abbrev pub is_count : ℕ → Bool
is_count count = nat_le 1 count && nat_le count count_limit

abbrev pub are_shifts : ℤ → ℤ → Bool
are_shifts from to = is_shift from && is_shift to && int_le from to

abbrev pub is_goal_kind : Parts → GoalKind → Bool
is_goal_kind model (Recurrence every from to) = nat_le 1 every && nat_lt from to
is_goal_kind model (Coexistence anchor from to) = is_anchor model anchor && are_shifts from to
is_goal_kind model (Cardinality count from to) = is_count count && nat_lt from to

-- whether the model may have this goal
abbrev pub is_goal : Parts → Goal → Bool
is_goal model goal = is_template model goal.template && is_goal_kind model goal.kind
