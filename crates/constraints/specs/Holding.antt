-- When a window holds: at each whole time of a run below its reach it does, or does not.
use Rattle.std.specs.Prelude.{ℕ, ℤ, pos, ◌+ℤ◌, ◌*ℤ◌, Bool, false, not, ◌&&◌, ◌||◌, List, [], ◌∷◌, Option, Some, None, nat_eq, slice_get, unwrap_or, if◌then◌else◌}
use Rattle.std.specs.List.{list_any}
use Rattle.aerie_base.specs.declared.names.Name.{Name}
use Rattle.aerie_base.specs.declared.values.Value.{Value}
use Rattle.aerie_base.specs.declared.values.Value.TheVariants as value
use Rattle.aerie_base.specs.declared.models.Resource.{Resource}
use Rattle.aerie_base.specs.declared.models.model.Parts.{Parts}
use Rattle.aerie_base.specs.expressions.Arithmetic.{number_in, truth_in, same_value, compared}
use Rattle.run_data.specs.declared.runs.Run.{Run}
use Rattle.run_data.specs.Spans.{SpanOf, spans_of}
use Rattle.run_data.specs.Values.{resource_value}
use Rattle.dataset_in.specs.declared.series.Level.{Level}
use Rattle.dataset_in.specs.declared.series.Level.TheVariants as level
use Rattle.dataset_in.specs.Levels.{level_at}
use Rattle.windows.specs.Times.{Interval, covers, shifted_contains, long_contains}
use Rattle.windows.specs.Intervals.{intervals_of}
use Rattle.constraints.specs.declared.types.Reading.{Reading}
use Rattle.constraints.specs.declared.types.Reading.TheVariants as read
use Rattle.constraints.specs.declared.types.RuleTerm.{RuleTerm}
use Rattle.constraints.specs.declared.types.RuleSum.{RuleSum}
use Rattle.constraints.specs.declared.types.Window.{Window}
use Rattle.constraints.specs.declared.types.Window.TheOpen.{Window-F}
use Rattle.constraints.specs.Recursion.{window_gives}

-- ---- what is read

-- what a dataset says, as a value
abbrev pub level_value : Level → Value
level_value (level.Truth truth) = value.Truth truth
level_value (level.Sum sum) = value.Int sum

-- the value of a resource at a time below the reach; 0 where there is no such resource
abbrev pub value_of_resource : Parts → Run → Option (Name × Resource) → ℕ → Value
value_of_resource model run None t = value.Int (pos 0)
value_of_resource model run (Some named) t = resource_value model run named.1 t

-- the value of what a rule reads, at a time below the reach
abbrev pub reading_value : Parts → Run → Reading → ℕ → Value
reading_value model run (read.Resource number) t = value_of_resource model run (slice_get model.resources number) t
reading_value model run (read.Series name series) t = level_value (level_at series t)

-- ---- sums

abbrev pub rule_term_value : Parts → Run → RuleTerm → ℕ → ℤ
rule_term_value model run term t = term.coefficient *ℤ number_in (reading_value model run term.resource t)

abbrev pub rule_terms_value : Parts → Run → List RuleTerm → ℕ → ℤ
rule_terms_value model run [] t = pos 0
rule_terms_value model run (term ∷ rest) t = rule_term_value model run term t +ℤ rule_terms_value model run rest t

abbrev pub sum_value : Parts → Run → RuleSum → ℕ → ℤ
sum_value model run sum t = rule_terms_value model run sum.terms t +ℤ sum.constant

-- ---- spans

-- the times that a span covers: from its start up to its end, or up to the reach where it has no end. One that ends where
-- it starts covers none.
abbrev pub times_of : ℕ → SpanOf → Interval
times_of reach span = (span.start, unwrap_or span.end reach)

-- whether some of these spans is of the type and covers the time
abbrev pub some_covers : ℕ → ℕ → List SpanOf → ℕ → Bool
some_covers reach kind spans t = list_any (λ span. nat_eq span.kind kind && covers (times_of reach span) t) spans

-- whether the times of the span that a rule is judged for, if any, have this time
abbrev pub bound_covers : Option Interval → ℕ → Bool
bound_covers None t = false
bound_covers (Some times) t = covers times t

-- ---- windows

-- equal, or unequal
abbrev pub equals_or_not : Bool → Bool → Bool
equals_or_not equal same = if equal then same else not same

-- when a window holds, by when its parts hold
abbrev pub window_holds_step : Parts → Run → Option Interval → Window-F (ℕ → Bool) → ℕ → Bool
window_holds_step model run bound (Window-F.Literal truth) t = truth
window_holds_step model run bound (Window-F.And left right) t = left t && right t
window_holds_step model run bound (Window-F.Or left right) t = left t || right t
window_holds_step model run bound (Window-F.Not part) t = not (part t)
window_holds_step model run bound (Window-F.During kind) t = some_covers run.reach kind (spans_of model run) t
window_holds_step model run bound Window-F.DuringBound t = bound_covers bound t
window_holds_step model run bound (Window-F.Shift part start end) t = shifted_contains start end (intervals_of run.reach part) t
window_holds_step model run bound (Window-F.Longer part least) t = long_contains least (intervals_of run.reach part) t
window_holds_step model run bound (Window-F.Truth reading) t = truth_in (reading_value model run reading t)
window_holds_step model run bound (Window-F.Same resource value equal) t = equals_or_not equal (same_value (reading_value model run resource t) value)
window_holds_step model run bound (Window-F.Compare left how right) t = compared how (sum_value model run left t) (sum_value model run right t)

-- Whether a window holds at a time of a run below its reach. The times of the span that the rule is judged for are given
-- with it, or none.
unfoldable pub window_holds : Parts → Run → Window → Option Interval → ℕ → Bool
window_holds model run window bound = window_gives (ℕ → Bool) (λ t. false) (window_holds_step model run bound) window
