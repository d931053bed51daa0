-- What windows and rules are over the model and the run of an evaluation.
use Rattle.std.specs.Prelude.{◌≡◌, ℕ, ◌<◌, Bool, true, IsTrue, List, map, Option, Some, None}
use Rattle.aerie_base.specs.declared.expressions.Comparison.{Comparison}
use Rattle.aerie_base.specs.declared.values.Value.{Value}
use Rattle.aerie_base.specs.expressions.Arithmetic.{compared, truth_in}
use Rattle.run_data.specs.Spans.{spans_of}
use Rattle.span_table.specs.AsDefined.{defined_span}
use Rattle.span_table.specs.declared.span.Span.{Span}
use Rattle.windows.specs.Times.{Interval, TimeSet}
use Rattle.windows.specs.declared.segments.Segment.{Segment}
use Rattle.constraints.specs.declared.judging.Prepared.{Prepared}
use Rattle.constraints.specs.declared.judging.Prepared.TheVariants.{Near, Twice}
use Rattle.constraints.specs.declared.sources.Sources.{Sources}
use Rattle.constraints.specs.declared.span_windows.SpanWindow.{SpanWindow}
use Rattle.constraints.specs.declared.types.Reading.{Reading}
use Rattle.constraints.specs.declared.types.RuleSum.{RuleSum}
use Rattle.constraints.specs.declared.types.Window.{Window}
use Rattle.constraints.specs.declared.violation.Violation.{Violation}
use Rattle.constraints.specs.Evaluating.{holds_by_fold}
use Rattle.constraints.specs.Following.{AreTimesEqual, FollowsReading}
use Rattle.constraints.specs.Holding.{reading_value, some_covers, sum_value, window_holds}
use Rattle.constraints.specs.Local.{is_local}
use Rattle.constraints.specs.Judging.{times_held, times_not_held, violations_if}
use Rattle.constraints.specs.SpanWindows.{IsMargin, holds_for, is_below}
use Rattle.constraints.specs.Violating.{violations_of_spans}

-- ---- when something holds

-- whether a window holds at a time
abbrev pub holds_over : Sources → Window → Option Interval → ℕ → Bool
holds_over sources window bound = window_holds sources.model.now sources.run.now window bound

abbrev pub folded_over : Sources → Window → Option Interval → ℕ → Bool
folded_over sources window bound = holds_by_fold sources.model.now sources.run.now window bound

-- whether a span of the type covers it
abbrev pub covered_over : Sources → ℕ → ℕ → Bool
covered_over sources kind = some_covers sources.run.now.reach kind (spans_of sources.model.now sources.run.now)

-- whether a truth is true at it
abbrev pub truth_over : Sources → Reading → ℕ → Bool
truth_over sources reading t = truth_in (reading_value sources.model.now sources.run.now reading t)

-- whether two sums compare so at it
abbrev pub compared_over : Sources → RuleSum → Comparison → RuleSum → ℕ → Bool
compared_over sources left how right t =
    compared how (sum_value sources.model.now sources.run.now left t) (sum_value sources.model.now sources.run.now right t)

-- ---- sets of times

-- the times of the run at which a window holds
abbrev pub held_over : Sources → Window → Option Interval → TimeSet
held_over sources window bound = times_held sources.model.now sources.run.now window bound

-- and those at which it does not
abbrev pub not_held_over : Sources → Window → Option Interval → TimeSet
not_held_over sources window bound = times_not_held sources.model.now sources.run.now window bound

-- the times of a span that lasts as long as the run
abbrev pub endless : Sources → Option Interval
endless sources = Some (0, sources.run.now.reach)

-- the times at which what is read is equal to a value, or unequal
abbrev pub AreEqualOver : Sources → Reading → Value → Bool → TimeSet → Type 0
AreEqualOver sources reading value equal made = AreTimesEqual sources.model.now sources.run.now reading value equal made

-- straight pieces with what is read at each time of the run
abbrev pub FollowOver : Sources → Reading → List Segment → Type 0
FollowOver sources reading made = FollowsReading sources.model.now sources.run.now reading made

-- ---- what was evaluated for all spans of a rule

-- it holds as the window does, for each span and for none, at each time of the run
abbrev pub HoldsAsWindow : Sources → Window → SpanWindow → Type 0
HoldsAsWindow sources window made =
    (bound : Option Interval) (t : ℕ) → t < sources.run.now.reach → holds_for sources.run.now.reach made bound t ≡ holds_over sources window bound t

abbrev pub HoldsAsFolded : Sources → Window → SpanWindow → Type 0
HoldsAsFolded sources window made =
    (bound : Option Interval) (t : ℕ) → t < sources.run.now.reach → holds_for sources.run.now.reach made bound t ≡ folded_over sources window bound t

-- it is of this window: of one that is local the times at which it does not hold, for no span and for one that lasts as long as the
-- run; of any other its parts, the times at which it does not hold for no span, and how far from a span it may hold otherwise
abbrev pub IsPrepared : Sources → Window → Prepared → Type 0
IsPrepared sources window (Twice outside inside) =
    (is_local window ≡ true) × (outside ≡ not_held_over sources window None) × (inside ≡ not_held_over sources window (endless sources))
IsPrepared sources window (Near parts outside margin) =
    IsTrue (is_below sources.run.now.reach parts)
    × HoldsAsWindow sources window parts
    × (outside ≡ not_held_over sources window None)
    × IsMargin sources.run.now.reach parts margin

-- ---- violations of a rule for each span of a type

-- those for one span
abbrev pub violations_over : Sources → ℕ → Window → Span → List Violation
violations_over sources kind window span = violations_if sources.model.now sources.run.now kind window (defined_span span)

-- those for each of these spans
abbrev pub all_violations_over : Sources → ℕ → Window → List Span → List Violation
all_violations_over sources kind window spans =
    violations_of_spans sources.model.now sources.run.now kind window (map defined_span spans)
