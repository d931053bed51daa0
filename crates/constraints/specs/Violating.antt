-- The violations of a constraint: at which times it does not hold, and for which span.
use Rattle.std.specs.Prelude.{◌≡◌, ℕ, Bool, true, not, ◌&&◌, List, [], ◌∷◌, ◌++◌, Option, Some, None, nat_eq, if◌then◌else◌, refl}
use Rattle.std.specs.List.{list_any}
use Rattle.aerie_base.specs.declared.models.model.Parts.{Parts}
use Rattle.run_data.specs.declared.runs.Run.{Run}
use Rattle.run_data.specs.Spans.{SpanOf, spans_of, same_path}
use Rattle.windows.specs.Times.{Interval, TimeSet, covers}
use Rattle.windows.specs.Intervals.{intervals_of}
use Rattle.constraints.specs.declared.types.Rule.{Rule}
use Rattle.constraints.specs.declared.types.Rule.TheVariants.{Plain, Each, Forbid}
use Rattle.constraints.specs.declared.types.Constraint.{Constraint}
use Rattle.constraints.specs.declared.types.Window.{Window}
use Rattle.constraints.specs.declared.violation.Violation.{Violation}
use Rattle.constraints.specs.Holding.{window_holds, times_of}

-- a violation with these intervals; without any it is not listed
abbrev pub listed : Option (List ℕ) → ℕ → List Interval → List Violation
listed path reach [] = []
listed path reach (first ∷ rest) = (record { path = path; intervals = record { reach = reach; intervals = first ∷ rest } }) ∷ []

-- one at these times
abbrev pub listed_times : Option (List ℕ) → TimeSet → List Violation
listed_times path times = listed path times.reach times.intervals

-- the violation at the times below the reach at which this does not hold
abbrev pub where_not : Option (List ℕ) → ℕ → (ℕ → Bool) → List Violation
where_not path reach window_holds = listed path reach (intervals_of reach (λ t. not (window_holds t)))

-- ---- for each span of a type

abbrev pub violations_of_span : Parts → Run → Window → SpanOf → List Violation
violations_of_span model run window span = where_not (Some span.path) run.reach (window_holds model run window (Some (times_of run.reach span)))

-- those of the spans of a type, in the order of the spans
abbrev pub violations_of_spans : Parts → Run → ℕ → Window → List SpanOf → List Violation
violations_of_spans model run kind window [] = []
violations_of_spans model run kind window (span ∷ rest) =
    (if nat_eq span.kind kind then violations_of_span model run window span else []) ++ violations_of_spans model run kind window rest

-- ---- two types that exclude one another

-- whether the span is of the type and covers the time
abbrev pub is_on : ℕ → ℕ → ℕ → SpanOf → Bool
is_on reach kind t span = nat_eq span.kind kind && covers (times_of reach span) t

-- whether another span, which is one with another path, is of the type and covers the time
abbrev pub another_is_on : ℕ → ℕ → List SpanOf → ℕ → SpanOf → Bool
another_is_on reach kind spans t span = list_any (λ other. not (same_path span.path other.path) && is_on reach kind t other) spans

-- whether a span of the one type and another span of the other type both cover the time
abbrev pub meet : ℕ → ℕ → ℕ → List SpanOf → ℕ → Bool
meet reach one other spans t = list_any (λ span. is_on reach one t span && another_is_on reach other spans t span) spans

-- ---- constraints

abbrev pub violations_of_rule : Parts → Run → Rule → List Violation
violations_of_rule model run (Plain window) = where_not None run.reach (window_holds model run window None)
violations_of_rule model run (Each kind window) = violations_of_spans model run kind window (spans_of model run)
violations_of_rule model run (Forbid one other) = where_not None run.reach (λ t. not (meet run.reach one other (spans_of model run) t))

-- these are they
abbrev pub AreOfRule : Parts → Run → Rule → List Violation → Type 0
AreOfRule model run rule found = found ≡ violations_of_rule model run rule

-- the violations of a constraint over a run
abbrev pub violations_of : Parts → Run → Constraint → List Violation
violations_of model run constraint = violations_of_rule model run constraint.rule

-- ---- worked cases

abbrev a_span : ℕ → ℕ → Option ℕ → SpanOf
a_span id start end = record { path = id ∷ []; kind = 0; arguments = []; start = start; end = end; result = None }

-- of two spans [5, 15) and [8, 18) of one type both last from 8 to 15
pub two_spans_meet : intervals_of 20 (meet 20 0 0 (a_span 1 5 (Some 15) ∷ a_span 2 8 (Some 18) ∷ [])) ≡ (8, 15) ∷ []
two_spans_meet = refl

-- no span meets itself
pub a_span_alone : intervals_of 20 (meet 20 0 0 (a_span 1 5 (Some 15) ∷ [])) ≡ []
a_span_alone = refl

-- one without an end lasts up to the reach, and one of no length covers no time
pub up_to_the_reach : intervals_of 20 (meet 20 0 0 (a_span 1 5 None ∷ a_span 2 8 None ∷ a_span 3 9 (Some 9) ∷ [])) ≡ (8, 20) ∷ []
up_to_the_reach = refl

-- what has no interval is not listed
pub nothing_listed : where_not None 20 (λ t. true) ≡ []
nothing_listed = refl
