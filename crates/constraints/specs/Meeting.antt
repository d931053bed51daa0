-- Times at which spans of two types meet, by one sweep over the spans in the order of their starts.
use Rattle.std.specs.Prelude.{◌≡◌, ℕ, ◌≤◌, Bool, false, max, min, List, [], ◌∷◌, ◌++◌, nat_eq, if◌then◌else◌}
use Rattle.run_data.specs.Spans.{SpanOf, same_path}
use Rattle.span_table.specs.AsDefined.{defined_span}
use Rattle.span_table.specs.declared.span.Span.{Span}
use Rattle.windows.specs.Times.{Interval}
use Rattle.constraints.specs.declared.meeting.Ends.{Ends}
use Rattle.constraints.specs.Holding.{times_of}

-- ---- spans in order

abbrev pub StartBehind : ℕ → List SpanOf → Type 0
StartBehind time [] = Unit {0}
StartBehind time (span ∷ rest) = (time ≤ span.start) × StartBehind time rest

-- each starts no earlier than those before it
abbrev pub ByStart : List SpanOf → Type 0
ByStart [] = Unit {0}
ByStart (span ∷ rest) = StartBehind span.start rest × ByStart rest

abbrev pub NoneHasPath : List ℕ → List SpanOf → Type 0
NoneHasPath path [] = Unit {0}
NoneHasPath path (span ∷ rest) = (same_path path span.path ≡ false) × NoneHasPath path rest

-- no two have one path
abbrev pub HaveOwnPaths : List SpanOf → Type 0
HaveOwnPaths [] = Unit {0}
HaveOwnPaths (span ∷ rest) = NoneHasPath span.path rest × HaveOwnPaths rest

-- ---- the sweep

abbrev pub no_ends : Ends
no_ends = record { one = 0; other = 0 }

-- the last ends of both types, with one span more
abbrev pub ends_with : ℕ → ℕ → ℕ → Ends → SpanOf → Ends
ends_with reach one other ends span = record {
  one = if nat_eq span.kind one then max ends.one (times_of reach span).1 else ends.one;
  other = if nat_eq span.kind other then max ends.other (times_of reach span).1 else ends.other;
}

abbrev pub times_if : Bool → Interval → List Interval
times_if test times = if test then times ∷ [] else []

-- the times at which a span meets those before it
abbrev pub meetings_of : ℕ → ℕ → ℕ → Ends → SpanOf → List Interval
meetings_of reach one other ends span =
    times_if (nat_eq span.kind other) (span.start, min (times_of reach span).1 ends.one)
    ++ times_if (nat_eq span.kind one) (span.start, min (times_of reach span).1 ends.other)

-- the same of a span as it is read off a run
abbrev pub met_by : ℕ → ℕ → ℕ → Ends → Span → List Interval
met_by reach one other ends span = meetings_of reach one other ends (defined_span span)

abbrev pub swept : ℕ → ℕ → ℕ → Ends → List SpanOf → List Interval
swept reach one other ends [] = []
swept reach one other ends (span ∷ rest) = meetings_of reach one other ends span ++ swept reach one other (ends_with reach one other ends span) rest
