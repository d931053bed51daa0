-- Of the spans in the order of their starts those of a type that have not ended, as a sweep over times has them.
use Rattle.std.specs.Prelude.{◌≡◌, ℕ, zero, suc, ◌<◌, ◌≤◌, Bool, ◌&&◌, List, [], ◌∷◌, length, map, nat_eq, nat_le, nat_lt, take, unwrap_or}
use Rattle.std.specs.List.{filter}
use Rattle.run_data.specs.Spans.{SpanOf}
use Rattle.span_table.specs.AsDefined.{defined_span}
use Rattle.span_table.specs.declared.span.Span.{Span}
use Rattle.windows.specs.Times.{Interval}
use Rattle.findings.specs.declared.pairs.Lasting.{Lasting}
use Rattle.findings.specs.declared.pairs.LastingOfType.{LastingOfType}

-- what is kept of a span as long as it may last
abbrev pub lasting_of : ℕ → SpanOf → Lasting
lasting_of reach span = record { path = span.path; start = span.start; end = unwrap_or span.end reach }

-- whether a span is of a type and ends after a time
abbrev pub ends_after : ℕ → ℕ → ℕ → SpanOf → Bool
ends_after reach kind t span = nat_eq span.kind kind && nat_lt t (unwrap_or span.end reach)

-- those that do
abbrev pub ending_after : ℕ → ℕ → ℕ → List SpanOf → List Lasting
ending_after reach kind t spans = map (lasting_of reach) (filter (ends_after reach kind t) spans)

abbrev pub still_lasting : ℕ → List Lasting → List Lasting
still_lasting t lasting = filter (λ one. nat_lt t one.end) lasting

-- the paths of those that have begun
abbrev pub paths_begun : ℕ → List Lasting → List (List ℕ)
paths_begun t lasting = map (λ one. one.path) (filter (λ one. nat_le one.start t) lasting)

-- the span of this number, if there is one, starts after the time
abbrev pub StopsAt : ℕ → ℕ → List Span → Type 0
StopsAt t number [] = Unit {0}
StopsAt t zero (span ∷ rest) = t < span.start
StopsAt t (suc number) (span ∷ rest) = StopsAt t number rest

-- of so many of the first spans those of the type are kept that end after a time
pub record IsSwept (reach : ℕ) (spans : List Span) (swept : LastingOfType) : Type 0 where
  pub within : swept.next ≤ length spans
  pub lasting : swept.lasting ≡ ending_after reach swept.kind swept.until (map defined_span (take swept.next spans))

-- before any span
abbrev pub none_yet : ℕ → LastingOfType
none_yet kind = record { kind = kind; until = 0; next = 0; lasting = [] }

-- what is behind the first spans, up to the first that starts later
pub record IsSweptUntil (reach kind t : ℕ) (spans : List Span) (next : ℕ) (lasting : List Lasting) : Type 0 where
  pub within : next ≤ length spans
  pub so_far : lasting ≡ ending_after reach kind t (map defined_span (take next spans))
  pub stops : StopsAt t next spans

-- each interval begins no earlier than a time, and than the one before it
abbrev pub Rising : ℕ → List Interval → Type 0
Rising time [] = Unit {0}
Rising time (interval ∷ rest) = (time ≤ interval.0) × Rising interval.0 rest

-- the spans of a type are swept no further than to where the first of these intervals begins, and these rise
pub record IsSweptFor (reach : ℕ) (spans : List Span) (kind : ℕ) (intervals : List Interval) (swept : LastingOfType) : Type 0 where
  pub kept : IsSwept reach spans swept
  pub of_kind : swept.kind ≡ kind
  pub rising : Rising swept.until intervals
