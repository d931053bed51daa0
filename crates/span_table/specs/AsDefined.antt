-- Spans as the definition of a run's spans has them.
use Rattle.std.specs.Prelude.{◌≡◌, List, map}
use Rattle.run_data.specs.Spans.{SpanOf, sorted_spans}
use Rattle.span_table.specs.declared.span.Span.{Span}

abbrev pub defined_span : Span → SpanOf
defined_span span = record {
  path = span.path;
  kind = span.kind;
  arguments = span.arguments;
  start = span.start;
  end = span.end;
  result = span.result;
}

-- these are the spans, by start and then by path
abbrev pub IsSortedAs : List Span → List Span → Type 0
IsSortedAs spans sorted = map defined_span sorted ≡ sorted_spans (map defined_span spans)
