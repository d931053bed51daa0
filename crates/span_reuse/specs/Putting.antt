-- Spans that are put among others, each in its place.
use Rattle.std.specs.Prelude.{List, [], ◌∷◌}
use Rattle.run_data.specs.Spans.{SpanOf, put_span}

-- the last one first
abbrev pub put_each : List SpanOf → List SpanOf → List SpanOf
put_each [] others = others
put_each (span ∷ rest) others = put_span span (put_each rest others)
