-- The order of spans, as an order of the language.
use Rattle.std.specs.Ordering.{nat_cmp, ordering_then}
use Rattle.std.specs.declared.cmp.Ordering.{Ordering}
use Rattle.aerie_base.specs.Paths.{path_cmp}
use Rattle.span_table.specs.declared.span.Span.{Span}

-- by start, then by path
abbrev pub span_cmp : Span → Span → Ordering
span_cmp span other = ordering_then (nat_cmp span.start other.start) (path_cmp span.path other.path)
