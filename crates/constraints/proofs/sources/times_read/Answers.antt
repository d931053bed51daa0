use Rattle.std.proofs.Common.{List, ap, map, subst, ◌∙◌}
use Rattle.run_data.specs.Spans.{SpanOf}
use Rattle.span_table.specs.declared.span.Span.{Span}
use Rattle.span_table.specs.AsDefined.{defined_span}
use Rattle.constraints.specs.Sources.{AreTimesIn}
use Rattle.constraints.proofs.sources.times_read.Goals as goal

pub returns : goal.returns
returns c =
    subst (λ (l : List SpanOf). AreTimesIn c.args.run.now.reach l c.in_ok-made.made) (ap (λ (l : List Span). map defined_span l) c.as_slice.ensures.value ∙ c.in_ok-spans.ensures.exact) c.in_ok-made.ensures
