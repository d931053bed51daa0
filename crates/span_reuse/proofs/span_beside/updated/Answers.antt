use Rattle.std.proofs.Common.{map, ◌∙◌, ap}
use Rattle.run_data.specs.Spans.{timed}
use Rattle.span_table.specs.AsDefined.{defined_span}
use Rattle.span_reuse.specs.Roots.{is_outside_roots, spans_of_those}
use Rattle.span_reuse.proofs.SpansBeside.{spans_are}
use Rattle.span_reuse.proofs.span_beside.updated.Goals as goal

pub returns : goal.returns
returns c =
    c.in_ok-made-2.ensures
    ∙ spans_are c.args.model.now c.args.roots.now (timed c.args.run.now.instants) (timed c.args.base.now.instants) (timed c.in_ok-part.part.instants)
    (map defined_span c.in_ok-found.found.items) (map defined_span c.in_ok-kept.kept.items) c.requires.differ c.in_ok-part.ensures c.in_ok-found.ensures.exact
    (c.in_ok-kept.ensures ∙ ap (spans_of_those (is_outside_roots c.args.roots.now)) c.requires.base)
