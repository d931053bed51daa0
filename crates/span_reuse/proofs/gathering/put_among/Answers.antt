use Rattle.std.proofs.Common.{List, ◌∙◌, ap, sym}
use Rattle.run_data.specs.declared.runs.Instant.{Instant}
use Rattle.run_data.specs.Spans.{timed}
use Rattle.span_reuse.specs.Roots.{comes_from_one}
use Rattle.span_reuse.proofs.Frames.{one_more}
use Rattle.span_reuse.proofs.gathering.put_among.Goals as goal

pub returns : goal.returns
returns c =
    ap (λ (instants : List Instant). timed instants) c.in_ok-push.ensures.pushed
    ∙ one_more (comes_from_one c.args.roots.now) c.args.time c.args.frame.now c.args.made.now c.in_ok-instant_of.field-0
    (ap (comes_from_one c.args.roots.now) (sym c.path.ensures) ∙ (sym c.is_among.ensures ∙ c.if-not-is_among.false)) c.in_ok-instant_of.ensures
