-- The commands of one span more.
use Rattle.std.proofs.Common.{◌≡◌, ℕ, ◌+◌, ◌<◌, List, ◌++◌, append_assoc, map, drop, get_or, length, sym, ap, ◌∙◌}
use Rattle.span_table.specs.declared.span.Span.{Span}
use Rattle.span_table.specs.AsDefined.{defined_span}
use Rattle.seq_expand.specs.declared.rules.SpanRule.{SpanRule}
use Rattle.seq_expand.specs.declared.sequence.Sent.{Sent}
use Rattle.seq_expand.specs.Sending.{sent_by_spans, sent_by_steps, steps_for}
use Rattle.seq_expand.proofs.Positions.{cut}

pub span_sent : (rules : List SpanRule) (spans : List Span) (at : ℕ) (span : Span) (so_far next all : List Sent) → at < length spans → span ≡ get_or spans at span →
    next ≡ so_far ++ sent_by_steps (defined_span span) (steps_for span.kind rules) → so_far ++ sent_by_spans rules (map defined_span (drop at spans)) ≡ all →
    next ++ sent_by_spans rules (map defined_span (drop (at + 1) spans)) ≡ all
span_sent rules spans at span so_far next all within is more before =
    ap (λ l. l ++ sent_by_spans rules (map defined_span (drop (at + 1) spans))) more
    ∙ (append_assoc so_far (sent_by_steps (defined_span span) (steps_for span.kind rules)) (sent_by_spans rules (map defined_span (drop (at + 1) spans)))
    ∙ (ap (λ l. so_far ++ sent_by_spans rules (map defined_span l)) (sym (cut spans at span within is)) ∙ before))
