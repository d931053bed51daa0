-- The commands of the spans so far, and those of the spans behind.
use Rattle.std.proofs.Common.{◌≡◌, ◌++◌, drop, map}
use Rattle.span_table.specs.AsDefined.{defined_span}
use Rattle.seq_expand.specs.Sending.{sent_by_spans as sent_by_all}
use Rattle.seq_expand.proofs.expanding.sent_by_spans.Given as goal

abbrev pub invariant-loop-span : goal.invariant-loop-span
invariant-loop-span l =
    l.sent.items ++ sent_by_all l.rules.rules (map defined_span (drop l.span-index l.spans)) ≡ sent_by_all l.rules.rules (map defined_span l.spans)
