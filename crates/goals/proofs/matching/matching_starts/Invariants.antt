-- The starts of the matching spans so far, and of those behind.
use Rattle.std.proofs.Common.{◌≡◌, ◌++◌, drop, map}
use Rattle.span_table.specs.AsDefined.{defined_span}
use Rattle.goals.specs.Matching.{matching_starts as starts_matched}
use Rattle.goals.proofs.matching.matching_starts.Given as goal

abbrev pub invariant-loop-span : goal.invariant-loop-span
invariant-loop-span l =
    l.starts.items ++ starts_matched l.template (map defined_span (drop l.span-index l.spans)) ≡ starts_matched l.template (map defined_span l.spans)
