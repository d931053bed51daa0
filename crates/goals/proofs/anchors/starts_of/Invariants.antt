-- The starts of the spans of the type so far, and of those behind.
use Rattle.std.proofs.Common.{◌≡◌, ◌++◌, drop, map}
use Rattle.span_table.specs.AsDefined.{defined_span}
use Rattle.goals.specs.Anchors.{type_starts}
use Rattle.goals.proofs.anchors.starts_of.Given as goal

abbrev pub invariant-loop-span : goal.invariant-loop-span
invariant-loop-span l = l.starts.items ++ type_starts l.kind (map defined_span (drop l.span-index l.spans)) ≡ type_starts l.kind (map defined_span l.spans)
