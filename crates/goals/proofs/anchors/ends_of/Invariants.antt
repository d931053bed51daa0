-- The ends of the spans of the type so far, and of those behind.
use Rattle.std.proofs.Common.{◌≡◌, ◌++◌, drop, map}
use Rattle.span_table.specs.AsDefined.{defined_span}
use Rattle.goals.specs.Anchors.{type_ends}
use Rattle.goals.proofs.anchors.ends_of.Given as goal

abbrev pub invariant-loop-span : goal.invariant-loop-span
invariant-loop-span l = l.ends.items ++ type_ends l.kind (map defined_span (drop l.span-index l.spans)) ≡ type_ends l.kind (map defined_span l.spans)
