use Rattle.std.proofs.Common.{◌≡◌, length, map}
use Rattle.span_table.specs.AsDefined.{defined_span}
use Rattle.span_reuse.specs.Putting.{put_each}
use Rattle.span_reuse.proofs.merging.with_each.Given as goal

-- those that are left come among these as all come among the first
abbrev pub invariant-loop-span : goal.invariant-loop-span
invariant-loop-span l =
    put_each (map defined_span l.left.items) (map defined_span l.spans.items) ≡ put_each (map defined_span l.fn.more.items) (map defined_span l.fn.spans.items)

abbrev pub decreases-loop-span : goal.decreases-loop-span
decreases-loop-span l = length l.left.items
