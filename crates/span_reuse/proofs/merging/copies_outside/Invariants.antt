use Rattle.std.proofs.Common.{◌≡◌, ◌++◌, drop, map}
use Rattle.span_table.specs.AsDefined.{defined_span}
use Rattle.span_reuse.specs.Roots.{is_outside_roots, spans_of_those}
use Rattle.span_reuse.proofs.merging.copies_outside.Given as goal

-- the copies so far, and the spans behind
abbrev pub invariant-loop-span : goal.invariant-loop-span
invariant-loop-span l =
    map defined_span l.copies.items ++ spans_of_those (is_outside_roots l.roots) (map defined_span (drop l.span-index l.spans))
    ≡ spans_of_those (is_outside_roots l.roots) (map defined_span l.spans)
