use Rattle.std.proofs.Common.{◌≡◌, ◌++◌, ◌-◌, ◌≤◌, drop, length, map, take}
use Rattle.run_data.specs.Spans.{put_span}
use Rattle.span_table.specs.AsDefined.{defined_span}
use Rattle.span_reuse.proofs.merging.place_among.Given as goal

abbrev pub decreases-loop-at : goal.decreases-loop-at
decreases-loop-at l = length l.spans - l.at

-- the place is behind those so far
abbrev pub invariant-loop-at : goal.invariant-loop-at
invariant-loop-at l = record {
  within : l.at ≤ length l.spans;
  place :
      put_span (defined_span l.span) (map defined_span l.spans)
      ≡ map defined_span (take l.at l.spans) ++ put_span (defined_span l.span) (map defined_span (drop l.at l.spans));
}
