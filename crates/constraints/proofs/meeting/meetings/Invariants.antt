use Rattle.std.proofs.Common.{◌≡◌, ◌++◌, drop, map}
use Rattle.span_table.specs.AsDefined.{defined_span}
use Rattle.constraints.specs.Meeting.{no_ends, swept}
use Rattle.constraints.proofs.meeting.meetings.Given as goal

-- what the sweep found so far and what it finds of the spans that are left is all that it finds
abbrev pub invariant-loop-span : goal.invariant-loop-span
invariant-loop-span l =
    l.times.items ++ swept l.reach l.one l.other l.ends (map defined_span (drop l.span-index l.spans)) ≡ swept l.reach l.one l.other no_ends (map defined_span l.spans)
