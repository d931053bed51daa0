use Rattle.std.proofs.Common.{◌+◌, length}
use Rattle.run_data.specs.Spans.{timed}
use Rattle.span_reuse.specs.Left.{RestDecides, frames_left}
use Rattle.span_reuse.proofs.comparing.differing.Given as goal

-- the runs tell the same, but for the roots so far, where what is left of them does
abbrev pub invariant-loop-here : goal.invariant-loop-here
invariant-loop-here l = RestDecides l.roots.items (timed l.run.instants) (timed l.base.instants) (frames_left l.here) (frames_left l.there)

abbrev pub decreases-loop-here : goal.decreases-loop-here
decreases-loop-here l = length (frames_left l.here) + length (frames_left l.there)
