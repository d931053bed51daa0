use Rattle.std.proofs.Common.{◌≡◌, ◌++◌, length}
use Rattle.run_data.specs.Spans.{timed}
use Rattle.span_reuse.specs.Left.{frames_left}
use Rattle.span_reuse.specs.Roots.{frames_passing, comes_from_one}
use Rattle.span_reuse.proofs.gathering.instants_of.Given as goal

-- the frames so far, and those of the ones that are left
abbrev pub invariant-loop-frame : goal.invariant-loop-frame
invariant-loop-frame l = timed l.made ++ frames_passing (comes_from_one l.roots) (frames_left l.cursor) ≡ frames_passing (comes_from_one l.roots) (timed l.instants)

abbrev pub decreases-loop-frame : goal.decreases-loop-frame
decreases-loop-frame l = length (frames_left l.cursor)
