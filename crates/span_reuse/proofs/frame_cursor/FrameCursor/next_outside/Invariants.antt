use Rattle.std.proofs.Common.{length}
use Rattle.span_reuse.specs.Left.{PassesOver, frames_left}
use Rattle.span_reuse.proofs.frame_cursor.FrameCursor.next_outside.Given as goal

-- the frames so far are passed over
abbrev pub invariant-loop-frame : goal.invariant-loop-frame
invariant-loop-frame l = PassesOver l.roots (frames_left l.fn.self) (frames_left l.self)

abbrev pub decreases-loop-frame : goal.decreases-loop-frame
decreases-loop-frame l = length (frames_left l.self)
