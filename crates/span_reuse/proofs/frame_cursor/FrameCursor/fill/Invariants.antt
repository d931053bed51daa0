use Rattle.std.proofs.Common.{◌≡◌}
use Rattle.span_reuse.specs.Left.{frames_left, iterations_left}
use Rattle.span_reuse.proofs.frame_cursor.FrameCursor.fill.Given as goal

-- the same frames are left
abbrev pub invariant-loop-self : goal.invariant-loop-self
invariant-loop-self l = frames_left l.self ≡ frames_left l.fn.self

abbrev pub decreases-loop-self : goal.decreases-loop-self
decreases-loop-self l = iterations_left l.self
