use Rattle.std.proofs.Common.{◌≡◌, ◌+◌, ◌<◌, ℕ, false, get_or}
use Rattle.run_data.specs.TaskFrames.{Frame}
use Rattle.live_tasks.specs.FrameOrders.{is_before}
use Rattle.engine_core.proofs.batches.ordering.are_by_path.Given as goal

-- of those that were passed none is before the one in front of it
abbrev pub invariant-loop-at : goal.invariant-loop-at
invariant-loop-at l = (k : ℕ) (d : Frame) → k + 1 < l.at → is_before (get_or l.frames (k + 1) d) (get_or l.frames k d) ≡ false
