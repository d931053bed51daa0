-- Where the frame of a task stands among frames in order of path.
use Rattle.std.specs.Prelude.{◌≡◌, ℕ, ◌<◌, List, length, Option, Some, None, slice_get}
use Rattle.run_data.specs.TaskFrames.{Frame}
use Rattle.run_data.specs.laws.Trees.{frame_at}

-- the position of the first frame of a path, where it has one
abbrev pub IsPositionOf : List Frame → List ℕ → Option ℕ → Type 0
IsPositionOf frames path None = frame_at frames path ≡ None
IsPositionOf frames path (Some at) = (at < length frames) × (slice_get frames at ≡ frame_at frames path)

-- the frame at a position is the first of its path
abbrev pub IsFirstOfPath : List Frame → ℕ → Type 0
IsFirstOfPath frames at = (one : Frame) → slice_get frames at ≡ Some one → frame_at frames one.path ≡ Some one
