-- Two straight pieces over one span of time, and the piece that their sum is there.
use Rattle.std.specs.Prelude.{◌≡◌, ℕ, ◌<◌, ◌≤◌, ℤ, ◌+ℤ◌, ◌*ℤ◌}
use Rattle.windows.specs.declared.segments.Segment.{Segment}
use Rattle.windows.specs.Linear.{IsSum, segment_value}

-- a piece that has begun by then, and is below 2^120 from its start up to an end
pub record IsPiece (piece : Segment) (from end : ℕ) : Type 0 where
  pub begun : piece.from ≤ from
  pub sums : (t : ℕ) → piece.from ≤ t → t < end → IsSum (segment_value piece t)

-- so many times the one piece and the other one may be added from a time up to an end
pub record CanBeAdded (sum : Segment) (coefficient : ℤ) (more : Segment) (from end : ℕ) : Type 0 where
  pub some_time : from < end
  pub sum_is : IsPiece sum from end
  pub more_is : IsPiece more from end
  pub products : (t : ℕ) → from ≤ t → t < end → IsSum (coefficient *ℤ segment_value more t)

-- the piece that they come to
pub record IsAdded (sum : Segment) (coefficient : ℤ) (more : Segment) (from end : ℕ) (made : Segment) : Type 0 where
  pub begin : made.from ≡ from
  pub values : (t : ℕ) → from ≤ t → t < end → segment_value made t ≡ segment_value sum t +ℤ coefficient *ℤ segment_value more t
