-- Straight pieces that follow what a rule reads.
use Rattle.std.specs.Prelude.{◌≡◌, ℕ, ◌<◌, ◌≤◌, Bool, List}
use Rattle.std.specs.Int.RustNames.{unsigned_abs}
use Rattle.aerie_base.specs.declared.models.model.Parts.{Parts}
use Rattle.aerie_base.specs.expressions.Arithmetic.{number_in, same_value}
use Rattle.aerie_base.specs.declared.values.Value.{Value}
use Rattle.windows.specs.Times.{TimeSet, AreIntervals}
use Rattle.run_data.specs.declared.runs.Run.{Run}
use Rattle.windows.specs.declared.segments.Segment.{Segment}
use Rattle.windows.specs.Linear.{AreSegments, segments_value}
use Rattle.constraints.specs.declared.types.Reading.{Reading}
use Rattle.constraints.specs.Holding.{equals_or_not, reading_value}

-- no resource and no dataset comes further from 0, 2 * 10^27
abbrev pub reading_limit : ℕ
reading_limit = 2_000_000_000_000_000_000_000_000_000

-- they have its number at each time below the reach
pub record FollowsReading (model : Parts) (run : Run) (reading : Reading) (made : List Segment) : Type 0 where
  pub form : AreSegments run.reach made
  pub values : (t : ℕ) → t < run.reach → segments_value made t ≡ number_in (reading_value model run reading t)
  pub small : (t : ℕ) → t < run.reach → unsigned_abs (segments_value made t) ≤ reading_limit

-- the times below the reach at which what a rule reads is equal to a value, or unequal
pub record AreTimesEqual (model : Parts) (run : Run) (reading : Reading) (value : Value) (equal : Bool) (made : TimeSet) : Type 0 where
  pub reach_is : made.reach ≡ run.reach
  pub times : AreIntervals made.reach (λ t. equals_or_not equal (same_value (reading_value model run reading t) value)) made.intervals
