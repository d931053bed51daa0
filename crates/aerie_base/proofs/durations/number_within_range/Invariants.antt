-- The number is that of the digits read so far, and not above the longest duration.
use Rattle.std.proofs.Common.{◌≡◌, ◌≤◌, take}
use Rattle.std.specs.Str.Parse.{digits_value}
use Rattle.aerie_base.specs.Ranges.{time_limit}
use Rattle.aerie_base.proofs.durations.number_within_range.Given as goal

abbrev pub invariant-loop-digit : goal.invariant-loop-digit
invariant-loop-digit l = record {
  number : l.number ≡ digits_value 10 (take l.digit-index l.digits);
  within : l.number ≤ time_limit;
}
