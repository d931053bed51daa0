-- What a clock shows, and the microseconds of an instant.
use Rattle.std.proofs.Common.{◌≡◌, ℕ, ◌/◌, ◌%◌, ◌<◌, ℤ, pos, ◌+ℤ◌, ◌*ℤ◌, int_div, arith}
use Rattle.jiff.specs.Words.{civil_nanos, epoch_day, time_nanos}
use Rattle.jiff.proofs.SpanFacts.{signed_arith}
use Rattle.jiff_core.specs.declared.civil.date.Date.{Date}
use Rattle.jiff_core.specs.declared.civil.time.Time.{Time}
use Rattle.jiff_core.specs.declared.civil.datetime.DateTime.{DateTime}
use Rattle.jiff_core.proofs.DateTimeLemmas.{civil_nanos-parts}
use Rattle.epoch_text.specs.Ranges.{IsStart, IsStartDay}
use Rattle.epoch_text.specs.Starts.{micros_at}

-- the nanoseconds of a date and a time of day
pub nanos_of_parts : (at : DateTime) (date : Date) (time : Time) → at.date ≡ date → at.time ≡ time →
    civil_nanos at ≡ epoch_day date *ℤ pos 86_400_000_000_000 +ℤ pos (time_nanos time)
nanos_of_parts at date time d t = rw (← d, ← t) (civil_nanos-parts at)

-- whole microseconds of a day, in microseconds
pub micros_of_nanos : (day nanos : ℤ) (time : ℕ) → time % 1_000 ≡ 0 → nanos ≡ day *ℤ pos 86_400_000_000_000 +ℤ pos time →
    int_div nanos (pos 1_000) ≡ micros_at day (time / 1_000)
micros_of_nanos day nanos time whole e = omega (arith, signed_arith)

pub instant_in_range : (day : ℤ) (micros : ℕ) → IsStartDay day → micros < 86_400_000_000 → IsStart (micros_at day micros)
instant_in_range day micros h k = (omega (arith, signed_arith), omega (arith, signed_arith))
