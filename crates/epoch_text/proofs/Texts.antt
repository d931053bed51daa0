-- What a clock shows at an instant is the text of the microseconds since 1900.
use Rattle.std.proofs.Common.{◌≡◌, ℕ, ◌+◌, ◌-◌, ◌*◌, ◌/◌, ◌%◌, ◌<◌, ℤ, pos, negsuc, unsigned_abs, ◌+ℤ◌, ◌*ℤ◌, ◌≤ℤ◌, refl, arith}
use Rattle.jiff.specs.Words.{civil_nanos, epoch_day, ordinal, time_nanos}
use Rattle.jiff.proofs.SpanFacts.{signed_arith}
use Rattle.jiff_core.specs.declared.civil.date.Date.{Date}
use Rattle.jiff_core.specs.declared.civil.time.Time.{Time}
use Rattle.jiff_core.specs.declared.civil.datetime.DateTime.{DateTime}
use Rattle.jiff_core.proofs.DateTimeLemmas.{civil_nanos-parts, time_nanos_bound}
use Rattle.epoch_text.specs.DayTexts.{shown_text, since_1900, text_since_1900}
use Rattle.epoch_text.specs.Ranges.{IsShown}
use Rattle.epoch_text.proofs.Years.{since_1900_is, year_of_shown}

pub not_negative : (z : ℤ) → pos 0 ≤ℤ z → pos (unsigned_abs z) ≡ z
not_negative (pos n) h = refl
not_negative (negsuc n) h = absurd (omega (arith, signed_arith))

-- the fields of a clock, from its microseconds
hour_is : (micros : ℕ) (time : Time) → micros * 1_000 ≡ time_nanos time → micros / 1_000_000 / 3600 ≡ time.hour
hour_is micros time e = omega arith

minute_is : (micros : ℕ) (time : Time) → micros * 1_000 ≡ time_nanos time → micros / 1_000_000 / 60 % 60 ≡ time.minute
minute_is micros time e = omega arith

second_is : (micros : ℕ) (time : Time) → micros * 1_000 ≡ time_nanos time → micros / 1_000_000 % 60 ≡ time.second
second_is micros time e = omega arith

fraction_is : (micros : ℕ) (time : Time) → micros * 1_000 ≡ time_nanos time → micros % 1_000_000 ≡ time.subsec_nanosecond / 1_000
fraction_is micros time e = omega arith

year_day_is : (date : Date) → ordinal date - 1 + 1 ≡ ordinal date
year_day_is date = omega (arith, date.day_in.0)

-- the days and the rest of the microseconds since 1900
days_are : (micros : ℕ) (day : ℤ) (nanos : ℕ) → nanos < 86_400_000_000_000 →
    pos micros *ℤ pos 1_000 ≡ (day +ℤ pos 25_567) *ℤ pos 86_400_000_000_000 +ℤ pos nanos → day +ℤ pos 25_567 ≡ pos (micros / 86_400_000_000)
days_are micros day nanos bound e = omega (arith, signed_arith)

rest_is : (micros : ℕ) (day : ℤ) (nanos : ℕ) → nanos < 86_400_000_000_000 →
    pos micros *ℤ pos 1_000 ≡ (day +ℤ pos 25_567) *ℤ pos 86_400_000_000_000 +ℤ pos nanos → micros % 86_400_000_000 * 1_000 ≡ nanos
rest_is micros day nanos bound e = omega (arith, signed_arith, days_are micros day nanos bound e)

-- the nanoseconds since 1900
whole : (at : DateTime) (instant : ℤ) → IsShown instant → civil_nanos at ≡ instant *ℤ pos 1_000 →
    pos (since_1900 instant) *ℤ pos 1_000 ≡ (epoch_day at.date +ℤ pos 25_567) *ℤ pos 86_400_000_000_000 +ℤ pos (time_nanos at.time)
whole at instant shown e =
    omega (arith, signed_arith, not_negative (instant +ℤ pos 2_208_988_800_000_000) (omega (arith, signed_arith)), civil_nanos-parts at)

day_high : (at : DateTime) (instant : ℤ) → IsShown instant → civil_nanos at ≡ instant *ℤ pos 1_000 → epoch_day at.date ≤ℤ pos 2_579_594
day_high at instant shown e = omega (arith, signed_arith, civil_nanos-parts at)

day_low : (at : DateTime) (instant : ℤ) → IsShown instant → civil_nanos at ≡ instant *ℤ pos 1_000 → negsuc 25_566 ≤ℤ epoch_day at.date
day_low at instant shown e = omega (arith, signed_arith, civil_nanos-parts at, time_nanos_bound at.time)

-- the year is not negative
pub year_is_shown : (at : DateTime) (instant : ℤ) → IsShown instant → civil_nanos at ≡ instant *ℤ pos 1_000 → pos 0 ≤ℤ at.date.year
year_is_shown at instant shown e =
    let years = year_of_shown at.date (day_low at instant shown e) (day_high at instant shown e) in
    omega (arith, signed_arith, years.0)

pub text_is_shown : (at : DateTime) (instant : ℤ) → IsShown instant → civil_nanos at ≡ instant *ℤ pos 1_000 → shown_text at ≡ text_since_1900 (since_1900 instant)
text_is_shown at instant shown e =
    let micros = since_1900 instant in
    let sum = whole at instant shown e in
    let bound = time_nanos_bound at.time in
    let days = days_are micros (epoch_day at.date) (time_nanos at.time) bound sum in
    let rest = rest_is micros (epoch_day at.date) (time_nanos at.time) bound sum in
    let date = since_1900_is (micros / 86_400_000_000) at.date days (day_high at instant shown e) in
    let clock = micros % 86_400_000_000 in
    rw (date, year_day_is at.date, hour_is clock at.time rest, minute_is clock at.time rest, second_is clock at.time rest, fraction_is clock at.time rest) refl
