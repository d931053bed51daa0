-- The text of an instant by the number of its day in the year, as "2028-366T23:59:59.999999".
use Rattle.std.specs.Prelude.{◌≡◌, ℕ, zero, suc, ◌+◌, ◌-◌, ◌/◌, ◌%◌, ◌<◌, nat_lt, List, ◌++◌, if◌then◌else◌, codes, ℤ, pos, neg_ℤ, unsigned_abs, ◌+ℤ◌, refl}
use Rattle.std.specs.Fmt.{digits}
use Rattle.jiff.specs.Words.{days_in_year, ordinal}
use Rattle.jiff_core.specs.declared.civil.datetime.DateTime.{DateTime}
use Rattle.epoch_text.specs.Forms.{digits_in}

-- the year, and the day in it from 0, that is so many days after 1 January of a year: whole years are taken off for as
-- long as they fit, at most so many of them
unfoldable pub day_in_year : ℕ → ℕ → ℕ → ℕ × ℕ
day_in_year zero year days = (year, days)
day_in_year (suc more) year days =
    if nat_lt days (days_in_year (pos year)) then (year, days)
    else day_in_year more (year + 1) (days - days_in_year (pos year))

-- the text of a date by year and day of the year, of which the first is 1, and of a time of day
abbrev pub stamp : ℕ → ℕ → ℕ → ℕ → ℕ → ℕ → List ℕ
stamp year year_day hour minute second micros =
    digits_in 4 year ++ codes "-" ++ digits_in 3 year_day ++ codes "T" ++ digits_in 2 hour ++ codes ":" ++ digits_in 2 minute
    ++ codes ":" ++ digits_in 2 second ++ codes "." ++ digits_in 6 micros

-- the numbers of such a text have no more digits than their places
abbrev pub HaveFewDigits : ℕ → ℕ → ℕ → ℕ → ℕ → ℕ → Type 0
HaveFewDigits year year_day hour minute second micros =
    (year < 10_000) × (year_day < 1_000) × (hour < 100) × (minute < 100) × (second < 100) × (micros < 1_000_000)

-- the text of what a clock shows, with the fraction cut to microseconds
abbrev pub shown_text : DateTime → List ℕ
shown_text at =
    stamp (unsigned_abs at.date.year) (ordinal at.date) at.time.hour at.time.minute at.time.second (at.time.subsec_nanosecond / 1_000)

-- the text of a day, given as a year and a day in it from 0, and the microseconds since its midnight
abbrev pub text_at : ℕ × ℕ → ℕ → List ℕ
text_at day micros =
    let seconds = micros / 1_000_000 in
    stamp day.0 (day.1 + 1) (seconds / 3600) (seconds / 60 % 60) (seconds % 60) (micros % 1_000_000)

-- the text of so many microseconds after 1900-01-01T00:00:00, up to the year 9100
abbrev pub text_since_1900 : ℕ → List ℕ
text_since_1900 micros =
    text_at (day_in_year 7200 1900 (micros / 86_400_000_000)) (micros % 86_400_000_000)

-- the microseconds from 1900-01-01T00:00:00Z to an instant that is not before it
abbrev pub since_1900 : ℤ → ℕ
since_1900 instant = unsigned_abs (instant +ℤ pos 2_208_988_800_000_000)

-- the text of the time so many microseconds after a start
abbrev pub day_text_of : ℤ → ℕ → List ℕ
day_text_of start time = text_since_1900 (since_1900 (start +ℤ pos time))

-- ---- worked cases

pub last_of_a_leap_year : day_text_of (pos 1_861_919_999_999_999) 0 ≡ codes "2028-366T23:59:59.999999"
unfolding day_in_year digits
last_of_a_leap_year = refl

pub next_microsecond : day_text_of (pos 1_861_919_999_999_999) 1 ≡ codes "2029-001T00:00:00.000000"
unfolding day_in_year digits
next_microsecond = refl

pub half_a_second_before_the_epoch : day_text_of (neg_ℤ (pos 500_000)) 0 ≡ codes "1969-365T23:59:59.500000"
unfolding day_in_year digits
half_a_second_before_the_epoch = refl

pub day_after_no_leap_day : day_text_of (pos 4_107_542_400_000_000) 0 ≡ codes "2100-060T00:00:00.000000"
unfolding day_in_year digits
day_after_no_leap_day = refl

pub first_of_all : day_text_of (neg_ℤ (pos 2_208_988_800_000_000)) 0 ≡ codes "1900-001T00:00:00.000000"
unfolding day_in_year digits
first_of_all = refl

pub last_of_all : day_text_of (pos 221_876_927_999_999_999) 0 ≡ codes "9000-365T23:59:59.999999"
unfolding day_in_year digits
last_of_all = refl

pub last_time_of_all : day_text_of (pos 221_876_927_999_999_999) 1_000_000_000_000_000 ≡ codes "9032-253T01:46:39.999999"
unfolding day_in_year digits
last_time_of_all = refl
