-- The year of a day, and its day in that.
use Rattle.std.proofs.Common.{◌≡◌, ℕ, zero, suc, ◌+◌, ◌-◌, ◌<◌, ◌≤◌, Bool, true, false, nat_lt, ℤ, pos, neg_ℤ, unsigned_abs, ◌+ℤ◌, ◌≤ℤ◌, ◌<ℤ◌, refl, ap, arith, rules, IfSome, ◌&&◌}
use Rattle.std.proofs.lemmas.Int.{by_lt_z}
use Rattle.std.proofs.lemmas.Bool.Decides.{nat_tests}
use Rattle.jiff.specs.Words.{days_in_month, IsYear, days_in_year, epoch_day, ordinal}
use Rattle.jiff.proofs.SpanFacts.{signed_arith}
use Rattle.jiff_core.specs.declared.civil.date.Date.{Date}
use Rattle.jiff_core.specs.Calendar.{days_from_civil, day_count, days_of_years, days_of_months, IsCivilDate}
use Rattle.jiff_core.proofs.CalendarLemmas.{days_from_civil-day_count, day_count-lt_year, day_count-next_year, day_count-later_year, day_count-year_is, days_in_year_bounds}
use Rattle.jiff_core.proofs.DateLemmas.{civil, epoch_day-ordinal}
use Rattle.epoch_text.specs.Dates.{day_by_month, day_by_year_day, is_between, is_start_year}
use Rattle.epoch_text.specs.Ranges.{IsStartDay}
use Rattle.epoch_text.specs.DayTexts.{day_in_year}

pub first_day : days_from_civil (pos 1900) 1 1 ≡ neg_ℤ (pos 25_567)
unfolding days_from_civil day_count days_of_years days_of_months
first_day = refl

pub day_before : days_from_civil (pos 1899) 12 31 ≡ neg_ℤ (pos 25_568)
unfolding days_from_civil day_count days_of_years days_of_months
day_before = refl

pub day_after : days_from_civil (pos 9001) 1 1 ≡ pos 2_568_020
unfolding days_from_civil day_count days_of_years days_of_months
day_after = refl

pub last_day : days_from_civil (pos 9000) 12 31 ≡ pos 2_568_019
unfolding days_from_civil day_count days_of_years days_of_months
last_day = refl

pub far_day : days_from_civil (pos 9100) 1 1 ≡ pos 2_604_179
unfolding days_from_civil day_count days_of_years days_of_months
far_day = refl

long_after : days_from_civil (pos 9099) 12 31 ≡ pos 2_604_178
unfolding days_from_civil day_count days_of_years days_of_months
long_after = refl

-- the days of a start's years lie in the range of its days
pub civil_in_range : (y : ℤ) (m d : ℕ) → IsCivilDate y m d → pos 1900 ≤ℤ y → y ≤ℤ pos 9000 → IsStartDay (days_from_civil y m d)
civil_in_range y m d date low high =
    let first : IsCivilDate (pos 1899) 12 31 = search rules in
    let before = day_count-lt_year (pos 1899) 12 31 y m d first date.2.0 (omega (arith, signed_arith)) in
    let after = day_count-lt_year y m d (pos 9001) 1 1 date (omega arith) (omega (arith, signed_arith)) in (
      omega (arith, signed_arith, days_from_civil-day_count y m d, days_from_civil-day_count (pos 1899) 12 31, day_before, before),
      omega (arith, signed_arith, days_from_civil-day_count y m d, days_from_civil-day_count (pos 9001) 1 1, day_after, after),
    )

pub year_day_in_range : (year year_day : ℕ) → 1900 ≤ year → year ≤ 9000 → year_day ≤ days_in_year (pos year) →
    IsStartDay (days_from_civil (pos year) 1 1 +ℤ pos (year_day - 1))
year_day_in_range year year_day low high last =
    let year_low : pos 1900 ≤ℤ pos year = omega (arith, signed_arith) in
    let year_high : pos year ≤ℤ pos 9000 = omega (arith, signed_arith) in
    let some : 365 ≤ days_in_year (pos year) = omega (arith, days_in_year_bounds (pos year)) in
    let date : IsCivilDate (pos year) 1 1 = ((omega (arith, signed_arith), omega (arith, signed_arith)), search rules, search rules) in
    let first = civil_in_range (pos year) 1 1 date year_low year_high in
    let after = day_count-later_year (pos year) (pos 9001) (omega (arith, signed_arith)) (omega (arith, signed_arith)) in (
      omega (arith, signed_arith, first.0),
      omega (arith, signed_arith, days_from_civil-day_count (pos year) 1 1, days_from_civil-day_count (pos 9001) 1 1, day_after, after, some),
    )

abbrev has_month_day : ℕ → ℕ → ℕ → Bool
has_month_day year month day = is_start_year year && is_between 1 12 month && is_between 1 (days_in_month (pos year) month) day

month_day : (year month day : ℕ) → has_month_day year month day ≡ true →
    (1900 ≤ year) × (year ≤ 9000) × (1 ≤ month) × (month ≤ 12) × (1 ≤ day) × (day ≤ days_in_month (pos year) month)
month_day year month day e =
    (grind (arith, nat_tests), grind (arith, nat_tests), grind (arith, nat_tests), grind (arith, nat_tests), grind (arith, nat_tests), grind (arith, nat_tests))

pub by_month_in_range : (year month day : ℕ) → IfSome (day_by_month year month day) IsStartDay
by_month_in_range year month day = go (has_month_day year month day) refl
  where
    go : (v : Bool) → has_month_day year month day ≡ v → IfSome (day_by_month year month day) IsStartDay
    go true e =
        let h = month_day year month day e in
        let in_year : IsYear (pos year) = (omega (arith, signed_arith), omega (arith, signed_arith)) in
        let date : IsCivilDate (pos year) month day = (in_year, (h.2, h.3), (h.4, h.5)) in
        rw e (civil_in_range (pos year) month day date (omega (arith, signed_arith)) (omega (arith, signed_arith)))
    go false e = rw e tt

abbrev has_year_day : ℕ → ℕ → Bool
has_year_day year year_day = is_start_year year && is_between 1 (days_in_year (pos year)) year_day

year_day_goes : (year year_day : ℕ) → has_year_day year year_day ≡ true → (1900 ≤ year) × (year ≤ 9000) × (year_day ≤ days_in_year (pos year))
year_day_goes year year_day e = (grind (arith, nat_tests), grind (arith, nat_tests), grind (arith, nat_tests))

pub by_year_day_in_range : (year year_day : ℕ) → IfSome (day_by_year_day year year_day) IsStartDay
by_year_day_in_range year year_day = go (has_year_day year year_day) refl
  where
    go : (v : Bool) → has_year_day year year_day ≡ v → IfSome (day_by_year_day year year_day) IsStartDay
    go true e = let h = year_day_goes year year_day e in rw e (year_day_in_range year year_day h.0 h.1 h.2)
    go false e = rw e tt

-- the years of the days that may be shown
pub year_of_shown : (date : Date) → neg_ℤ (pos 25_567) ≤ℤ epoch_day date → epoch_day date ≤ℤ pos 2_579_594 →
    (pos 1900 ≤ℤ date.year) × (date.year <ℤ pos 9100)
year_of_shown date low high = (
  by_lt_z date.year (pos 1900)
      (λ lt. absurd (omega (
        arith,
        signed_arith,
        days_from_civil-day_count date.year date.month date.day,
        days_from_civil-day_count (pos 1900) 1 1,
        first_day,
        day_count-lt_year date.year date.month date.day (pos 1900) 1 1 (civil date) (omega arith) lt,
      )))
      (λ le. le),
  by_lt_z (pos 9099) date.year
      (λ lt. absurd (let last : IsCivilDate (pos 9099) 12 31 = search rules in
      omega (
        arith,
        signed_arith,
        days_from_civil-day_count date.year date.month date.day,
        days_from_civil-day_count (pos 9099) 12 31,
        long_after,
        day_count-lt_year (pos 9099) 12 31 date.year date.month date.day last date.day_in.0 lt,
      )))
      (λ le. omega (arith, signed_arith)),
)

-- the day after so many whole years
pub next_year : (year : ℕ) → days_from_civil (pos (year + 1)) 1 1 ≡ days_from_civil (pos year) 1 1 +ℤ pos (days_in_year (pos year))
next_year year =
    omega (
      arith,
      signed_arith,
      days_from_civil-day_count (pos year) 1 1,
      days_from_civil-day_count (pos (year + 1)) 1 1,
      day_count-next_year (pos year) (pos (year + 1)) (omega (arith, signed_arith)) (omega (arith, signed_arith)),
    )

-- a day within the year that begins so many days before it is of that year
same_year : (date : Date) (year days : ℕ) → year ≤ 9999 → days_from_civil (pos year) 1 1 +ℤ pos days ≡ epoch_day date →
    days < days_in_year (pos year) → date.year ≡ pos year
same_year date year days last e within =
    let here = days_from_civil-day_count date.year date.month date.day in
    let first = days_from_civil-day_count (pos year) 1 1 in
    let in_year : IsYear (pos year) = (omega (arith, signed_arith), omega (arith, signed_arith)) in
    day_count-year_is (pos year) date.year date.month date.day in_year (civil date)
    (omega (arith, signed_arith, here, first)) (omega (arith, signed_arith, here, first))

its_year_day : (date : Date) (year days : ℕ) → days_from_civil (pos year) 1 1 +ℤ pos days ≡ epoch_day date → date.year ≡ pos year → ordinal date ≡ days + 1
its_year_day date year days e same =
    let first : days_from_civil date.year 1 1 ≡ days_from_civil (pos year) 1 1 = ap (λ z. days_from_civil z 1 1) same in
    omega (arith, signed_arith, epoch_day-ordinal date, first)

not_before : (date : Date) (year days : ℕ) → days_from_civil (pos year) 1 1 +ℤ pos days ≡ epoch_day date → pos year ≤ℤ date.year
not_before date year days e =
    by_lt_z date.year (pos year)
    (λ lt. absurd (omega (
      arith,
      signed_arith,
      days_from_civil-day_count date.year date.month date.day,
      days_from_civil-day_count (pos year) 1 1,
      day_count-lt_year date.year date.month date.day (pos year) 1 1 (civil date) (omega arith) lt,
    )))
    (λ le. le)

-- taking off whole years ends at the date's own year and its day there
pub day_in_year_is : (more year days : ℕ) (date : Date) → year + more ≤ 9999 → days_from_civil (pos year) 1 1 +ℤ pos days ≡ epoch_day date →
    date.year <ℤ pos (year + more) → day_in_year more year days ≡ (unsigned_abs date.year, ordinal date - 1)
unfolding day_in_year
day_in_year_is zero year days date last e before =
    absurd (omega (arith, signed_arith, not_before date year days e))
day_in_year_is (suc more) year days date last e before =
    go (nat_lt days (days_in_year (pos year))) refl
    (λ whole. day_in_year_is more (year + 1) (days - days_in_year (pos year)) date (omega arith) (omega (arith, signed_arith, next_year year, e)) (omega (arith, signed_arith)))
  where
    go : (v : Bool) → nat_lt days (days_in_year (pos year)) ≡ v →
        (days_in_year (pos year) ≤ days → day_in_year more (year + 1) (days - days_in_year (pos year)) ≡ (unsigned_abs date.year, ordinal date - 1)) →
        day_in_year (suc more) year days ≡ (unsigned_abs date.year, ordinal date - 1)
    go true t next =
        let within : days < days_in_year (pos year) = grind (arith, nat_tests) in
        let same = same_year date year days (omega arith) e within in
        let year_day : ordinal date - 1 ≡ days = omega (arith, its_year_day date year days e same) in
        let number : unsigned_abs date.year ≡ year = ap unsigned_abs same in
        rw (t, number, year_day) refl
    go false t next =
        let whole : days_in_year (pos year) ≤ days = grind (arith, nat_tests) in
        rw t (next whole)

-- counted from 1900
pub since_1900_is : (days : ℕ) (date : Date) → epoch_day date +ℤ pos 25_567 ≡ pos days → epoch_day date ≤ℤ pos 2_579_594 →
    day_in_year 7200 1900 days ≡ (unsigned_abs date.year, ordinal date - 1)
since_1900_is days date e high =
    let years = year_of_shown date (omega (arith, signed_arith)) high in
    day_in_year_is 7200 1900 days date (omega arith) (omega (arith, signed_arith, first_day)) years.1
