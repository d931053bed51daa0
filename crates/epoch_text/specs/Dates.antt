-- The text of a date, by month as "2028-12-31" or by its day of the year as "2028-366", and the day that it says.
use Rattle.std.specs.Prelude.{ℕ, ◌-◌, nat_le, ◌&&◌, List, Bool, Option, Some, None, if◌then◌else◌, codes, ℤ, pos, ◌+ℤ◌}
use Rattle.jiff.specs.Words.{days_in_month, days_in_year}
use Rattle.jiff_core.specs.Calendar.{days_from_civil}
use Rattle.epoch_text.specs.Forms.{has_form, written_number}

-- whether a number lies from the first to the last, both included
abbrev pub is_between : ℕ → ℕ → ℕ → Bool
is_between low high number = nat_le low number && nat_le number high

-- the years of a start
abbrev pub is_start_year : ℕ → Bool
is_start_year year = is_between 1900 9000 year

-- the day of the Gregorian calendar with this year, month and day, as its distance in days from 1970-01-01, where the
-- calendar has it and the year may be a start's
abbrev pub day_by_month : ℕ → ℕ → ℕ → Option ℤ
day_by_month year month day =
    if is_start_year year && is_between 1 12 month && is_between 1 (days_in_month (pos year) month) day
    then Some (days_from_civil (pos year) month day)
    else None

-- the same of the day with this number in its year, where 1 January has number 1
abbrev pub day_by_year_day : ℕ → ℕ → Option ℤ
day_by_year_day year year_day =
    if is_start_year year && is_between 1 (days_in_year (pos year)) year_day
    then Some (days_from_civil (pos year) 1 1 +ℤ pos (year_day - 1))
    else None

-- the day that the text of a date says, where it says one
abbrev pub day_of : List ℕ → Option ℤ
day_of date =
    if has_form date (codes "0000-00-00") then day_by_month (written_number 0 4 date) (written_number 5 2 date) (written_number 8 2 date)
    else if has_form date (codes "0000-000") then day_by_year_day (written_number 0 4 date) (written_number 5 3 date)
    else None
