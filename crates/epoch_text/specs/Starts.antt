-- The text of a start, as "2028-12-31T23:59:59.999999Z" or "2028-366T23:59:59", and the instant that it says.
use Rattle.std.specs.Prelude.{◌≡◌, ℕ, ◌+◌, nat_eq, List, [], ◌∷◌, map, take, drop, replicate, position, Option, Some, None, option_and_then, option_map, codes, ℤ, pos, neg_ℤ, ◌+ℤ◌, ◌*ℤ◌, refl}
use Rattle.jiff_core.specs.Calendar.{days_from_civil, day_count, days_of_years, days_of_months}
use Rattle.epoch_text.specs.Dates.{day_of}
use Rattle.epoch_text.specs.Clocks.{micros_of}

-- the microseconds of a day: there are no leap seconds
abbrev pub day_micros : ℕ
day_micros = 86_400_000_000

-- the microseconds from 1970-01-01T00:00:00Z to so many microseconds after the midnight that begins a day
abbrev pub micros_at : ℤ → ℕ → ℤ
micros_at day micros = day *ℤ pos day_micros +ℤ pos micros

-- the instant of a date and a time of day, where each is one
abbrev pub instant_of : List ℕ → List ℕ → Option ℤ
instant_of date clock = option_and_then (λ day. option_map (λ micros. micros_at day micros) (micros_of clock)) (day_of date)

-- the start that a text is, where it is one: a date, `T` and a time of day. It is seen as its microseconds from
-- 1970-01-01T00:00:00Z, and a date before that is negative
abbrev pub start_of : List ℕ → Option ℤ
start_of text = option_and_then (λ t_at. instant_of (take t_at text) (drop (t_at + 1) text)) (position (λ byte. nat_eq byte 84) text)

-- ---- worked cases

-- texts, and the start that each of them is
abbrev pub worked_starts : List (List ℕ × Option ℤ)
worked_starts =
    (codes "1970-01-01T00:00:00Z", Some (pos 0)) ∷  -- epoch
    (codes "2028-12-31T23:59:59.999999Z", Some (pos 1_861_919_999_999_999)) ∷  -- last of a leap year
    (codes "2028-366T23:59:59.999999Z", Some (pos 1_861_919_999_999_999)) ∷  -- by the day of the year
    (codes "2029-001T00:00:00", Some (pos 1_861_920_000_000_000)) ∷  -- without its fraction and zone
    (codes "1969-12-31T23:59:59.5", Some (neg_ℤ (pos 500_000))) ∷  -- half a second before the epoch
    (codes "2000-02-29T00:00:00", Some (pos 951_782_400_000_000)) ∷  -- leap day of a fourth century
    (codes "1900-01-01T00:00:00", Some (neg_ℤ (pos 2_208_988_800_000_000))) ∷  -- first of all
    (codes "9000-365T23:59:59.999999Z", Some (pos 221_876_927_999_999_999)) ∷  -- last of all
    []

pub starts_as_worked : map (λ row. start_of row.0) worked_starts ≡ map (λ row. row.1) worked_starts
unfolding days_from_civil day_count days_of_years days_of_months
starts_as_worked = refl

-- texts that are no start
abbrev pub no_starts : List (List ℕ)
no_starts =
    -- the calendar has no such day
    codes "2030-02-30T00:00:00Z" ∷
    codes "2030-02-29T00:00:00" ∷
    codes "1900-02-29T00:00:00" ∷
    codes "2030-04-31T00:00:00" ∷
    codes "2030-00-10T00:00:00" ∷
    codes "2030-13-10T00:00:00" ∷
    codes "2030-01-00T00:00:00" ∷
    codes "2030-01-32T00:00:00" ∷
    codes "2030-366T00:00:00" ∷
    codes "2028-367T00:00:00" ∷
    codes "2030-000T00:00:00" ∷
    -- a day has no such time
    codes "2030-01-01T24:00:00" ∷
    codes "2030-01-01T23:60:00" ∷
    codes "2030-12-31T23:59:60" ∷
    -- the year is no start's
    codes "1899-12-31T23:59:59.999999" ∷
    codes "9001-001T00:00:00" ∷
    -- a field is a digit short
    codes "202-12-31T23:59:59" ∷
    codes "2028-2-31T23:59:59" ∷
    codes "2028-12-1T23:59:59" ∷
    codes "2028-36T23:59:59" ∷
    codes "2028-12-31T3:59:59" ∷
    codes "2028-12-31T23:9:59" ∷
    codes "2028-12-31T23:59:9" ∷
    codes "2028-12-31T23:59:59." ∷
    -- a field has a digit more
    codes "12028-12-31T23:59:59" ∷
    codes "2028-012-31T23:59:59" ∷
    codes "2028-12-031T23:59:59" ∷
    codes "2028-0366T23:59:59" ∷
    codes "2028-12-31T023:59:59" ∷
    codes "2028-12-31T23:059:59" ∷
    codes "2028-12-31T23:59:059" ∷
    codes "2028-12-31T23:59:59.9999999" ∷
    -- another sign stands where the form has its own, or one more at the end
    codes "" ∷
    codes "2028-12-31" ∷
    codes "2028/12/31T23:59:59" ∷
    codes "2028-12-31 23:59:59" ∷
    codes "2028-12-31t23:59:59" ∷
    codes "2028-12-31T23.59.59" ∷
    codes "2028-12-31T23:59:59,5" ∷
    codes "2028-12-31T23:59:59z" ∷
    codes "2028-12-31T23:59:59ZZ" ∷
    codes "2028-12-31T23:59:59Z.5" ∷
    codes "2028-12-31T23:59:59+00:00" ∷
    codes "2028-12-31T23:59:59 " ∷
    codes "+2028-12-31T23:59:59" ∷
    codes "2028-1a-31T23:59:59" ∷
    []

pub no_starts_as_worked : map start_of no_starts ≡ replicate 46 None
unfolding days_from_civil day_count days_of_years days_of_months
no_starts_as_worked = refl
