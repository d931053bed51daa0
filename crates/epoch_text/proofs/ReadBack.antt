-- The text of a time is a start's text too, and says the same instant, where its year is one of a start.
use Rattle.std.proofs.Common.{◌≡◌, ℕ, zero, suc, ◌+◌, ◌-◌, ◌*◌, ◌/◌, ◌%◌, ◌^◌, ◌<◌, ◌≤◌, List, [], ◌∷◌, ◌++◌, length, replicate, decimal, Bool, true, false, ◌&&◌, nat_eq, nat_le, nat_lt, Option, Some, option_map, option_and_then, codes, ℤ, pos, ◌+ℤ◌, ◌≤ℤ◌, ◌<ℤ◌, rules, refl, sym, ap, ◌∙◌, arith, add-zero}
use Rattle.std.specs.Char.{is_ascii_digit, digit_value}
use Rattle.std.specs.List.{list_all}
use Rattle.std.specs.Str.Parse.{digits_value, AllDigits}
use Rattle.std.proofs.lemmas.Int.{by_lt_z}
use Rattle.std.proofs.lemmas.Bool.Decides.{nat_tests}
use Rattle.std.proofs.lemmas.List.{length-append, length-replicate}
use Rattle.std.proofs.lemmas.List.Folds.{list_all-append}
use Rattle.std.proofs.lemmas.Fmt.{decimal_is_IsNumeral, length-decimal-le}
use Rattle.jiff.specs.Words.{days_in_year}
use Rattle.jiff.proofs.SpanFacts.{signed_arith}
use Rattle.jiff_core.specs.Calendar.{days_from_civil, IsCivilDate}
use Rattle.jiff_core.proofs.CalendarLemmas.{days_from_civil-day_count, day_count-lt_year, days_in_year_bounds}
use Rattle.epoch_text.proofs.Years.{far_day, first_day, last_day, next_year}
use Rattle.epoch_text.proofs.Texts.{not_negative}
use Rattle.epoch_text.specs.Clocks.{fraction_of, micros_of, seconds_at, seconds_of, without_zone}
use Rattle.epoch_text.specs.Dates.{day_by_year_day, day_of, is_between, is_start_year}
use Rattle.epoch_text.specs.DayTexts.{day_in_year, day_text_of, since_1900, stamp}
use Rattle.epoch_text.specs.Forms.{digits_in}
use Rattle.epoch_text.specs.Ranges.{IsStart}
use Rattle.epoch_text.specs.Starts.{micros_at, instant_of, start_of}

-- what `digits_in` writes: so many digits, which write the number
zero_digits : (n : ℕ) → list_all is_ascii_digit (replicate n 48) ≡ true
zero_digits zero = refl
zero_digits (suc n) = zero_digits n

digit_is : (byte : ℕ) → digit_value byte < 10 → is_ascii_digit byte ≡ true
digit_is byte h = grind (arith, nat_tests)

are_digits : (digits : List ℕ) → AllDigits 10 digits → list_all is_ascii_digit digits ≡ true
are_digits [] h = refl
are_digits (byte ∷ digits) h = rw (digit_is byte h.0, are_digits digits h.1) refl

written_length : (width number : ℕ) → 0 < width → number < 10 ^ width → number < 2 ^ 64 → length (digits_in width number) ≡ width
written_length width number some below small =
    omega (arith, length-append (replicate (width - length (decimal number)) 48) (decimal number), length-replicate {A = ℕ} (width - length (decimal number)) 48, length-decimal-le width number some below small)

pub written_digits : (width number : ℕ) → number < 2 ^ 64 → list_all is_ascii_digit (digits_in width number) ≡ true
written_digits width number small =
    list_all-append is_ascii_digit (replicate (width - length (decimal number)) 48) (decimal number)
    ∙ rw (zero_digits (width - length (decimal number)), are_digits (decimal number) ((decimal_is_IsNumeral number small).0.1)) refl

zeros_in_front : (n : ℕ) (digits : List ℕ) → digits_value 10 (replicate n 48 ++ digits) ≡ digits_value 10 digits
zeros_in_front zero digits = refl
zeros_in_front (suc n) digits = zeros_in_front n digits

written_value : (width number : ℕ) → number < 2 ^ 64 → digits_value 10 (digits_in width number) ≡ number
written_value width number small =
    zeros_in_front (width - length (decimal number)) (decimal number) ∙ (decimal_is_IsNumeral number small).1

-- a digit is no T, and stands where the form has 0
no_t : (byte : ℕ) → is_ascii_digit byte ≡ true → nat_eq byte 84 ≡ false
no_t byte e = grind (arith, nat_tests)

no_z : (byte : ℕ) → is_ascii_digit byte ≡ true → nat_eq byte 90 ≡ false
no_z byte e = grind (arith, nat_tests)

-- the fields as bytes
abbrev Two : List ℕ → Type 0
Two digits = (a : ℕ) × (b : ℕ) × (digits ≡ a ∷ b ∷ [])

two : (digits : List ℕ) → length digits ≡ 2 → Two digits
two [] h = absurd (omega arith)
two (a ∷ []) h = absurd (omega arith)
two (a ∷ b ∷ []) h = (a, b, refl)
two (a ∷ b ∷ c ∷ rest) h = absurd (omega arith)

abbrev Three : List ℕ → Type 0
Three digits = (a : ℕ) × (b : ℕ) × (c : ℕ) × (digits ≡ a ∷ b ∷ c ∷ [])

three : (digits : List ℕ) → length digits ≡ 3 → Three digits
three [] h = absurd (omega arith)
three (a ∷ []) h = absurd (omega arith)
three (a ∷ b ∷ []) h = absurd (omega arith)
three (a ∷ b ∷ c ∷ []) h = (a, b, c, refl)
three (a ∷ b ∷ c ∷ more ∷ rest) h = absurd (omega arith)

abbrev Four : List ℕ → Type 0
Four digits = (a : ℕ) × (b : ℕ) × (c : ℕ) × (d : ℕ) × (digits ≡ a ∷ b ∷ c ∷ d ∷ [])

four : (digits : List ℕ) → length digits ≡ 4 → Four digits
four [] h = absurd (omega arith)
four (a ∷ []) h = absurd (omega arith)
four (a ∷ b ∷ []) h = absurd (omega arith)
four (a ∷ b ∷ c ∷ []) h = absurd (omega arith)
four (a ∷ b ∷ c ∷ d ∷ []) h = (a, b, c, d, refl)
four (a ∷ b ∷ c ∷ d ∷ more ∷ rest) h = absurd (omega arith)

abbrev Six : List ℕ → Type 0
Six digits = (a : ℕ) × (b : ℕ) × (c : ℕ) × (d : ℕ) × (e : ℕ) × (f : ℕ) × (digits ≡ a ∷ b ∷ c ∷ d ∷ e ∷ f ∷ [])

six : (digits : List ℕ) → length digits ≡ 6 → Six digits
six [] h = absurd (omega arith)
six (a ∷ []) h = absurd (omega arith)
six (a ∷ b ∷ []) h = absurd (omega arith)
six (a ∷ b ∷ c ∷ []) h = absurd (omega arith)
six (a ∷ b ∷ c ∷ d ∷ []) h = absurd (omega arith)
six (a ∷ b ∷ c ∷ d ∷ e ∷ []) h = absurd (omega arith)
six (a ∷ b ∷ c ∷ d ∷ e ∷ f ∷ []) h = (a, b, c, d, e, f, refl)
six (a ∷ b ∷ c ∷ d ∷ e ∷ f ∷ more ∷ rest) h = absurd (omega arith)

-- a date by its day, whatever its digits are
date_reads : (y1 y2 y3 y4 p1 p2 p3 : ℕ) → is_ascii_digit y1 ≡ true → is_ascii_digit y2 ≡ true → is_ascii_digit y3 ≡ true → is_ascii_digit y4 ≡ true → is_ascii_digit p1 ≡ true → is_ascii_digit p2 ≡ true → is_ascii_digit p3 ≡ true →
    day_of (y1 ∷ y2 ∷ y3 ∷ y4 ∷ 45 ∷ p1 ∷ p2 ∷ p3 ∷ []) ≡ day_by_year_day (digits_value 10 (y1 ∷ y2 ∷ y3 ∷ y4 ∷ [])) (digits_value 10 (p1 ∷ p2 ∷ p3 ∷ []))
date_reads y1 y2 y3 y4 p1 p2 p3 dy1 dy2 dy3 dy4 dp1 dp2 dp3 = rw (dy1, dy2, dy3, dy4, dp1, dp2, dp3) refl

-- a time of day with six digits of its fraction
fraction_reads : (f1 f2 f3 f4 f5 f6 : ℕ) → is_ascii_digit f1 ≡ true → is_ascii_digit f2 ≡ true → is_ascii_digit f3 ≡ true → is_ascii_digit f4 ≡ true → is_ascii_digit f5 ≡ true → is_ascii_digit f6 ≡ true → fraction_of (without_zone (46 ∷ f1 ∷ f2 ∷ f3 ∷ f4 ∷ f5 ∷ f6 ∷ [])) ≡ Some (digits_value 10 (f1 ∷ f2 ∷ f3 ∷ f4 ∷ f5 ∷ f6 ∷ []))
fraction_reads f1 f2 f3 f4 f5 f6 df1 df2 df3 df4 df5 df6 = rw (no_z f6 df6, df1, df2, df3, df4, df5, df6) refl

seconds_read : (h1 h2 m1 m2 s1 s2 : ℕ) → is_ascii_digit h1 ≡ true → is_ascii_digit h2 ≡ true → is_ascii_digit m1 ≡ true → is_ascii_digit m2 ≡ true → is_ascii_digit s1 ≡ true → is_ascii_digit s2 ≡ true →
    seconds_of (h1 ∷ h2 ∷ 58 ∷ m1 ∷ m2 ∷ 58 ∷ s1 ∷ s2 ∷ []) ≡ seconds_at (digits_value 10 (h1 ∷ h2 ∷ [])) (digits_value 10 (m1 ∷ m2 ∷ [])) (digits_value 10 (s1 ∷ s2 ∷ []))
seconds_read h1 h2 m1 m2 s1 s2 dh1 dh2 dm1 dm2 ds1 ds2 = rw (dh1, dh2, dm1, dm2, ds1, ds2) refl

clock_reads : (h1 h2 m1 m2 s1 s2 f1 f2 f3 f4 f5 f6 : ℕ) → is_ascii_digit h1 ≡ true → is_ascii_digit h2 ≡ true → is_ascii_digit m1 ≡ true → is_ascii_digit m2 ≡ true → is_ascii_digit s1 ≡ true → is_ascii_digit s2 ≡ true → is_ascii_digit f1 ≡ true → is_ascii_digit f2 ≡ true → is_ascii_digit f3 ≡ true → is_ascii_digit f4 ≡ true → is_ascii_digit f5 ≡ true → is_ascii_digit f6 ≡ true →
    micros_of (h1 ∷ h2 ∷ 58 ∷ m1 ∷ m2 ∷ 58 ∷ s1 ∷ s2 ∷ 46 ∷ f1 ∷ f2 ∷ f3 ∷ f4 ∷ f5 ∷ f6 ∷ [])
    ≡ option_map (λ seconds. seconds * 1_000_000 + digits_value 10 (f1 ∷ f2 ∷ f3 ∷ f4 ∷ f5 ∷ f6 ∷ [])) (seconds_at (digits_value 10 (h1 ∷ h2 ∷ [])) (digits_value 10 (m1 ∷ m2 ∷ [])) (digits_value 10 (s1 ∷ s2 ∷ [])))
clock_reads h1 h2 m1 m2 s1 s2 f1 f2 f3 f4 f5 f6 dh1 dh2 dm1 dm2 ds1 ds2 df1 df2 df3 df4 df5 df6 = rw (fraction_reads f1 f2 f3 f4 f5 f6 df1 df2 df3 df4 df5 df6, seconds_read h1 h2 m1 m2 s1 s2 dh1 dh2 dm1 dm2 ds1 ds2) refl

long_enough : (n : ℕ) → nat_le 9 (suc (suc (suc (suc (suc (suc (suc (suc (suc n))))))))) ≡ true
long_enough n = grind (arith, nat_tests)

-- the first T stands behind the date
parts_read : (y1 y2 y3 y4 p1 p2 p3 : ℕ) (clock : List ℕ) → is_ascii_digit y1 ≡ true → is_ascii_digit y2 ≡ true → is_ascii_digit y3 ≡ true → is_ascii_digit y4 ≡ true → is_ascii_digit p1 ≡ true → is_ascii_digit p2 ≡ true → is_ascii_digit p3 ≡ true →
    start_of (y1 ∷ y2 ∷ y3 ∷ y4 ∷ 45 ∷ p1 ∷ p2 ∷ p3 ∷ 84 ∷ clock) ≡ instant_of (y1 ∷ y2 ∷ y3 ∷ y4 ∷ 45 ∷ p1 ∷ p2 ∷ p3 ∷ []) clock
parts_read y1 y2 y3 y4 p1 p2 p3 clock dy1 dy2 dy3 dy4 dp1 dp2 dp3 = rw (no_t y1 dy1, no_t y2 dy2, no_t y3 dy3, no_t y4 dy4, no_t p1 dp1, no_t p2 dp2, no_t p3 dp3, long_enough (length clock)) refl

-- what is counted off stays the same day
day_kept : (more year days : ℕ) → days_from_civil (pos (day_in_year more year days).0) 1 1 +ℤ pos (day_in_year more year days).1 ≡ days_from_civil (pos year) 1 1 +ℤ pos days
unfolding day_in_year
day_kept zero year days = refl
day_kept (suc more) year days =
    go (nat_lt days (days_in_year (pos year))) refl (day_kept more (year + 1) (days - days_in_year (pos year)))
  where
    go : (v : Bool) → nat_lt days (days_in_year (pos year)) ≡ v →
        days_from_civil (pos (day_in_year more (year + 1) (days - days_in_year (pos year))).0) 1 1 +ℤ pos (day_in_year more (year + 1) (days - days_in_year (pos year))).1
        ≡ days_from_civil (pos (year + 1)) 1 1 +ℤ pos (days - days_in_year (pos year)) →
        days_from_civil (pos (day_in_year (suc more) year days).0) 1 1 +ℤ pos (day_in_year (suc more) year days).1 ≡ days_from_civil (pos year) 1 1 +ℤ pos days
    go true t next = rw t refl
    go false t next =
        let whole : days_in_year (pos year) ≤ days = grind (arith, nat_tests) in
        rw t (omega (arith, signed_arith, next, next_year year))

-- the day lies in the year at which the counting stops, where it stops at all
in_its_year : (more year days last : ℕ) → year + more ≡ last → (days_from_civil (pos year) 1 1 +ℤ pos days) <ℤ days_from_civil (pos last) 1 1 →
    ((day_in_year more year days).1 < days_in_year (pos (day_in_year more year days).0)) × (year ≤ (day_in_year more year days).0)
unfolding day_in_year
in_its_year zero year days last e before =
    let same : days_from_civil (pos year) 1 1 ≡ days_from_civil (pos last) 1 1 = ap (λ n. days_from_civil (pos n) 1 1) (sym (add-zero year) ∙ e) in
    absurd (omega (arith, signed_arith, same, before))
in_its_year (suc more) year days last e before =
    go (nat_lt days (days_in_year (pos year))) refl
    (λ whole. in_its_year more (year + 1) (days - days_in_year (pos year)) last (omega arith) (omega (arith, signed_arith, next_year year, before)))
  where
    go : (v : Bool) → nat_lt days (days_in_year (pos year)) ≡ v →
        (days_in_year (pos year) ≤ days →
        ((day_in_year more (year + 1) (days - days_in_year (pos year))).1 < days_in_year (pos (day_in_year more (year + 1) (days - days_in_year (pos year))).0))
        × (year + 1 ≤ (day_in_year more (year + 1) (days - days_in_year (pos year))).0)) →
        ((day_in_year (suc more) year days).1 < days_in_year (pos (day_in_year (suc more) year days).0)) × (year ≤ (day_in_year (suc more) year days).0)
    go true t next =
        let within : days < days_in_year (pos year) = grind (arith, nat_tests) in
        rw t (within, omega arith)
    go false t next =
        let whole : days_in_year (pos year) ≤ days = grind (arith, nat_tests) in
        let rest = next whole in
        rw t (rest.0, omega (arith, rest.1))

-- a year that begins on a start's day is a start's year
year_high : (year : ℕ) → days_from_civil (pos year) 1 1 ≤ℤ pos 2_568_019 → year ≤ 9000
year_high year h =
    by_lt_z (pos 9000) (pos year)
    (λ lt. absurd (let last : IsCivilDate (pos 9000) 12 31 = search rules in
    omega (arith, signed_arith, days_from_civil-day_count (pos 9000) 12 31, days_from_civil-day_count (pos year) 1 1, last_day, day_count-lt_year (pos 9000) 12 31 (pos year) 1 1 last (omega arith) lt)))
    (λ le. omega (arith, signed_arith, le))

year_day_read : (year year_day : ℕ) → 1900 ≤ year → year ≤ 9000 → year_day < days_in_year (pos year) →
    day_by_year_day year (year_day + 1) ≡ Some (days_from_civil (pos year) 1 1 +ℤ pos (year_day + 1 - 1))
year_day_read year year_day low high within =
    let has : (is_start_year year && is_between 1 (days_in_year (pos year)) (year_day + 1)) ≡ true = grind (arith, nat_tests) in
    rw has refl

seconds_there : (hour minute second : ℕ) → hour ≤ 23 → minute ≤ 59 → second ≤ 59 → seconds_at hour minute second ≡ Some (hour * 3600 + minute * 60 + second)
seconds_there hour minute second a b c =
    let has : (is_between 0 23 hour && is_between 0 59 minute && is_between 0 59 second) ≡ true = grind (arith, nat_tests) in
    rw has refl

-- the start of a day by its day and a time of day with its fraction
abbrev start_by_year_day : ℕ → ℕ → ℕ → ℕ → ℕ → ℕ → Option ℤ
start_by_year_day year year_day hour minute second micros =
    option_and_then
    (λ day. option_map (λ clock. micros_at day clock) (option_map (λ seconds. seconds * 1_000_000 + micros) (seconds_at hour minute second)))
    (day_by_year_day year year_day)

bytes_read : (y1 y2 y3 y4 p1 p2 p3 h1 h2 m1 m2 s1 s2 f1 f2 f3 f4 f5 f6 : ℕ) → is_ascii_digit y1 ≡ true → is_ascii_digit y2 ≡ true → is_ascii_digit y3 ≡ true → is_ascii_digit y4 ≡ true → is_ascii_digit p1 ≡ true → is_ascii_digit p2 ≡ true → is_ascii_digit p3 ≡ true → is_ascii_digit h1 ≡ true → is_ascii_digit h2 ≡ true → is_ascii_digit m1 ≡ true → is_ascii_digit m2 ≡ true → is_ascii_digit s1 ≡ true → is_ascii_digit s2 ≡ true → is_ascii_digit f1 ≡ true → is_ascii_digit f2 ≡ true → is_ascii_digit f3 ≡ true → is_ascii_digit f4 ≡ true → is_ascii_digit f5 ≡ true → is_ascii_digit f6 ≡ true →
    start_of (y1 ∷ y2 ∷ y3 ∷ y4 ∷ 45 ∷ p1 ∷ p2 ∷ p3 ∷ 84 ∷ h1 ∷ h2 ∷ 58 ∷ m1 ∷ m2 ∷ 58 ∷ s1 ∷ s2 ∷ 46 ∷ f1 ∷ f2 ∷ f3 ∷ f4 ∷ f5 ∷ f6 ∷ [])
    ≡ start_by_year_day (digits_value 10 (y1 ∷ y2 ∷ y3 ∷ y4 ∷ [])) (digits_value 10 (p1 ∷ p2 ∷ p3 ∷ [])) (digits_value 10 (h1 ∷ h2 ∷ [])) (digits_value 10 (m1 ∷ m2 ∷ [])) (digits_value 10 (s1 ∷ s2 ∷ [])) (digits_value 10 (f1 ∷ f2 ∷ f3 ∷ f4 ∷ f5 ∷ f6 ∷ []))
bytes_read y1 y2 y3 y4 p1 p2 p3 h1 h2 m1 m2 s1 s2 f1 f2 f3 f4 f5 f6 dy1 dy2 dy3 dy4 dp1 dp2 dp3 dh1 dh2 dm1 dm2 ds1 ds2 df1 df2 df3 df4 df5 df6 =
    parts_read y1 y2 y3 y4 p1 p2 p3 (h1 ∷ h2 ∷ 58 ∷ m1 ∷ m2 ∷ 58 ∷ s1 ∷ s2 ∷ 46 ∷ f1 ∷ f2 ∷ f3 ∷ f4 ∷ f5 ∷ f6 ∷ []) dy1 dy2 dy3 dy4 dp1 dp2 dp3
    ∙ rw (date_reads y1 y2 y3 y4 p1 p2 p3 dy1 dy2 dy3 dy4 dp1 dp2 dp3, clock_reads h1 h2 m1 m2 s1 s2 f1 f2 f3 f4 f5 f6 dh1 dh2 dm1 dm2 ds1 ds2 df1 df2 df3 df4 df5 df6) refl

first_digit : (byte : ℕ) (rest : List ℕ) → list_all is_ascii_digit (byte ∷ rest) ≡ true → is_ascii_digit byte ≡ true
first_digit byte rest e = grind (arith, nat_tests)

more_digits : (byte : ℕ) (rest : List ℕ) → list_all is_ascii_digit (byte ∷ rest) ≡ true → list_all is_ascii_digit rest ≡ true
more_digits byte rest e = grind (arith, nat_tests)

fields_read : (ys ps hs ms ss fs : List ℕ) → length ys ≡ 4 → length ps ≡ 3 → length hs ≡ 2 → length ms ≡ 2 → length ss ≡ 2 → length fs ≡ 6 → list_all is_ascii_digit ys ≡ true → list_all is_ascii_digit ps ≡ true → list_all is_ascii_digit hs ≡ true → list_all is_ascii_digit ms ≡ true → list_all is_ascii_digit ss ≡ true → list_all is_ascii_digit fs ≡ true →
    start_of (ys ++ codes "-" ++ ps ++ codes "T" ++ hs ++ codes ":" ++ ms ++ codes ":" ++ ss ++ codes "." ++ fs)
    ≡ start_by_year_day (digits_value 10 ys) (digits_value 10 ps) (digits_value 10 hs) (digits_value 10 ms) (digits_value 10 ss) (digits_value 10 fs)
fields_read ys ps hs ms ss fs lys lps lhs lms lss lfs dys dps dhs dms dss dfs =
    let y = four ys lys in
    let ey0 = rw y.4 at dys in
    let ey1 = more_digits y.0 (y.1 ∷ y.2 ∷ y.3 ∷ []) ey0 in
    let ey2 = more_digits y.1 (y.2 ∷ y.3 ∷ []) ey1 in
    let ey3 = more_digits y.2 (y.3 ∷ []) ey2 in
    let p = three ps lps in
    let ep0 = rw p.3 at dps in
    let ep1 = more_digits p.0 (p.1 ∷ p.2 ∷ []) ep0 in
    let ep2 = more_digits p.1 (p.2 ∷ []) ep1 in
    let h = two hs lhs in
    let eh0 = rw h.2 at dhs in
    let eh1 = more_digits h.0 (h.1 ∷ []) eh0 in
    let m = two ms lms in
    let em0 = rw m.2 at dms in
    let em1 = more_digits m.0 (m.1 ∷ []) em0 in
    let s = two ss lss in
    let es0 = rw s.2 at dss in
    let es1 = more_digits s.0 (s.1 ∷ []) es0 in
    let f = six fs lfs in
    let ef0 = rw f.6 at dfs in
    let ef1 = more_digits f.0 (f.1 ∷ f.2 ∷ f.3 ∷ f.4 ∷ f.5 ∷ []) ef0 in
    let ef2 = more_digits f.1 (f.2 ∷ f.3 ∷ f.4 ∷ f.5 ∷ []) ef1 in
    let ef3 = more_digits f.2 (f.3 ∷ f.4 ∷ f.5 ∷ []) ef2 in
    let ef4 = more_digits f.3 (f.4 ∷ f.5 ∷ []) ef3 in
    let ef5 = more_digits f.4 (f.5 ∷ []) ef4 in
    rw (y.4, p.3, h.2, m.2, s.2, f.6)
    (bytes_read y.0 y.1 y.2 y.3 p.0 p.1 p.2 h.0 h.1 m.0 m.1 s.0 s.1 f.0 f.1 f.2 f.3 f.4 f.5
    (first_digit y.0 (y.1 ∷ y.2 ∷ y.3 ∷ []) ey0)
    (first_digit y.1 (y.2 ∷ y.3 ∷ []) ey1)
    (first_digit y.2 (y.3 ∷ []) ey2)
    (first_digit y.3 ([]) ey3)
    (first_digit p.0 (p.1 ∷ p.2 ∷ []) ep0)
    (first_digit p.1 (p.2 ∷ []) ep1)
    (first_digit p.2 ([]) ep2)
    (first_digit h.0 (h.1 ∷ []) eh0)
    (first_digit h.1 ([]) eh1)
    (first_digit m.0 (m.1 ∷ []) em0)
    (first_digit m.1 ([]) em1)
    (first_digit s.0 (s.1 ∷ []) es0)
    (first_digit s.1 ([]) es1)
    (first_digit f.0 (f.1 ∷ f.2 ∷ f.3 ∷ f.4 ∷ f.5 ∷ []) ef0)
    (first_digit f.1 (f.2 ∷ f.3 ∷ f.4 ∷ f.5 ∷ []) ef1)
    (first_digit f.2 (f.3 ∷ f.4 ∷ f.5 ∷ []) ef2)
    (first_digit f.3 (f.4 ∷ f.5 ∷ []) ef3)
    (first_digit f.4 (f.5 ∷ []) ef4)
    (first_digit f.5 ([]) ef5))

-- a text of such fields is that of the start that they say
reads_stamp : (year year_day hour minute second micros : ℕ) → year < 10_000 → year_day < 1_000 → hour < 100 → minute < 100 → second < 100 → micros < 1_000_000 →
    start_of (stamp year year_day hour minute second micros) ≡ start_by_year_day year year_day hour minute second micros
reads_stamp year year_day hour minute second micros ky bp bh bm bs bf =
    let small : (n : ℕ) → n < 1_000_000 → n < 2 ^ 64 = λ n h. omega arith in
    let sy = small year (omega arith) in
    let sp = small year_day (omega arith) in
    let sh = small hour (omega arith) in
    let sm = small minute (omega arith) in
    let ss = small second (omega arith) in
    let sf = small micros bf in
    fields_read (digits_in 4 year) (digits_in 3 year_day) (digits_in 2 hour) (digits_in 2 minute) (digits_in 2 second) (digits_in 6 micros)
    (written_length 4 year (omega arith) ky sy) (written_length 3 year_day (omega arith) bp sp) (written_length 2 hour (omega arith) bh sh)
    (written_length 2 minute (omega arith) bm sm) (written_length 2 second (omega arith) bs ss) (written_length 6 micros (omega arith) bf sf)
    (written_digits 4 year sy) (written_digits 3 year_day sp) (written_digits 2 hour sh) (written_digits 2 minute sm) (written_digits 2 second ss) (written_digits 6 micros sf)
    ∙ rw (written_value 4 year sy, written_value 3 year_day sp, written_value 2 hour sh, written_value 2 minute sm, written_value 2 second ss, written_value 6 micros sf) refl

-- the fields of an instant say it
same_instant : (year year_day micros : ℕ) (instant : ℤ) → pos micros ≡ instant +ℤ pos 2_208_988_800_000_000 →
    days_from_civil (pos year) 1 1 +ℤ pos year_day ≡ days_from_civil (pos 1900) 1 1 +ℤ pos (micros / 86_400_000_000) →
    micros_at (days_from_civil (pos year) 1 1 +ℤ pos (year_day + 1 - 1))
    ((micros % 86_400_000_000 / 1_000_000 / 3600 * 3600 + micros % 86_400_000_000 / 1_000_000 / 60 % 60 * 60 + micros % 86_400_000_000 / 1_000_000 % 60) * 1_000_000
    + micros % 86_400_000_000 % 1_000_000)
    ≡ instant
same_instant year year_day micros instant e d = omega (arith, signed_arith, first_day)

-- so no two instants of a start's years have one text, and each text is the right one
pub read_back : (start : ℤ) (time : ℕ) → IsStart (start +ℤ pos time) → start_of (day_text_of start time) ≡ Some (start +ℤ pos time)
read_back start time range =
    let instant : ℤ = start +ℤ pos time in
    let micros : ℕ = since_1900 instant in
    let count : pos micros ≡ instant +ℤ pos 2_208_988_800_000_000 = not_negative (instant +ℤ pos 2_208_988_800_000_000) (omega (arith, signed_arith, range.0)) in
    let days : ℕ = micros / 86_400_000_000 in
    let clock : ℕ = micros % 86_400_000_000 in
    let seconds : ℕ = clock / 1_000_000 in
    let day = day_in_year 7200 1900 days in
    let kept = day_kept 7200 1900 days in
    let high : days ≤ 2_593_586 = omega (arith, signed_arith, count, range.1) in
    let before : (days_from_civil (pos 1900) 1 1 +ℤ pos days) <ℤ days_from_civil (pos 9100) 1 1 = omega (arith, signed_arith, first_day, far_day) in
    let inside = in_its_year 7200 1900 days 9100 refl before in
    let year = year_high day.0 (omega (arith, signed_arith, kept, first_day)) in
    let year_day = year_day_read day.0 day.1 inside.1 year inside.0 in
    let long = days_in_year_bounds (pos day.0) in
    reads_stamp day.0 (day.1 + 1) (seconds / 3600) (seconds / 60 % 60) (seconds % 60) (clock % 1_000_000)
    (omega arith) (omega (arith, long, inside.0)) (omega arith) (omega arith) (omega arith) (omega arith)
    ∙ rw (year_day, seconds_there (seconds / 3600) (seconds / 60 % 60) (seconds % 60) (omega arith) (omega arith) (omega arith))
    (ap Some (same_instant day.0 day.1 micros instant count kept))
