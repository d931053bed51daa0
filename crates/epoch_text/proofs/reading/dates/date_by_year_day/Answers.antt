-- The calendar has the day exactly where it lies in the year.
use Rattle.std.proofs.Common.{◌≡◌, ℕ, ◌≤◌, ◌-◌, Bool, true, false, ◌&&◌, Some, None, Result, Ok, Err, ℤ, pos, ◌+ℤ◌, option_map, IfOk, refl, sym, ap, arith, ◌∙◌}
use mir.Syntax.{w16}
use Rattle.std.proofs.lemmas.Int.{to_z_pos}
use Rattle.std.specs.Result.{result_ok}
use Rattle.std.proofs.lemmas.Bool.Decides.{nat_tests}
use Rattle.jiff.specs.With.{FromOrdinal}
use Rattle.jiff.specs.Words.{Error, epoch_day, ordinal, days_in_year, IsYear, IsBetween, IsYmd}
use Rattle.jiff.proofs.SpanFacts.{signed_arith}
use Rattle.jiff_core.specs.declared.civil.date.Date.{Date}
use Rattle.jiff_core.specs.Calendar.{days_from_civil}
use Rattle.jiff_core.proofs.DateLemmas.{epoch_day-ordinal}
use Rattle.epoch_text.specs.Dates.{day_by_year_day, is_between, is_start_year}
use Rattle.epoch_text.proofs.reading.dates.date_by_year_day.Goals as goal

abbrev has_day : ℕ → ℕ → Bool
has_day year year_day = is_start_year year && is_between 1 (days_in_year (pos year)) year_day

taken : (year year_day : ℕ) → has_day year year_day ≡ true → day_by_year_day year year_day ≡ Some (days_from_civil (pos year) 1 1 +ℤ pos (year_day - 1))
taken year year_day e = rw e refl

refused : (year year_day : ℕ) → has_day year year_day ≡ false → day_by_year_day year year_day ≡ None
refused year year_day e = rw e refl

inside : (year year_day : ℕ) → 1900 ≤ year → year ≤ 9000 → 1 ≤ year_day → year_day ≤ days_in_year (pos year) → has_day year year_day ≡ true
inside year year_day a b d e = grind (arith, nat_tests)

at_least : (year year_day : ℕ) → has_day year year_day ≡ true → 1 ≤ year_day
at_least year year_day e = grind (arith, nat_tests)

at_most : (year year_day : ℕ) → has_day year year_day ≡ true → year_day ≤ days_in_year (pos year)
at_most year year_day e = grind (arith, nat_tests)

by_year_day : (year year_day : ℕ) (y p : ℤ) (r : Result Date Error) → y ≡ pos year → p ≡ pos year_day → 1900 ≤ year → year ≤ 9000 → FromOrdinal y p r →
    option_map epoch_day (result_ok r) ≡ day_by_year_day year year_day
by_year_day year year_day y p (Ok date) ey ep low high h =
    let in_year = rw (ey, ep) at ((h.0.0 refl).1) in
    let from : 1 ≤ year_day = omega (arith, signed_arith, in_year.0) in
    let to : year_day ≤ days_in_year (pos year) = omega (arith, signed_arith, in_year.1) in
    let first : days_from_civil date.year 1 1 ≡ days_from_civil (pos year) 1 1 = ap (λ z. days_from_civil z 1 1) (h.1.0 ∙ ey) in
    let its_year_day : pos (ordinal date) ≡ pos year_day = h.1.1 ∙ ep in
    let same : epoch_day date ≡ days_from_civil (pos year) 1 1 +ℤ pos (year_day - 1) =
    omega (arith, signed_arith, epoch_day-ordinal date, first, its_year_day) in
    ap Some same ∙ sym (taken year year_day (inside year year_day low high from to))
by_year_day year year_day y p (Err error) ey ep low high h = go (has_day year year_day) refl
  where
    go : (v : Bool) → has_day year year_day ≡ v → None ≡ day_by_year_day year year_day
    go true e =
        let from = at_least year year_day e in
        let to = at_most year year_day e in
        let day : IsYear y × IsBetween (pos 1) (pos (days_in_year y)) p =
        rw (ey, ep) ((omega (arith, signed_arith), omega (arith, signed_arith)), (omega (arith, signed_arith), omega (arith, signed_arith))) in
        let wrong = h.0.1 day in cc
    go false e = sym (refused year year_day e)

-- the date that was made has the year that was asked for
its_year : (y m d : ℤ) (r : Result Date Error) (date : Date) → Some date ≡ result_ok r → IfOk r (IsYmd y m d) → date.year ≡ y
its_year y m d (Ok made) date e h = let same : date ≡ made = cc in rw same h.0
its_year y m d (Err error) date e h = cc

pub returns : goal.returns
returns c =
    let built = rw (c.day_of_year.ensures, c.with.ensures) at c.build.ensures in
    let year = its_year _ _ _ c.new.result c.in_ok-first.first c.in_ok-first.ensures.value c.new.ensures.value in
    rw c.ok-2.ensures.value
    (by_year_day c.args.year c.args.year_day _ _ c.build.result (year ∙ to_z_pos w16 c.args.year (omega arith)) (to_z_pos w16 c.args.year_day (omega arith)) (omega arith) (omega arith) built)
