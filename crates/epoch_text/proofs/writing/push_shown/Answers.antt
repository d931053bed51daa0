-- What a clock shows fills the places of its text.
use Rattle.std.proofs.Common.{◌≡◌, ◌<◌, ◌^◌, ℕ, ℤ, pos, ◌≤ℤ◌, unsigned_abs, sym, ap, ◌∙◌, arith, to_z, of_z, w8, w32}
use mir.Syntax.{Width, w16}
use mir.Val.{hbits}
use Rattle.std.proofs.lemmas.Int.{to_z-of_z, fits_signed_from_abs}
use Rattle.jiff.specs.Words.{ordinal}
use Rattle.jiff.proofs.SpanFacts.{signed_arith}
use Rattle.jiff_core.proofs.CalendarLemmas.{day_of_year_bound, days_in_year_bounds}
use Rattle.jiff_core.proofs.DateLemmas.{civil}
use Rattle.epoch_text.proofs.Texts.{not_negative}
use Rattle.epoch_text.proofs.writing.push_shown.Goals as goal

-- a number of a few bits stays itself without its sign
stays : (width : Width) (z : ℤ) (number : ℕ) → z ≡ pos number → number < 2 ^ hbits width → unsigned_abs (to_z width (of_z width z)) ≡ number
stays width z number same few =
    let fits : unsigned_abs z < 2 ^ hbits width = omega (arith, ap unsigned_abs same) in
    ap unsigned_abs (to_z-of_z width z (fits_signed_from_abs width z fits) ∙ same)

pub push_stamp-requires : goal.push_stamp-requires
push_stamp-requires c =
    let date = c.args.at.date in
    let time = c.args.at.time in
    let later : pos 0 ≤ℤ date.year = omega (arith, signed_arith, c.requires.le) in
    let positive = not_negative date.year later in
    let year : unsigned_abs date.year < 10_000 = omega (arith, signed_arith, positive, date.year_in.1) in
    let year_day : ordinal date < 1_000 = omega (arith, day_of_year_bound date.year date.month date.day (civil date), days_in_year_bounds date.year) in
    let same_year = stays w16 c.year.result (unsigned_abs date.year) (c.year.ensures ∙ sym positive) (omega (arith, year)) in
    let same_day = stays w16 c.day_of_year.result (ordinal date) c.day_of_year.ensures (omega (arith, year_day)) in
    let same_hour = stays w8 c.hour.result time.hour c.hour.ensures (omega (arith, time.hour_in)) in
    let same_minute = stays w8 c.minute.result time.minute c.minute.ensures (omega (arith, time.minute_in)) in
    let same_second = stays w8 c.second.result time.second c.second.ensures (omega (arith, time.second_in)) in
    let same_fraction = stays w32 c.subsec_nanosecond.result time.subsec_nanosecond c.subsec_nanosecond.ensures (omega (arith, time.subsec_in)) in
    record {
      few = (
        omega (arith, same_year, year),
        omega (arith, same_day, year_day),
        omega (arith, same_hour, time.hour_in),
        omega (arith, same_minute, time.minute_in),
        omega (arith, same_second, time.second_in),
        omega (arith, same_fraction, time.subsec_in),
      );
    }
