-- The day is that of the numbers at the form's places, and lies in the range.
use Rattle.std.proofs.Common.{◌≡◌, ℕ, List, true, false, codes, Option, Some, None, ℤ, IfSome, option_map, ◌∙◌, sym, refl}
use Rattle.jiff.specs.Words.{epoch_day}
use Rattle.jiff_core.specs.declared.civil.date.Date.{Date}
use Rattle.epoch_text.specs.Dates.{day_by_month, day_by_year_day, day_of}
use Rattle.epoch_text.specs.Forms.{has_form, written_number}
use Rattle.epoch_text.specs.Ranges.{IsStartDay}
use Rattle.epoch_text.proofs.Digits.{form_digits}
use Rattle.epoch_text.proofs.Years.{by_month_in_range, by_year_day_in_range}
use Rattle.epoch_text.proofs.reading.dates.date_of.Goals as goal

by_month : (text : List ℕ) → has_form text (codes "0000-00-00") ≡ true → day_of text ≡ day_by_month (written_number 0 4 text) (written_number 5 2 text) (written_number 8 2 text)
by_month text e = rw e refl

by_year_day : (text : List ℕ) → has_form text (codes "0000-00-00") ≡ false → has_form text (codes "0000-000") ≡ true →
    day_of text ≡ day_by_year_day (written_number 0 4 text) (written_number 5 3 text)
by_year_day text e f = rw (e, f) refl

-- what holds of the day holds of the date's
of_date : (date : Option Date) (day : Option ℤ) → option_map epoch_day date ≡ day → IfSome day IsStartDay → IfSome date (λ d. IsStartDay (epoch_day d))
of_date None day e h = tt
of_date (Some date) day e h = rw (← e) at h

pub returns-then-has_form-clause-value : goal.returns-then-has_form-clause-value
returns-then-has_form-clause-value c =
    rw (c.number.ensures.value, c.number-then-has_form.ensures.value, c.number-then-has_form-2.ensures.value) at c.date_by_month.ensures
    ∙ sym (by_month c.args.text.now (sym c.has_form.ensures ∙ c.if-has_form.true))

pub returns-then-has_form-clause-range : goal.returns-then-has_form-clause-range
returns-then-has_form-clause-range c = of_date c.date_by_month.result _ c.date_by_month.ensures (by_month_in_range c.number.result c.number-then-has_form.result c.number-then-has_form-2.result)

pub returns-then-has_form-2-clause-value : goal.returns-then-has_form-2-clause-value
returns-then-has_form-2-clause-value c =
    rw (c.number-then-has_form-2-2.ensures.value, c.number-then-has_form-2-3.ensures.value) at c.date_by_year_day.ensures
    ∙ sym (by_year_day c.args.text.now (sym c.has_form.ensures ∙ c.if-has_form.false) (sym c.has_form-else-has_form.ensures ∙ c.if-has_form-2.true))

pub returns-then-has_form-2-clause-range : goal.returns-then-has_form-2-clause-range
returns-then-has_form-2-clause-range c = of_date c.date_by_year_day.result _ c.date_by_year_day.ensures (by_year_day_in_range c.number-then-has_form-2-2.result c.number-then-has_form-2-3.result)

pub number-requires-then-has_form-2-clause-digits : goal.number-requires-then-has_form-2-clause-digits
number-requires-then-has_form-2-clause-digits c =
    form_digits c.args.text.now (codes "0000-00-00") 8 2 (sym c.has_form.ensures ∙ c.if-has_form.true)
