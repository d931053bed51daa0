-- The bytes are the digits of each part, and the signs between them.
use Rattle.std.proofs.Common.{refl}
use Rattle.epoch_text.proofs.Stamps.{two_digits, three_digits, four_digits, six_digits}
use Rattle.epoch_text.proofs.writing.stamp_bytes.Goals as goal

pub returns : goal.returns
returns c =
    let few = c.requires.few in
    rw (
      c.last_digit.ensures,
      c.last_digit-2.ensures,
      c.last_digit-3.ensures,
      c.last_digit-4.ensures,
      c.last_digit-5.ensures,
      c.last_digit-6.ensures,
      c.last_digit-7.ensures,
      c.last_digit-8.ensures,
      c.last_digit-9.ensures,
      c.last_digit-10.ensures,
      c.last_digit-11.ensures,
      c.last_digit-12.ensures,
      c.last_digit-13.ensures,
      c.last_digit-14.ensures,
      c.last_digit-15.ensures,
      c.last_digit-16.ensures,
      c.last_digit-17.ensures,
      c.last_digit-18.ensures,
      c.last_digit-19.ensures,
      c.from-year.ensures,
      c.from-year_day.ensures,
      c.from-hour.ensures,
      c.from-minute.ensures,
      c.from-second.ensures,
      four_digits c.args.year few.0,
      three_digits c.args.year_day few.1,
      two_digits c.args.hour few.2,
      two_digits c.args.minute few.3,
      two_digits c.args.second few.4,
      six_digits c.args.micros few.5,
    ) refl
