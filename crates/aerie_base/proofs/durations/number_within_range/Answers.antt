-- The number of the digits read so far is above the longest duration, and so is that of all digits.
use Rattle.std.proofs.Common.{◌+◌, sym}
use Rattle.aerie_base.proofs.Digits.{above_stays}
use Rattle.aerie_base.specs.DigitValues.{value_more}
use Rattle.aerie_base.proofs.durations.number_within_range.Goals as goal

pub returns-then-number-gt-LONGEST : goal.returns-then-number-gt-LONGEST
returns-then-number-gt-LONGEST c =
    sym (above_stays c.args.digits.now (c.loop-digit.digit-index + 1)
    (rw (value_more c.args.digits.now c.loop-digit.digit-index c.requires c.loop-digit-test.true, ← c.loop-digit.invariant.number, ← c.from.ensures)
    c.if-number-gt-LONGEST.true))
