-- All digits were read, so the bound is that of their number.
use Rattle.std.proofs.Common.{arith}
use Rattle.std.proofs.lemmas.Str.Parse.{digits_value-take-le}
use Rattle.epoch_text.proofs.Digits.{value_bound}
use Rattle.epoch_text.proofs.forms.number.Goals as goal

pub returns-clause-bound : goal.returns-clause-bound
returns-clause-bound c =
    omega (arith, digits_value-take-le 10 c.args.digits.now c.loop-digit.digit-index (omega arith), value_bound c.args.digits.now c.requires.digits)
