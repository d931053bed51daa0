use Rattle.std.proofs.Common.{arith}
use Rattle.aerie_text.proofs.Figures.{next_digit}
use Rattle.aerie_text.proofs.numerals.decimal_value.Goals as goal

pub overflow_mul-value : goal.overflow_mul-value
overflow_mul-value c =
    let next = next_digit _ _ c.requires.digits c.requires.short c.loop-digit-test.true in
    omega (arith, next.fits, c.loop-digit.invariant)

pub overflow_sub-digit : goal.overflow_sub-digit
overflow_sub-digit c = (next_digit _ _ c.requires.digits c.requires.short c.loop-digit-test.true).low

pub overflow_add-value : goal.overflow_add-value
overflow_add-value c =
    let next = next_digit _ _ c.requires.digits c.requires.short c.loop-digit-test.true in
    omega (arith, next.fits, c.loop-digit.invariant, c.from.ensures)

pub loop-digit-preserved : goal.loop-digit-preserved
loop-digit-preserved c =
    let next = next_digit _ _ c.requires.digits c.requires.short c.loop-digit-test.true in
    omega (arith, next.value, c.loop-digit.invariant, c.from.ensures)
