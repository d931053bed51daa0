use Rattle.std.proofs.Common.{refl, ◌∙◌, arith}
use Rattle.profiles.proofs.Sums.{values_next, rates_next}
use Rattle.profiles.proofs.watching.line_from.Goals as goal

pub loop-each-preserved : goal.loop-each-preserved
loop-each-preserved c = record {
  from = c.with_cell-line.ensures.from ∙ c.loop-each.invariant.from;
  values =
      rw c.with_cell-line.ensures.value
      (values_next c.args.watched.now c.loop-each.each-index c.each-item.result c.loop-each.line.value _ _ c.loop-each-test.true c.each-item.is refl c.loop-each.invariant.values);
  rates =
      rw c.with_cell-line.ensures.rate
      (rates_next c.args.watched.now c.loop-each.each-index c.each-item.result c.loop-each.line.rate _ _ c.loop-each-test.true c.each-item.is refl c.loop-each.invariant.rates);
  small_value = omega (arith, c.with_cell-line.ensures.small_value, c.loop-each.invariant.small_value);
  small_rate = omega (arith, c.with_cell-line.ensures.small_rate, c.loop-each.invariant.small_rate);
}
