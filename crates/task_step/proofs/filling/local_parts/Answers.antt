-- Each term more is added, and adds no more than a term may.
use Rattle.std.proofs.Common.{arith}
use Rattle.std.proofs.lemmas.Int.{ints}
use Rattle.task_step.proofs.Fillings.{parts_left}
use Rattle.task_step.proofs.filling.local_parts.Goals as goal

pub loop-term-preserved : goal.loop-term-preserved
loop-term-preserved c = record {
  whole =
      let left = parts_left c.args.locals.now c.args.terms.now c.loop-term.term-index _ _ c.loop-term-test.true c.local_part-sum.ensures.value in
      omega (arith, ints, left, c.loop-term.invariant.whole, c.loop-term.invariant.small, c.local_part-sum.ensures.small, c.requires.few, c.loop-term-test.true);
  small = omega (arith, ints, c.loop-term.invariant.small, c.local_part-sum.ensures.small, c.requires.few, c.loop-term-test.true);
}
