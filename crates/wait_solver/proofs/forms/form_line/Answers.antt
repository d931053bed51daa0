-- Each term more is added, and adds no more than a term may.
use Rattle.std.proofs.Common.{arith}
use Rattle.wait_solver.proofs.Sums.{one_more}
use Rattle.wait_solver.specs.Lines.{form_line}
use Rattle.wait_solver.proofs.forms.form_line.Goals as goal

pub loop-term-preserved : goal.loop-term-preserved
loop-term-preserved c = record {
  whole =
      rw c.plus-sum.ensures.sum
      (one_more c.args.cells.now c.as_slice-term-items.result.now c.loop-term.term-index _ c.loop-term.sum c.term_line.result (form_line c.args.cells.now c.args.form.now)
      c.loop-term-test.true c.term_line.ensures.value c.loop-term.invariant.whole);
  value = omega (arith, c.plus-sum.ensures.value, c.loop-term.invariant.value, c.term_line.ensures.small);
  rate = omega (arith, c.plus-sum.ensures.rate, c.loop-term.invariant.rate, c.term_line.ensures.small);
}
