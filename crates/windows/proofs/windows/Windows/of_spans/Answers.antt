use Rattle.std.proofs.Common.{sym}
use Rattle.windows.proofs.Spans.{covers_more, covers_all}
use Rattle.windows.proofs.windows.Windows.of_spans.Goals as goal

pub loop-span-preserved : goal.loop-span-preserved
loop-span-preserved c =
    covers_more _ c.loop-span.span-index _ _ c.as_slice-span-items.result.now c.span-item.result _ c.loop-span-test.true c.span-item.is c.loop-span.invariant
    (rw c.earlier.ensures at c.in_ok-join.ensures)

pub returns-clause-times : goal.returns-clause-times
returns-clause-times c =
    covers_all _ c.loop-span.span-index _ c.args.spans.now c.as_slice-span-items.result.now c.loop-span-test.false
    (rw (sym c.as_slice-span-items.ensures.value) at c.in_ok-sorted.ensures.permutation) c.loop-span.invariant
