use Rattle.windows.proofs.Left.{passes_more}
use Rattle.windows.proofs.windows.Windows.not.Goals as goal

pub loop-interval-preserved : goal.loop-interval-preserved
loop-interval-preserved c =
    passes_more _ _ _ _ _ _ c.interval-item.result c.loop-interval-test.true c.interval-item.is c.loop-interval.invariant c.in_ok-join.ensures
