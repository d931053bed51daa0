use Rattle.std.proofs.Common.{◌∙◌, sym}
use Rattle.windows.proofs.Long.{keeps_more, keeps_passed}
use Rattle.windows.proofs.windows.Windows.longer_than.Goals.{then-is_long+in_ok-join, else-is_long}
use Rattle.windows.proofs.windows.Windows.longer_than.Goals as goal

pub loop-interval-preserved : goal.loop-interval-preserved
loop-interval-preserved c =
    elim c.if-is_long.branch [
      | then-is_long+in_ok-join w ↦ rw w.intervals-is
          (keeps_more _ _ c.loop-interval.interval-index _ _ c.intervals-interval-items.result.now c.interval-item.result _ c.loop-interval-test.true c.interval-item.is (sym c.is_long.ensures ∙ w.if-is_long.true) c.loop-interval.invariant w.in_ok-join.ensures)
      | else-is_long w ↦ rw w.intervals-is
          (keeps_passed _ _ c.loop-interval.interval-index _ c.intervals-interval-items.result.now c.interval-item.result _ c.loop-interval-test.true c.interval-item.is (sym c.is_long.ensures ∙ w.if-is_long.false) c.loop-interval.invariant)
    ]
