use Rattle.std.proofs.Common.{◌≡◌, ap}
use Rattle.windows.specs.Times.{TimeSet}
use Rattle.windows.proofs.Shifts.{shifts_more}
use Rattle.windows.proofs.windows.Windows.shifted.Goals as goal

pub loop-interval-preserved : goal.loop-interval-preserved
loop-interval-preserved c =
    let same : c.self.inside.reach ≡ c.args.self.now.reach = ap (λ (w : TimeSet). w.reach) c.self.view_is in
    shifts_more _ c.loop-interval.interval-index _ _ _ _ c.intervals-interval-items.result.now c.interval-item.result _ c.loop-interval-test.true c.interval-item.is c.loop-interval.invariant
    (rw (c.moved-from.ensures, c.moved-to.ensures, same) at c.in_ok-join.ensures)
