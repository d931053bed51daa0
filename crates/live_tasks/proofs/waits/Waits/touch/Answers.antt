use Rattle.live_tasks.proofs.Touched.{touched_none, touched_more}
use Rattle.live_tasks.proofs.waits.Waits.touch.Goals as goal

pub loop-cell-init : goal.loop-cell-init
loop-cell-init c = touched_none c.args.self.now

pub loop-cell-preserved : goal.loop-cell-preserved
loop-cell-preserved c =
    touched_more c.args.touched.now c.loop-cell.cell-index _ c.args.self.now c.loop-cell.self c.touch_cell.new.self c.loop-cell-test.true c.loop-cell.invariant c.in_ok-touch_cell.ensures
