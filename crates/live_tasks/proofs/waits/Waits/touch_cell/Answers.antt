use Rattle.std.proofs.Common.{refl, arith}
use Rattle.live_tasks.proofs.Touched.{touched_in}
use Rattle.live_tasks.proofs.waits.Waits.touch_cell.Goals as goal

pub returns : goal.returns
returns c =
    touched_in _ _ _ c.args.cell c.from-at.result c.index_mut.result.now c.touch_all.new.watchers c.self.view_is c.from-at.ensures (omega (arith, c.if-at-len.false, c.len.ensures))
    c.index_mut.ensures.value refl c.in_ok-touch_all.ensures.left c.in_ok-touch_all.ensures.may c.in_ok-touch_all.ensures.stale c.in_ok-touch_all.ensures.wakes
