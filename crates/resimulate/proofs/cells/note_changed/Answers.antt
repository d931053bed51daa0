use Rattle.resimulate.proofs.CellChanges.{changed_none, changed_next}
use Rattle.resimulate.proofs.cells.note_changed.Goals as goal

pub loop-one-init : goal.loop-one-init
loop-one-init c = changed_none c.args.time c.args.last.now.items

pub loop-one-preserved : goal.loop-one-preserved
loop-one-preserved c =
    changed_next c.args.time c.loop-one.one-index c.args.changed.now c.one-item.result _ _ _ c.loop-one-test.true c.one-item.is c.loop-one.invariant c.note_change.ensures
