use Rattle.profiles.proofs.Noting.{noted_more}
use Rattle.profiles.proofs.touches.note_instant.Goals as goal

pub loop-entry-preserved : goal.loop-entry-preserved
loop-entry-preserved c = λ rise.
    noted_more c.args.changed.now c.loop-entry.entry-index c.args.at c.entry-item.result _ _ _ rise c.loop-entry-test.true c.entry-item.is (c.loop-entry.invariant rise) c.in_ok-note_cell.ensures
