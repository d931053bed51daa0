use Rattle.session_reader.specs.Beginnings.{beginning_diagnostics}
use Rattle.session_reader.specs.Diagnostics.{number_of_cause}
use Rattle.diagnostics.specs.Iterations.{each_iteration}
use Rattle.session_reader.proofs.beginnings.note_each.Goals as goal

pub loop-beginning-preserved : goal.loop-beginning-preserved
loop-beginning-preserved c =
    each_iteration number_of_cause (beginning_diagnostics c.args.model.now)
    c.args.beginnings.now c.loop-beginning.beginning-index c.beginning-item.result c.loop-beginning-test.true c.beginning-item.is
    _ _ _ c.note_beginning.ensures c.loop-beginning.invariant
