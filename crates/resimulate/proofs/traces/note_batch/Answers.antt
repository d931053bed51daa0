use Rattle.std.proofs.Common.{arith}
use Rattle.run_data.specs.laws.TracedTasks.{timed}
use Rattle.resimulate.specs.Origins.{is_asked}
use Rattle.resimulate.proofs.TaskTraces.{all_taken, frames_next}
use Rattle.resimulate.proofs.traces.note_batch.Goals as goal

pub loop-frame-preserved : goal.loop-frame-preserved
loop-frame-preserved c =
    frames_next (is_asked c.args.all c.args.roots.now.keys) _ _ _ c.args.time c.loop-frame.frame-index c.args.batch.now c.frame-item.result c.loop-frame-test.true c.frame-item.is c.loop-frame.invariant c.in_ok-note.ensures

pub returns : goal.returns
returns c =
    all_taken (is_asked c.args.all c.args.roots.now.keys) (timed c.args.time) c.args.batch.now c.loop-frame.frame-index _ _ (let past = c.loop-frame-test.false in omega (arith, past)) c.loop-frame.invariant
