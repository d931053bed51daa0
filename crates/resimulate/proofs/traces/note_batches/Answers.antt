use Rattle.std.proofs.Common.{arith, List, subst}
use Rattle.run_data.specs.TaskFrames.{Frame}
use Rattle.run_data.specs.laws.TracedTasks.{timed}
use Rattle.resimulate.specs.Origins.{is_asked}
use Rattle.resimulate.specs.Traces.{TakesIn}
use Rattle.run_data.specs.laws.TracedTasks.{timed_batches}
use Rattle.resimulate.proofs.TaskTraces.{all_taken, batches_next}
use Rattle.resimulate.proofs.traces.note_batches.Goals as goal

pub loop-batch-preserved : goal.loop-batch-preserved
loop-batch-preserved c =
    batches_next (is_asked c.args.all c.args.roots.now.keys) _ _ _ c.args.time c.loop-batch.batch-index c.args.batches.now c.batch-item.result c.loop-batch-test.true c.batch-item.is c.loop-batch.invariant
    (subst (λ (batch : List Frame). TakesIn (is_asked c.args.all c.args.roots.now.keys) (timed c.args.time batch) c.loop-batch.traces.entries c.note_batch.new.traces.entries) c.as_slice.ensures c.in_ok-note_batch.ensures)

pub returns : goal.returns
returns c =
    all_taken (is_asked c.args.all c.args.roots.now.keys) (timed_batches c.args.time) c.args.batches.now c.loop-batch.batch-index _ _ (let past = c.loop-batch-test.false in omega (arith, past)) c.loop-batch.invariant
