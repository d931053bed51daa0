-- Frames that are the same in order of path are those that the batch makes, in some order.
use Rattle.engine_core.proofs.BatchJudging.{by_order}
use Rattle.engine_core.proofs.batches.take_batch.Goals as goal

pub judge-requires-clause-made : goal.judge-requires-clause-made
judge-requires-clause-made c =
    by_order c.args.model.now c.args.bound c.args.ready.now c.args.frames.now c.in_ok-shared.shared.items c.in_ok-shared.ensures c.requires.frames
