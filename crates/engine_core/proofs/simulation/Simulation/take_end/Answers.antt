use Rattle.std.proofs.Common.{subst, refl}
use Rattle.engine_core.specs.Simulations.{MayTakeEnd}
use Rattle.engine_core.specs.declared.batch_ends.BatchEnd.{BatchEnd}
use Rattle.engine_core.proofs.EndedBatches.{after_limit, after_failed, after_commit}
use Rattle.engine_core.proofs.simulation.Simulation.take_end.Goals as goal

pub after_batch-requires-clause-in_step : goal.after_batch-requires-clause-in_step
after_batch-requires-clause-in_step c = c.requires.in_step

pub after_batch-requires-clause-order : goal.after_batch-requires-clause-order
after_batch-requires-clause-order c = rw c.as_slice.ensures (subst (λ (e : BatchEnd). MayTakeEnd e c.args.self.now.present) c.in-Committed.is c.requires.may).order

pub after_batch-requires-clause-frames : goal.after_batch-requires-clause-frames
after_batch-requires-clause-frames c = rw c.as_slice.ensures (subst (λ (e : BatchEnd). MayTakeEnd e c.args.self.now.present) c.in-Committed.is c.requires.may).are

pub after_batch-requires-clause-few : goal.after_batch-requires-clause-few
after_batch-requires-clause-few c = rw c.as_slice.ensures (subst (λ (e : BatchEnd). MayTakeEnd e c.args.self.now.present) c.in-Committed.is c.requires.may).few

pub returns-in-Limit : goal.returns-in-Limit
returns-in-Limit c = after_limit c.args.self.now c.end_now.new.self c.args.end c.in-Limit.is c.end_now.ensures

pub returns-in-Failed : goal.returns-in-Failed
returns-in-Failed c = after_failed c.args.self.now c.end_now-in-Failed.new.self c.args.end c.in-Failed.who c.in-Failed.fault c.in-Failed.is c.end_now-in-Failed.ensures

pub returns-in_ok-put_batch-in-Committed : goal.returns-in_ok-put_batch-in-Committed
returns-in_ok-put_batch-in-Committed c =
    after_commit c.args.self.now c.args.end c.in-Committed.frames c.in-Committed.touched c.in-Committed.spent c.in-Committed.is c.requires.open c.requires.spends c.after_batch.new.self c.put_batch.new.self
    c.in_ok-after_batch-in-Committed.ensures.in_step (rw c.as_slice.ensures at c.in_ok-after_batch-in-Committed.ensures.table) (rw c.as_slice-in-Committed.ensures at c.in_ok-after_batch-in-Committed.ensures.kept) c.in_ok-put_batch-in-Committed.ensures _ refl
