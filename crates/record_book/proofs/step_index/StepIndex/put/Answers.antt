use Rattle.record_book.specs.Ways.{records_of}
use Rattle.record_book.proofs.Indexing.{none_twice_put}
use Rattle.record_book.proofs.step_index.StepIndex.put.Goals as goal

pub invariant_of-self : goal.invariant_of-self
invariant_of-self c = (
  c.store.ensures.index,
  none_twice_put c.store.result (records_of c.self.inside.steps) (records_of c.store.new.steps) c.args.step.now c.store.ensures.stored c.store.ensures.unchanged c.self.invariant.1,
)
