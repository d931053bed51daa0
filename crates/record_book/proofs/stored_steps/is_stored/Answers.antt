use Rattle.record_book.proofs.Indexing.{no_way}
use Rattle.record_book.proofs.stored_steps.is_stored.Goals as goal

pub returns-in-None : goal.returns-in-None
returns-in-None c = no_way _ c.args.ways.now c.args.steps.now c.requires c.args.state.now c.args.reads.now c.in-None.ensures.none
