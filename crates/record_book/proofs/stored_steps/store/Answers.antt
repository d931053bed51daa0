use Rattle.record_book.proofs.Indexing.{index_stays}
use Rattle.record_book.proofs.stored_steps.store.Goals as goal

pub returns-in_err-way-clause-index : goal.returns-in_err-way-clause-index
returns-in_err-way-clause-index c =
    index_stays _ c.args.ways.now c.way_taken.new.ways c.args.steps.now c.requires c.in_err-way.ensures.ways c.in_err-way.ensures.stay

pub store_on-requires-clause-index : goal.store_on-requires-clause-index
store_on-requires-clause-index c =
    index_stays _ c.args.ways.now c.way_taken.new.ways c.args.steps.now c.requires c.in_ok-way.ensures.ways c.in_ok-way.ensures.stay

pub returns-in_err-note_first-clause-index : goal.returns-in_err-note_first-clause-index
returns-in_err-note_first-clause-index c =
    index_stays _ c.args.ways.now c.way_taken.new.ways c.args.steps.now c.requires c.in_ok-way.ensures.ways c.in_ok-way.ensures.stay
