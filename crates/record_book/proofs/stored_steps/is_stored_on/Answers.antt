use Rattle.record_book.proofs.Indexing.{not_stored, stored_where}
use Rattle.record_book.proofs.stored_steps.is_stored_on.Goals as goal

pub returns-in-Some : goal.returns-in-Some
returns-in-Some c =
    stored_where _ c.args.ways.now c.args.steps.now c.requires.index c.args.state.now c.args.reads.now c.args.way c.in-Some.field-0 c.requires.way
    c.in-Some.ensures.within c.in-Some.ensures.found

pub returns-in-None : goal.returns-in-None
returns-in-None c =
    not_stored _ c.args.ways.now c.args.steps.now c.requires.index c.args.state.now c.args.reads.now c.args.way c.requires.way c.in-None.ensures.none
