use Rattle.record_book.proofs.Indexing.{not_stored, stored_where}
use Rattle.record_book.proofs.stored_steps.position_stored.Goals as goal

pub returns-in-Some-clause-held : goal.returns-in-Some-clause-held
returns-in-Some-clause-held c =
    stored_where _ c.args.ways.now c.args.steps.now c.requires.index c.args.state.now c.args.reads.now c.args.way c.in-Some.at c.requires.way
    c.in-Some.ensures.within c.in-Some.ensures.found

pub returns-in-None-clause-none : goal.returns-in-None-clause-none
returns-in-None-clause-none c =
    not_stored _ c.args.ways.now c.args.steps.now c.requires.index c.args.state.now c.args.reads.now c.args.way c.requires.way c.in-None.ensures.none
