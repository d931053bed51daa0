use Rattle.record_book.proofs.Indexing.{none_under_fits}
use Rattle.record_book.proofs.stored_steps.position_in_view.Goals as goal

pub returns-clause-none : goal.returns-clause-none
returns-clause-none c =
    none_under_fits _ c.args.ways.now c.args.steps.now c.requires.index c.args.state.now c.args.view.now c.state_key.result c.position_under.result c.state_key.ensures
    c.position_under.ensures.none
