use Rattle.record_book.proofs.Indexing.{none_of_all}
use Rattle.record_book.proofs.step_index.StepIndex.find.Goals as goal

pub returns-in-None-clause-none : goal.returns-in-None-clause-none
returns-in-None-clause-none c =
    none_of_all _ c.self.inside.ways c.self.inside.steps c.self.invariant.0 c.args.state.now c.args.view.now c.args.self.now c.self.view_is c.in-None.ensures.none
