use Rattle.record_book.proofs.Indexing.{none_on_way}
use Rattle.record_book.proofs.stored_steps.step_of_way.Goals as goal

pub returns-in-None-clause-none : goal.returns-in-None-clause-none
returns-in-None-clause-none g c =
    none_on_way c.args.steps.now c.args.way c.key.result c.args.cells.now (g.P.Probe.agrees c.args.probe.now) c.step_under.result c.requires.keyed c.requires.cells
    c.key.ensures c.step_under.ensures.none
