use Rattle.hangar_core.proofs.changes.changed.Goals as goal

pub returns-in-Edit-clause-stays : goal.returns-in-Edit-clause-stays
returns-in-Edit-clause-stays c = λ duration _ h. c.edited.ensures.stays duration h

pub returns-in-Migrate-clause-stays : goal.returns-in-Migrate-clause-stays
returns-in-Migrate-clause-stays c = λ duration _ h. c.migrated.ensures.stays duration h
