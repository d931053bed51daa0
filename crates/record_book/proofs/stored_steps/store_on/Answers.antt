use Rattle.std.proofs.Common.{ap, ◌∙◌}
use Rattle.run_data.specs.declared.frames.Record.{Record}
use Rattle.record_book.specs.StoredSteps.{has_record}
use Rattle.record_book.specs.Ways.{records_of}
use Rattle.record_book.proofs.Indexing.{records_same}
use Rattle.record_book.proofs.stored_steps.store_on.Goals as goal

pub returns-in-Some-clause-stored : goal.returns-in-Some-clause-stored
returns-in-Some-clause-stored c =
    records_same c.args.steps.now c.args.step.now
    (c.in-Some.ensures.held
    ∙ (λ i. has_record (records_of c.args.steps.now) ((c.get.ensures ∙ ap (λ (r : Record). r.before) c.get-record.ensures) i)
    ((c.as_slice-reads.ensures ∙ ap (λ (r : Record). r.reads) c.get-record.ensures) i)))
