use Rattle.std.proofs.Common.{Some, sym, ap, ◌∙◌}
use Rattle.run_data.specs.declared.frames.Record.{Record}
use Rattle.record_book.specs.StoredSteps.{has_record, with_record}
use Rattle.record_book.specs.Ways.{records_of, step_key, way_of}
use Rattle.record_book.proofs.Indexing.{index_more, placed_last, records_more}
use Rattle.record_book.proofs.stored_steps.add_step.Goals as goal

pub returns-in-Ok-clause-index : goal.returns-in-Ok-clause-index
returns-in-Ok-clause-index c =
    index_more c.args.ways.now c.args.steps.now c.push.new.self c.reads_key-key.result c.args.way c.in_ok-step.step c.in-Ok.ensures.pushed _ c.requires.index
    (c.reads_key-key.ensures ∙ ap (step_key c.args.way) (c.as_slice.ensures ∙ ap (λ (r : Record). r.reads) (c.get.ensures ∙ sym c.in_ok-step.ensures)))
    (c.requires.way ∙ ap (λ (r : Record). Some (way_of r.before r.reads)) (sym c.in_ok-step.ensures))

pub returns-in-Ok-clause-stored : goal.returns-in-Ok-clause-stored
returns-in-Ok-clause-stored c =
    records_more c.args.ways.now c.args.steps.now c.push.new.self c.reads_key-key.result c.args.way c.in_ok-step.step c.in-Ok.ensures.pushed
    (c.requires.new ∙ ap (λ (r : Record). has_record (records_of c.args.steps.now) r.before r.reads) (sym c.in_ok-step.ensures))
    ∙ ap (with_record (records_of c.args.steps.now)) c.in_ok-step.ensures

pub returns-in-Ok-clause-place : goal.returns-in-Ok-clause-place
returns-in-Ok-clause-place c =
    placed_last c.args.steps.now c.push.new.self c.reads_key-key.result c.args.way c.in_ok-step.step c.args.step.now c.len-at.result c.in-Ok.ensures.pushed
    c.len-at.ensures c.in_ok-step.ensures
