use Rattle.std.proofs.Common.{ap, ◌∙◌, sym}
use Rattle.record_book.specs.StoredSteps.{with_record}
use Rattle.record_book.proofs.RunRecords.{with_more}
use Rattle.record_book.proofs.books.put_steps.Goals as goal

pub loop-step-preserved : goal.loop-step-preserved
loop-step-preserved c =
    c.in_ok-_place.ensures.put ∙ ap (λ records. with_record records c.step-item.result) c.loop-step.invariant
    ∙ sym (with_more c.args.index.now c.args.steps.now c.loop-step.step-index c.step-item.result c.loop-step-test.true c.step-item.is)
