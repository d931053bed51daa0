use Rattle.std.proofs.Common.{◌≡◌, take}
use Rattle.record_book.specs.StoredSteps.{with_records}
use Rattle.record_book.proofs.books.put_steps.Given as goal

abbrev pub invariant-loop-step : goal.invariant-loop-step
invariant-loop-step l = l.index ≡ with_records l.initial.index (take l.step-index l.steps)
