-- The promise of a call with a counter of its own, which begins at 0.
use Rattle.aerie.proofs.Outputs.{from_nothing}
use Rattle.aerie.proofs.program.counted.Goals as goal

pub returns : goal.returns
returns g c = record {
  promised = record {
    statuses = c.aerie.ensures.statuses;
    answered = λ is.
        let told = c.aerie.ensures.answered is in
        (told.0, from_nothing _ _ _ _ _ _ c.open-steps.ensures told.1, told.2, told.3);
    unread = c.aerie.ensures.unread;
    whole = c.aerie.ensures.whole;
    read_failed = c.aerie.ensures.read_failed;
    write_failed = λ is.
        let failed = c.aerie.ensures.write_failed is in
        (failed.0, (failed.1.0, from_nothing _ _ _ _ _ _ c.open-steps.ensures failed.1.1, failed.1.2));
    memory = c.aerie.ensures.memory;
    complete = c.aerie.ensures.complete;
    read = c.aerie.ensures.read;
    reads = c.aerie.ensures.reads;
    faults = c.aerie.ensures.faults;
  };
}
