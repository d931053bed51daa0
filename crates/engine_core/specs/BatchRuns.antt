-- A file of lemmas: what it proves need not be read to trust a clause.
--
-- Runs of a stepper one after another.
use Rattle.std.proofs.Common.{ℕ, List, ◌∙◌, arith}
use Rattle.aerie_base.specs.declared.models.model.Parts.{Parts}
use Rattle.run_data.specs.declared.frames.Record.{Record}
use Rattle.run_data.specs.Counts.{rose_on}
use Rattle.engine_core.specs.BatchGenerations.{Ran}

pub ran_on : {was is later : Parts → Type 0} {had has have : List Record} {address stays same : ℕ} {opened steps looks opened_then steps_then looks_then opened_after steps_after looks_after : ℕ} →
    Ran was is had has address stays opened steps looks opened_then steps_then looks_then → Ran is later has have stays same opened_then steps_then looks_then opened_after steps_after looks_after →
    Ran was later had have address same opened steps looks opened_after steps_after looks_after
ran_on {opened = opened} {steps = steps} {opened_then = opened_then} {steps_then = steps_then} {opened_after = opened_after} {steps_after = steps_after} first second = record {
  models = λ of. (λ h. (second.models of).0 ((first.models of).0 h), λ h. (first.models of).1 ((second.models of).1 h));
  records = second.records ∙ first.records;
  same_address = second.same_address ∙ first.same_address;
  rose = rose_on opened steps opened_then steps_then opened_after steps_after first.rose second.rose;
  looked = omega (arith, first.looked, second.looked);
}
