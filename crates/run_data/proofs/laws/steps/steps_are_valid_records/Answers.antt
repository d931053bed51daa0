use Rattle.run_data.proofs.ValidRecords.{frames_are_valid, valid_records_fit, valid_records_pass}
use Rattle.run_data.proofs.laws.steps.steps_are_valid_records.Goals as goal

pub returns : goal.returns
returns c = record { valid = frames_are_valid; fit = valid_records_fit; pass = valid_records_pass }
