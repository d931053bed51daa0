use Rattle.run_data.proofs.NextTimes.{due_splits, least_delay_by_number, least_wake_by_number, least_due_is, none_is_due}
use Rattle.run_data.proofs.laws.tables.due_splits.Goals as goal

pub returns : goal.returns
returns c = record {
  splits = due_splits;
  delays = least_delay_by_number;
  waits = least_wake_by_number;
  least = least_due_is;
  none = none_is_due;
}
