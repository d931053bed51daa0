use Rattle.run_data.specs.SameRecords.{same_tasks_are_equal, same_reads_are_equal}
use Rattle.run_data.proofs.laws.steps.records_are_found_by_equality.Goals as goal

pub returns : goal.returns
returns c = record { states = same_tasks_are_equal; reads = same_reads_are_equal }
