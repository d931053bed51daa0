use Rattle.std.specs.Cmp.{both_ways}
use Rattle.run_data.specs.Records.{same_task}
use Rattle.run_data.specs.SameRecords.{same_tasks_are_equal}
use Rattle.run_data.proofs.tasks.TaskStatePartialEq.eq.Goals as goal

pub returns : goal.returns
returns c =
    let equal = same_tasks_are_equal c.args.self.now c.args.other.now in
    both_ways c.is_same.result (same_task c.args.self.now c.args.other.now) (λ passes. equal.1 (c.is_same.ensures.0 passes)) (λ same. c.is_same.ensures.1 (equal.0 same))
