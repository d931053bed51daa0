use Rattle.live_tasks.proofs.AnyOrder.{same_in_any_order, of_tasks_in_any_order}
use Rattle.live_tasks.proofs.readies.frames_are_taken_in_any_order.Goals as goal

pub returns : goal.returns
returns c = record { same = same_in_any_order; of_tasks = of_tasks_in_any_order }
