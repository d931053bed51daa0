use Rattle.span_table.proofs.Planned.Beginnings.{planned_have_spans}
use Rattle.span_table.proofs.laws.planned_directives_have_spans.Goals as goal

pub returns : goal.returns
returns c = planned_have_spans c.tasks_are_put_by_path.ensures.there c.frames_of_batches_are_of_tasks.ensures
