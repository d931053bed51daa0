use Rattle.task_step.proofs.Soundness.{begins_sound}
use Rattle.task_step.proofs.step_state.StepState.start.Goals as goal

pub invariant_of-result : goal.invariant_of-result
invariant_of-result c =
    begins_sound _ _ _ _ _ _ c.take_items.ensures c.new.ensures.view c.new.ensures.written c.new.ensures.read_flags c.requires.cells c.requires.few c.requires.modest
