use Rattle.std.proofs.Common.{◌∙◌, ap, length}
use Rattle.aerie_base.specs.expressions.Dependence.{grows}
use Rattle.task_step.proofs.Soundness.{read_sound}
use Rattle.task_step.proofs.step_state.StepState.value.Goals as goal

pub invariant_of-self : goal.invariant_of-self
invariant_of-self c =
    read_sound _ _ _ _ _ _ _ c.eval.ensures.unchanged (ap length c.eval.ensures.read_flags ∙ (grows _ _ _ _).same_length) c.self.invariant
