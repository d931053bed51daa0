use Rattle.std.proofs.Common.{length, ap, arith, ◌<◌}
use Rattle.run_data.specs.StepStates.{StepState}
use Rattle.task_step.proofs.Soundness.{child_sound}
use Rattle.task_step.proofs.step_state.StepState.make_child.Goals as goal

pub invariant_of-self-2 : goal.invariant_of-self-2
invariant_of-self-2 c =
    let same = ap (λ (so_far : StepState). length so_far.items) c.self.view_is in
    let few : length c.self.inside.items < 100_000_000 = omega (arith, c.requires.few, same) in
    child_sound _ _ _ _ _ _ _ c.in_ok-push.ensures.pushed few c.self.invariant
