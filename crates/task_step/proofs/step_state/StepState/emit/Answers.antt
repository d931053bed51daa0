use Rattle.std.proofs.Common.{◌∙◌, length, ap, arith, ◌<◌}
use Rattle.effect_cells.specs.Cells.{emitted}
use Rattle.run_data.specs.StepStates.{StepState}
use Rattle.task_step.proofs.Soundness.{effect_sound, small_on}
use Rattle.task_step.proofs.step_state.StepState.emit.Goals as goal

pub change-requires-clause-small : goal.change-requires-clause-small
change-requires-clause-small c = small_on _ _ _ _ _ _ _ c.in_ok-place.ensures.cells c.self.invariant c.requires.small

pub invariant_of-self-2 : goal.invariant_of-self-2
invariant_of-self-2 c =
    let same = ap (λ (so_far : StepState). length so_far.items) c.self.view_is in
    let few : length c.self.inside.items < 100_000_000 = omega (arith, c.requires.few, same) in
    effect_sound _ _ _ _ _ _ _ _ _ _ (c.change.ensures.view ∙ c.in_ok-place.ensures.view) (c.change.ensures.cells ∙ ap (λ x. emitted x c.args.cell c.args.effect) c.in_ok-place.ensures.cells) (c.change.ensures.read_flags ∙ c.in_ok-place.ensures.read_flags) c.in_ok-push.ensures.pushed few c.requires.small c.self.invariant
