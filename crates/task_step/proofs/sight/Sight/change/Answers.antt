use Rattle.task_step.specs.Overlays.{overlaid}
use Rattle.task_step.proofs.Overlays.{effect_seen, seen_written, small_after}
use Rattle.task_step.proofs.sight.Sight.change.Goals as goal

pub after-state-requires : goal.after-state-requires
after-state-requires c =
    let there = seen_written _ _ _ _ c.requires.cell c.at.ensures in
    small_after c.args.cell _ _ (overlaid c.args.self.now.view.now c.args.self.now.written) there c.requires.small

pub returns-clause-cells : goal.returns-clause-cells
returns-clause-cells c =
    let there = seen_written _ _ _ _ c.requires.cell c.at.ensures in
    effect_seen c.args.cell c.args.effect.now c.at.result c.after-state.result c.args.self.now.view.now c.args.self.now.written _ c.set.ensures there c.after-state.ensures
