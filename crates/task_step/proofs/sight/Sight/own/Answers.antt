use Rattle.std.proofs.Common.{refl, arith}
use Rattle.task_step.proofs.Overlays.{overlaid_length, split_seen}
use Rattle.task_step.proofs.sight.Sight.own.Goals as goal

pub state-state-requires : goal.state-state-requires
state-state-requires c = omega (arith, c.requires.cell, overlaid_length 0 c.args.self.now.view.now c.args.self.now.written)

pub returns-in_ok-place-in-None-clause-cells : goal.returns-in_ok-place-in-None-clause-cells
returns-in_ok-place-in-None-clause-cells c = split_seen _ _ _ _ _ c.in_ok-place-in-None.ensures.added (c.in-None.ensures.none refl) c.state-state.ensures
