use Rattle.std.proofs.lemmas.List.Edits.{map_over_more}
use Rattle.effect_cells.specs.States.{state_after}
use Rattle.effect_cells.proofs.InRange.{each_left_is}
use Rattle.effect_cells.proofs.passing.pass_each.Goals as goal

pub pass-requires : goal.pass-requires
pass-requires c =
    rw (← c.state-item.is)
    (each_left_is 0 c.args.dt c.args.states.now c.loop-state.states c.loop-state.state-index c.state-item.result
    c.requires.range c.loop-state-test.true c.loop-state.invariant c.state-item.is)

pub loop-state-preserved : goal.loop-state-preserved
loop-state-preserved c =
    rw c.pass.ensures (rw (← c.state-item.is)
    (map_over_more (state_after c.args.dt) c.args.states.now c.loop-state.states c.loop-state.state-index c.state-item.result
    c.loop-state-test.true c.loop-state.invariant c.state-item.is))
