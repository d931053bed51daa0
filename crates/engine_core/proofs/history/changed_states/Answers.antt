use Rattle.std.proofs.Common.{◌∙◌, ap}
use Rattle.engine_core.specs.TouchedStates.{states_at}
use Rattle.engine_core.proofs.TouchedStates.{changed_are}
use Rattle.engine_core.proofs.history.changed_states.Goals as goal

pub returns : goal.returns
returns c =
    c.in_ok-states.ensures ∙ ap (states_at c.args.cells.now) c.as_slice.ensures.value
    ∙ changed_are c.args.cells.now c.in_order-numbers.result.items c.args.touched c.in_order-numbers.ensures.rise c.in_order-numbers.ensures.same
