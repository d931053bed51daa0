use Rattle.std.proofs.Common.{◌∙◌, ◌++◌, List, ℕ, sym, ap}
use Rattle.std.proofs.lemmas.List.{at_drop_all, append-nil}
use Rattle.effect_cells.specs.declared.effects.CellState.{CellState}
use Rattle.engine_core.specs.TouchedStates.{states_at}
use Rattle.engine_core.proofs.TouchedStates.{state_iteration}
use Rattle.engine_core.proofs.history.states_at.Goals as goal

pub loop-number-preserved : goal.loop-number-preserved
loop-number-preserved c =
    state_iteration c.args.cells.now c.args.numbers.now c.loop-number.number-index _ c.loop-number.states c.put_state.new.states c.loop-number-test.true
    c.in_ok-put_state.ensures ∙ c.loop-number.invariant

pub returns : goal.returns
returns c =
    sym (append-nil c.loop-number.states)
    ∙ ap (λ (l : List (ℕ × CellState)). c.loop-number.states ++ l) (sym (at_drop_all (states_at c.args.cells.now) c.args.numbers.now c.loop-number.number-index c.loop-number-test.false))
    ∙ c.loop-number.invariant
