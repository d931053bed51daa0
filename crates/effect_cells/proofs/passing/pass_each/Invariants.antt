use Rattle.std.proofs.Common.{◌≡◌, ◌++◌, map, take, drop}
use Rattle.effect_cells.specs.States.{state_after}
use Rattle.effect_cells.proofs.passing.pass_each.Given as goal

-- the states so far are later, the others as they were
abbrev pub invariant-loop-state : goal.invariant-loop-state
invariant-loop-state l = l.states ≡ map (state_after l.dt) (take l.state-index l.initial.states) ++ drop l.state-index l.initial.states
