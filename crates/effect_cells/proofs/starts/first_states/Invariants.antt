use Rattle.std.proofs.Common.{◌≡◌, map, take}
use Rattle.effect_cells.specs.Cells.{first_state, AreInRange}
use Rattle.effect_cells.proofs.starts.first_states.Given as goal

-- the states of the cells so far, each in range
abbrev pub invariant-loop-start : goal.invariant-loop-start
invariant-loop-start l = record {
  value : l.states.items ≡ map (λ cell. first_state cell.1) (take l.start-index l.starts);
  range : AreInRange l.states.items;
}
