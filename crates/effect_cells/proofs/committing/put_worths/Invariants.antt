use Rattle.std.proofs.Common.{◌≡◌, ◌++◌, take, drop}
use Rattle.effect_cells.specs.Worth.{worth_of}
use Rattle.effect_cells.specs.Cells.{with_effects}
use Rattle.effect_cells.proofs.committing.put_worths.Given as goal

-- the states so far have the tree's effects, the others are as they were
abbrev pub invariant-loop-at : goal.invariant-loop-at
invariant-loop-at l = l.states ≡ with_effects 0 (worth_of l.tree) (take l.at l.initial.states) ++ drop l.at l.initial.states
