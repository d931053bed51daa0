use Rattle.std.proofs.Common.{◌≡◌, drop}
use Rattle.effect_cells.specs.Worth.{worth_of}
use Rattle.effect_cells.specs.Cells.{first_out, first_out_from, committed_cells, with_effects}
use Rattle.effect_cells.proofs.committing.check_worths.Given as goal

-- the first that is out of range is among the states that are left
abbrev pub invariant-loop-at : goal.invariant-loop-at
invariant-loop-at l = first_out (committed_cells l.states l.tree) ≡ first_out_from l.at (with_effects l.at (worth_of l.tree) (drop l.at l.states))
