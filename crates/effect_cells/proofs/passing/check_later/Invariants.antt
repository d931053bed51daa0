use Rattle.std.proofs.Common.{◌≡◌, drop}
use Rattle.effect_cells.specs.Cells.{first_out, first_out_from, passed}
use Rattle.effect_cells.proofs.passing.check_later.Given as goal

-- the first that is out of range is among the states that are left
abbrev pub invariant-loop-at : goal.invariant-loop-at
invariant-loop-at l = first_out (passed l.states l.dt) ≡ first_out_from l.at (passed (drop l.at l.states) l.dt)
