use Rattle.std.proofs.Common.{◌≡◌, ℕ, ◌<◌, ◌-◌, false}
use Rattle.effect_cells.specs.WakeTimes.{holds_in}
use Rattle.wait_solver.proofs.waiting.earliest.Given as goal

-- it holds at no time before
abbrev pub invariant-loop-dt : goal.invariant-loop-dt
invariant-loop-dt l = (n : ℕ) → n < l.dt → holds_in l.cells l.condition n ≡ false

abbrev pub decreases-loop-dt : goal.decreases-loop-dt
decreases-loop-dt l = l.limit - l.dt
