use Rattle.std.proofs.Common.{◌≡◌, take, map}
use Rattle.constraints.specs.Steps.{HaveNumbers, flat}
use Rattle.constraints.proofs.steps.flat_segments.Given as goal

-- the steps so far are pieces
abbrev pub invariant-loop-step : goal.invariant-loop-step
invariant-loop-step l = (l.made ≡ map flat (take l.step-index l.steps)) × HaveNumbers l.made
