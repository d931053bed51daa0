use Rattle.std.proofs.Common.{◌≡◌, drop}
use Rattle.scheduler.specs.Unmet.{first_violated}
use Rattle.scheduler.proofs.trials.first_violated.Given as goal

-- none of those so far is violated
abbrev pub invariant-loop-constraint : goal.invariant-loop-constraint
invariant-loop-constraint l =
    first_violated l.model l.goal l.run (drop l.constraint-index l.constraints) ≡ first_violated l.model l.goal l.run l.constraints
