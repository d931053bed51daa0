use Rattle.std.proofs.Common.{◌≡◌, drop}
use Rattle.aerie_base.specs.TimeOrder.{earlier}
use Rattle.scheduler.specs.Unmet.{first_violation}
use Rattle.scheduler.proofs.trials.first_violation.Given as goal

-- the first time of all is that of those so far, or that of those that are left
abbrev pub invariant-loop-violation : goal.invariant-loop-violation
invariant-loop-violation l = earlier l.first (first_violation (drop l.violation-index l.violations)) ≡ first_violation l.violations
