use Rattle.std.proofs.Common.{◌≡◌, ◌++◌, drop}
use Rattle.aerie_base.specs.expressions.Arithmetic.{same_value}
use Rattle.constraints.specs.Holding.{equals_or_not}
use Rattle.constraints.specs.Steps.{times_passing}
use Rattle.constraints.proofs.steps.times_equal.Given as goal

-- the times so far and those of the steps that are left are those of all
abbrev pub invariant-loop-at : goal.invariant-loop-at
invariant-loop-at l =
    l.times.items ++ times_passing l.reach (λ v. equals_or_not l.equal (same_value v l.value)) (drop l.at l.steps) ≡ times_passing l.reach (λ v. equals_or_not l.equal (same_value v l.value)) l.steps
