use Rattle.std.proofs.Common.{◌≡◌, take, map}
use Rattle.rule_check.specs.ConstraintMeaning.{constraint_of}
use Rattle.rule_check.proofs.constraint.meaning.constraints_of.Given as goal

-- so many were made as were passed, each the one that is meant
abbrev pub invariant-loop-one : goal.invariant-loop-one
invariant-loop-one l = l.constraints ≡ map (constraint_of l.fn.model l.fn.datasets) (take l.one-index l.one-items)
