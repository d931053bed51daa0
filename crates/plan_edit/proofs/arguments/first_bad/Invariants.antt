-- Those before are not bad.
use Rattle.std.proofs.Common.{◌≡◌, [], take, drop}
use Rattle.plan_edit.specs.Arguments.{first_bad as first_bad_by}
use Rattle.plan_edit.proofs.arguments.first_bad.Given as goal

abbrev pub invariant-loop-at : goal.invariant-loop-at
invariant-loop-at l =
    first_bad_by l.model.enums l.parameters [] l.arguments ≡ first_bad_by l.model.enums l.parameters (take l.at l.arguments) (drop l.at l.arguments)
