-- The values so far, and those of the parameters behind.
use Rattle.std.proofs.Common.{◌≡◌, drop}
use Rattle.plan_edit.specs.Arguments.{values_filled as filled_by}
use Rattle.plan_edit.proofs.Fillings.{behind}
use Rattle.plan_edit.proofs.arguments.filled.Given as goal

abbrev pub invariant-loop-parameter : goal.invariant-loop-parameter
invariant-loop-parameter l =
    filled_by l.model.enums l.arguments l.fn.parameters ≡ behind l.values (filled_by l.model.enums l.arguments (drop l.parameter-index l.parameters))
