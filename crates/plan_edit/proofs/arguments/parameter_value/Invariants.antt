-- Those before are not the parameter's.
use Rattle.std.proofs.Common.{◌≡◌, find, drop}
use Rattle.aerie_base.specs.models.Names.{same_name}
use Rattle.plan_edit.specs.Arguments.{parameter_value as parameter_value_by, value_or_default}
use Rattle.plan_edit.proofs.arguments.parameter_value.Given as goal

abbrev pub invariant-loop-argument : goal.invariant-loop-argument
invariant-loop-argument l =
    parameter_value_by l.model.enums l.arguments l.parameter
    ≡ value_or_default l.model.enums l.parameter (find (λ argument. same_name argument.name l.parameter.name) (drop l.argument-index l.arguments))
