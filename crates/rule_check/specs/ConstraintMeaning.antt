-- The constraints that are meant by those that are written. Of what is refused this is never used.
use Rattle.std.specs.Prelude.{List, Some, None, map}
use Rattle.aerie_base.specs.declared.models.model.Parts.{Parts}
use Rattle.rule_grammar.specs.declared.raw.constraints.RawConstraint.{RawConstraint}
use Rattle.rule_grammar.specs.declared.raw.constraints.RawRule.{RawRule}
use Rattle.rule_grammar.specs.declared.raw.constraints.RawRule.TheVariants as raw_rule
use Rattle.constraints.specs.declared.types.Constraint.{Constraint}
use Rattle.constraints.specs.declared.types.Rule.{Rule}
use Rattle.constraints.specs.declared.types.Rule.TheVariants as rule
use Rattle.rule_check.specs.RuleNames.{Datasets}
use Rattle.rule_check.specs.WindowMeaning.{number_of_type, window_of}

abbrev pub meant_rule : Parts → Datasets → RawRule → Rule
meant_rule model datasets (raw_rule.Plain raw) = rule.Plain (window_of model datasets None raw)
meant_rule model datasets (raw_rule.Each bound kind raw) = rule.Each (number_of_type model kind) (window_of model datasets (Some bound.name) raw)
meant_rule model datasets (raw_rule.Forbid first second) = rule.Forbid (number_of_type model first) (number_of_type model second)

abbrev pub constraint_of : Parts → Datasets → RawConstraint → Constraint
constraint_of model datasets constraint = record { name = constraint.name.name; rule = meant_rule model datasets constraint.rule }

abbrev pub constraints_of : Parts → Datasets → List RawConstraint → List Constraint
constraints_of model datasets constraints = map (constraint_of model datasets) constraints
