-- What is refused of constraints.
use Rattle.std.specs.Prelude.{ℕ, ◌-◌, Bool, not, List, [], ◌++◌, take, drop, Some, None}
use Rattle.aerie_base.specs.declared.models.model.Parts.{Parts}
use Rattle.std.specs.List.{list_any}
use Rattle.aerie_base.specs.models.Names.{same_name}
use Rattle.readers.specs.declared.limits.Limit.TheVariants.{Constraints}
use Rattle.rule_grammar.specs.declared.raw.constraints.RawConstraint.{RawConstraint}
use Rattle.rule_grammar.specs.declared.raw.constraints.RawRule.{RawRule}
use Rattle.rule_grammar.specs.declared.raw.constraints.RawRule.TheVariants as raw_rule
use Rattle.diagnostics.specs.declared.diagnostic.Diagnostic.{Diagnostic}
use Rattle.rule_check.specs.declared.causes.WrongRule.{WrongRule}
use Rattle.rule_check.specs.declared.causes.WrongRule.TheVariants.{Duplicate, TooMany}
use Rattle.diagnostics.specs.Diagnostics.{at_place, refused_unless}
use Rattle.rule_check.specs.Refusals.{refusals_in_turn}
use Rattle.rule_check.specs.RuleNames.{Datasets}
use Rattle.rule_check.specs.WindowRefusals.{refusals_of_type, refusals_of_window}

-- the most constraints of a model
abbrev pub most_constraints : ℕ
most_constraints = 256

abbrev pub refusals_of_rule : Parts → Datasets → RawRule → List (Diagnostic WrongRule)
refusals_of_rule model datasets (raw_rule.Plain window) = refusals_of_window model datasets None window
refusals_of_rule model datasets (raw_rule.Each bound kind window) = refusals_of_type model kind ++ refusals_of_window model datasets (Some bound.name) window
refusals_of_rule model datasets (raw_rule.Forbid first second) = refusals_of_type model first ++ refusals_of_type model second

-- whether one of the constraints has the name
abbrev pub is_name_of_one : List RawConstraint → List ℕ → Bool
is_name_of_one constraints name = list_any (λ other. same_name other.name.name name) constraints

-- a constraint behind others
abbrev pub refusals_of_constraint : Parts → Datasets → List RawConstraint → RawConstraint → List (Diagnostic WrongRule)
refusals_of_constraint model datasets others constraint =
    refused_unless (not (is_name_of_one others constraint.name.name)) Duplicate constraint.name.at ++ refusals_of_rule model datasets constraint.rule

-- one constraint more than there may be
abbrev pub too_many_constraints : RawConstraint → List (Diagnostic WrongRule)
too_many_constraints constraint = at_place (TooMany Constraints) constraint.name.at

-- constraints behind others, of which there may be so many more
abbrev pub refusals_of_more : Parts → Datasets → ℕ → List RawConstraint → List RawConstraint → List (Diagnostic WrongRule)
refusals_of_more model datasets room others constraints =
    refusals_in_turn (refusals_of_constraint model datasets) too_many_constraints room others constraints

-- those from one on
abbrev pub refusals_from : Parts → Datasets → ℕ → List RawConstraint → List (Diagnostic WrongRule)
refusals_from model datasets at constraints = refusals_of_more model datasets (most_constraints - at) (take at constraints) (drop at constraints)

-- what is refused of the constraints of a model
abbrev pub refusals_of_constraints : Parts → Datasets → List RawConstraint → List (Diagnostic WrongRule)
refusals_of_constraints model datasets constraints = refusals_of_more model datasets most_constraints [] constraints
