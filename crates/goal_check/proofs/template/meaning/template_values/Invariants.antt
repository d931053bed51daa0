use Rattle.std.proofs.Common.{◌≡◌, take, map}
use Rattle.goal_check.specs.TemplateMeaning.{template_value}
use Rattle.goal_check.proofs.template.meaning.template_values.Given as goal

-- so many were made as were passed, each the one that is meant
abbrev pub invariant-loop-parameter : goal.invariant-loop-parameter
invariant-loop-parameter l = l.values ≡ map (template_value l.fn.model l.fn.arguments) (take l.parameter-index l.parameters)
