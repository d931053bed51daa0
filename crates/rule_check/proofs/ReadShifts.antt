-- The shifts of rules that are read.
use Rattle.std.proofs.Common.{◌≡◌, ℤ, pos, Bool, true, false, List, [], ◌∷◌, ◌++◌, map, nat_le, refl, if◌then◌else◌}
use Rattle.std.specs.List.{list_all}
use Rattle.std.specs.Int.RustNames.{unsigned_abs}
use Rattle.aerie_base.specs.Ranges.{time_limit}
use Rattle.aerie_base.specs.declared.models.Parameter.{Parameter}
use Rattle.aerie_base.specs.declared.models.model.Parts.{Parts}
use Rattle.rule_grammar.specs.declared.raw.sequences.RawSequenceItem.{RawSequenceItem}
use Rattle.rule_grammar.specs.declared.raw.sequences.RawSequenceRule.{RawSequenceRule}
use Rattle.rule_grammar.specs.declared.raw.sequences.RawSequenceRule.TheVariants as sequence_rule
use Rattle.rule_grammar.specs.declared.raw.sequences.RawStep.{RawStep}
use Rattle.rule_check.specs.WindowMeaning.{signed_time}
use Rattle.rule_check.specs.RuleLiterals.{activity_named, parameters_if_known}
use Rattle.seq_expand.specs.OfModel.{farthest_shift, has_shift, have_shifts}
use Rattle.rule_check.specs.SequenceMeaning.{meant_step, meant_rules, rules_of}

shift_is : (count : ℤ) → nat_le (unsigned_abs (signed_time count)) farthest_shift ≡ true
shift_is count = go (nat_le (unsigned_abs count) time_limit) refl
  where
    go : (v : Bool) → nat_le (unsigned_abs count) time_limit ≡ v → nat_le (unsigned_abs (if v then count else pos 0)) farthest_shift ≡ true
    go true e = e
    go false e = refl

steps_have : (model : Parts) (parameters : List Parameter) (steps : List RawStep) → list_all has_shift (map (meant_step model parameters) steps) ≡ true
steps_have model parameters [] = refl
steps_have model parameters (step ∷ rest) = rw (shift_is step.shift, steps_have model parameters rest) refl

rule_has : (model : Parts) (rule : RawSequenceRule) (items : List RawSequenceItem) → list_all have_shifts (rules_of model items) ≡ true → list_all have_shifts (meant_rules model rule ++ rules_of model items) ≡ true
rule_has model (sequence_rule.Span kind steps) items e = rw (steps_have model (parameters_if_known (activity_named model kind.name)) steps, e) refl
rule_has model (sequence_rule.Spacing name least) items e = e

pub rules_have : (model : Parts) (items : List RawSequenceItem) → list_all have_shifts (rules_of model items) ≡ true
rules_have model [] = refl
rules_have model (item ∷ rest) = rule_has model item.rule rest (rules_have model rest)
