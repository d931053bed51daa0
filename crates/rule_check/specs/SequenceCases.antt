-- Worked cases of rules of sequences that are read.
use Rattle.std.specs.Prelude.{◌≡◌, ℕ, negsuc, List, [], ◌∷◌, codes, true, Option, Some, None, refl}
use Rattle.aerie_base.specs.declared.expressions.Comparison.TheVariants.{More}
use Rattle.aerie_base.specs.declared.models.Activity.{Activity}
use Rattle.aerie_base.specs.declared.models.model.Parts.{Parts}
use Rattle.aerie_base.specs.declared.places.Place.{Place}
use Rattle.aerie_base.specs.declared.plans.Edge.TheVariants.{Start}
use Rattle.aerie_base.specs.declared.values.Kind.TheVariants.{Int}
use Rattle.model_reader.specs.declared.raw.literals.RawLiteralKind.TheVariants as literal
use Rattle.model_reader.specs.declared.raw.names.RawName.{RawName}
use Rattle.rule_grammar.specs.declared.raw.sequences.RawSendTest.{RawSendTest}
use Rattle.rule_grammar.specs.declared.raw.sequences.RawSequenceItem.{RawSequenceItem}
use Rattle.rule_grammar.specs.declared.raw.sequences.RawSequenceRule.TheVariants as sequence_rule
use Rattle.rule_grammar.specs.declared.raw.sequences.RawStep.{RawStep}
use Rattle.rule_grammar.specs.declared.raw.sequences.RawWord.{RawWord}
use Rattle.rule_grammar.specs.declared.raw.sequences.RawWordKind.TheVariants as written
use Rattle.rule_check.specs.declared.causes.WrongRule.TheVariants.{Unknown, Duplicate, WrongType}
use Rattle.diagnostics.specs.Diagnostics.{at_place}
use Rattle.rule_check.specs.Refusals.{first_diagnostic}
use Rattle.seq_expand.specs.declared.rules.SendWord.TheVariants as word
use Rattle.rule_check.specs.SequenceRefusals.{refusals_of_sequence}
use Rattle.rule_check.specs.SequenceMeaning.{sequencing_of}

-- an activity type with a number, and no result
abbrev bump : Activity
bump = record {
  name = codes "Bump";
  parameters = record { name = codes "by"; kind = Int; default = None } ∷ [];
  result = None;
  requires_ = [];
  slots = 1;
  body = [];
}

abbrev model : Parts
model = record { name = codes "m"; enums = []; cells = []; resources = []; activities = bump ∷ []; daemons = [] }

abbrev at : ℕ → Place
at column = record { line = 1; column = column }

abbrev named : ℕ → List ℕ → RawName
named column name = record { at = at column; name = name }

-- a step two microseconds before the start, with one word
abbrev step : RawWord → Option RawSendTest → RawStep
step word test = record { at = at 11; edge = Start; shift = negsuc 1; name = named 23 (codes "S"); words = word ∷ []; test = test }

abbrev rule : RawWord → Option RawSendTest → RawSequenceItem
rule word test = record { at = at 1; rule = sequence_rule.Span (named 5 (codes "Bump")) (step word test ∷ []) }

abbrev by_word : RawWord
by_word = record { at = at 25; what = written.Parameter (named 25 (codes "by")) }

abbrev result_word : RawWord
result_word = record { at = at 25; what = written.SpanResult }

-- the parameter is above a truth
abbrev true_test : RawSendTest
true_test = record { parameter = named 32 (codes "by"); how = More; with = record { at = at 37; what = literal.Truth true } }

pub a_rule_that_is_read : sequencing_of model (rule by_word None ∷ []) ≡ record {
  rules = record { kind = 0; steps = record { edge = Start; shift = negsuc 1; name = codes "S"; words = word.Parameter 0 ∷ []; test = None } ∷ [] } ∷ [];
  spacings = [];
}
a_rule_that_is_read = refl

pub nothing_is_refused : refusals_of_sequence model (rule by_word None ∷ []) ≡ []
nothing_is_refused = refl

pub no_result : refusals_of_sequence model (rule result_word None ∷ []) ≡ at_place WrongType (at 25)
no_result = refl

pub a_truth_is_not_ordered : refusals_of_sequence model (rule by_word (Some true_test) ∷ []) ≡ at_place WrongType (at 37)
a_truth_is_not_ordered = refl

-- the second rule for the type is refused at its name, before what is wrong behind it
pub two_rules_of_one_type : first_diagnostic (refusals_of_sequence model (rule by_word None ∷ rule result_word None ∷ [])) ≡ Some (record { place = at 5; cause = Duplicate })
two_rules_of_one_type = refl

pub an_unknown_type :
    refusals_of_sequence model (record { at = at 1; rule = sequence_rule.Span (named 5 (codes "Bum")) (step result_word None ∷ []) } ∷ []) ≡ at_place Unknown (at 5)
an_unknown_type = refl
