-- What is read of types and reads conforms to the grammar of models.
use Rattle.std.proofs.Common.{List, [], ◌∷◌, refl}
use Rattle.readers.specs.Marks.{Mark}
use Rattle.aerie_text.specs.declared.sorts.Sort.TheVariants as sort
use Rattle.readers.specs.grammar.Forms.{token, rule}
use Rattle.readers.proofs.Conforming.{and_then, then_value, value, either_conforms, option_conforms, rule_conforms, begins_both}
use Rattle.model_reader.specs.declared.raw.reads.RawPart.TheVariants as part
use Rattle.model_reader.specs.grammar.Factored.{part_form, dotted_part_form, read_part_form}
use Rattle.model_reader.specs.grammar.Rules.{type_rule, read_rule}
use Rattle.model_reader.specs.reading.Types.{named_type_at, type_at, part_at, dotted_part_at, read_part_at, read_at}
use Rattle.model_reader.proofs.Following.Names.{Along, begins_with, take_conforms, raw_name_conforms, standing_for_conforms, one_standing_for_conforms}
use Rattle.model_reader.proofs.Grammar.Predictive.{predictive}

named_type_conforms : (marks : List Mark) → Along (token sort.Name) marks (named_type_at marks)
unfolding named_type_at
named_type_conforms marks = then_value _ (raw_name_conforms marks) (λ name rest. value)

pub type_conforms : (marks : List Mark) → Along (rule type_rule) marks (type_at marks)
unfolding type_at
type_conforms marks =
    rule_conforms predictive (either_conforms _ _ (begins_with sort.Int) refl (λ next. standing_for_conforms sort.Int _ marks)
    (λ next. either_conforms _ _ (begins_with sort.Duration) refl (λ next. standing_for_conforms sort.Duration _ marks)
    (λ next. either_conforms _ _ (begins_with sort.Truth) refl (λ next. standing_for_conforms sort.Truth _ marks)
    (λ next. named_type_conforms marks))))

pub part_conforms : (marks : List Mark) → Along part_form marks (part_at marks)
unfolding part_at
part_conforms marks =
    one_standing_for_conforms (sort.Volume, part.Volume) ((sort.Rate, part.Rate) ∷ (sort.Conflicted, part.Conflicted) ∷ []) marks

dotted_part_conforms : (marks : List Mark) → Along dotted_part_form marks (dotted_part_at marks)
unfolding dotted_part_at
dotted_part_conforms marks = and_then _ (take_conforms sort.Dot marks) (λ dot rest. part_conforms rest)

read_part_conforms : (marks : List Mark) → Along read_part_form marks (read_part_at marks)
unfolding read_part_at
read_part_conforms marks = option_conforms _ _ (begins_both (begins_with sort.Dot) refl) (λ next. dotted_part_conforms marks) value

pub read_conforms : (marks : List Mark) → Along (rule read_rule) marks (read_at marks)
unfolding read_at
read_conforms marks = rule_conforms predictive (and_then _ (raw_name_conforms marks) (λ name rest. then_value _ (read_part_conforms rest) (λ read_part behind. value)))
