-- What is read of sequences conforms to the grammar of rules.
use Rattle.std.proofs.Common.{Bool, true, false, List, [], ◌∷◌, ◌++◌, None, refl}
use Rattle.aerie_text.specs.declared.sorts.Sort.{Sort}
use Rattle.aerie_text.specs.declared.sorts.Sort.TheVariants as sort
use Rattle.readers.specs.Lists.{pushed_at, separated_parts_at}
use Rattle.readers.specs.Marks.{Mark}
use Rattle.readers.specs.Parsed.{Parsed, parsed}
use Rattle.readers.specs.grammar.Forms.{Form, token, rule, both, either, option, separated}
use Rattle.readers.proofs.Conforming.{begins_both, begins_either, begins_rule, in_table, and_then, then_value, value, either_conforms, option_conforms, rule_conforms, separated_conforms}
use Rattle.readers.proofs.Listing.{row_conforms}
use Rattle.model_reader.specs.declared.raw.names.RawName.{RawName}
use Rattle.readers.specs.Verdicts.{JudgesAll}
use Rattle.rule_grammar.specs.grammar.Factored.{signed_amount_form, variant_part_form, named_word_form, literal_first}
use Rattle.rule_grammar.specs.grammar.Rules.{Rule, sequence_rule, step_rule, word_rule}
use Rattle.rule_grammar.specs.grammar.Written.{span_rule_form, spacing_form, time_of_step_form, condition_form, written}
use Rattle.rule_grammar.specs.reading.Sequences.{amount_word_at, truth_word_at, variant_word_at, named_word_at, result_word_at, sent_word_at, words_at, signed_shift_at, optional_shift_at, time_of_step_at, send_test_at, optional_test_at, sent_at, step_at, span_rule_at, spacing_least_at, spacing_at, sequence_item_at, sequence_at}
use Rattle.rule_grammar.specs.reading.ToTheEnd.{to_the_end}
use Rattle.rule_grammar.proofs.Following.Goals.{placed_edge_conforms}
use Rattle.rule_grammar.proofs.Following.Names.{Along, begins_with, begins_with_one_of, taken, raw_name_conforms}
use Rattle.rule_grammar.proofs.Following.Sums.{sum_sign_conforms}
use Rattle.rule_grammar.proofs.Following.Templates.{amount_literal_conforms, truth_literal_conforms, literal_conforms, amount_begins}
use Rattle.rule_grammar.proofs.Following.Tested.{compare_sign_conforms}
use Rattle.rule_grammar.proofs.Grammar.Alike.{sequences_alike}
use Rattle.rule_grammar.proofs.Grammar.Predictive.{predictive}
use Rattle.rule_grammar.proofs.Grammar.Verdicts.{judged_to_the_end}

-- a part behind others
pushed_conforms : {A : Type 0} {a : Form Rule Sort} {part_at : List Mark → Parsed A} → ((here : List Mark) → Along a here (part_at here)) → (so_far : List A) (marks : List Mark) → Along a marks (pushed_at part_at so_far marks)
pushed_conforms {part_at = part_at} law so_far marks = then_value (λ last. parsed (so_far ++ last.0 ∷ []) last.1) (law marks) (λ last rest. value)

-- parts with commas between them
separated_parts_conform : {A : Type 0} {a : Form Rule Sort} {part_at : List Mark → Parsed A} → ((here : List Mark) → Along a here (part_at here)) → (marks : List Mark)
    → Along (separated (token sort.Comma) a) marks (separated_parts_at part_at marks)
separated_parts_conform law marks = separated_conforms sort.Comma [] (λ k. refl) (pushed_conforms law)

-- ---- words

amount_word_conforms : (marks : List Mark) → Along signed_amount_form marks (amount_word_at marks)
unfolding amount_word_at
amount_word_conforms marks = then_value _ (amount_literal_conforms marks) (λ given rest. value)

truth_word_conforms : (s : Sort) (truth : Bool) (marks : List Mark) → Along (token s) marks (truth_word_at s truth marks)
unfolding truth_word_at
truth_word_conforms s truth marks = then_value _ (truth_literal_conforms s truth marks) (λ given rest. value)

variant_word_conforms : (kind : RawName) (marks : List Mark) → Along variant_part_form marks (variant_word_at kind marks)
unfolding variant_word_at
variant_word_conforms kind marks = and_then _ (taken sort.Dot _) (λ dot rest. then_value _ (raw_name_conforms rest) (λ variant rest. value))

named_word_conforms : (marks : List Mark) → Along named_word_form marks (named_word_at marks)
unfolding named_word_at
named_word_conforms marks = and_then _ (raw_name_conforms marks) (λ name rest. option_conforms _ _ (begins_both (begins_with sort.Dot) refl) (λ next. variant_word_conforms name rest) value)

result_word_conforms : (marks : List Mark) → Along (token sort.Return) marks (result_word_at marks)
unfolding result_word_at
result_word_conforms marks = then_value _ (taken sort.Return _) (λ word rest. value)

sent_word_conforms : (marks : List Mark) → Along (rule word_rule) marks (sent_word_at marks)
unfolding sent_word_at
sent_word_conforms marks =
    rule_conforms predictive (either_conforms _ _ amount_begins refl (λ next. amount_word_conforms marks)
    (λ next. either_conforms _ _ (begins_with sort.True) refl (λ next. truth_word_conforms sort.True true marks)
    (λ next. either_conforms _ _ (begins_with sort.False) refl (λ next. truth_word_conforms sort.False false marks)
    (λ next. either_conforms _ _ (begins_both (begins_with sort.Name) refl) refl (λ next. named_word_conforms marks) (λ next. result_word_conforms marks)))))

words_conform : (marks : List Mark) → Along (option (separated (token sort.Comma) (rule word_rule))) marks (words_at marks)
unfolding words_at
words_conform marks =
    option_conforms _ _ (begins_both (begins_rule (in_table (sort.Return ∷ literal_first))) refl) (λ next. separated_parts_conform sent_word_conforms marks) value

-- ---- steps

signed_shift_conforms : (marks : List Mark) → Along (both (either (token sort.Plus) (token sort.Minus)) (token sort.Time)) marks (signed_shift_at marks)
unfolding signed_shift_at
signed_shift_conforms marks = and_then _ (sum_sign_conforms marks) (λ negative rest. then_value _ (taken sort.Time _) (λ time rest. value))

optional_shift_conforms : (marks : List Mark) → Along (option (both (either (token sort.Plus) (token sort.Minus)) (token sort.Time))) marks (optional_shift_at marks)
unfolding optional_shift_at
optional_shift_conforms marks = option_conforms _ _ (begins_both (begins_with_one_of sort.Plus (sort.Minus ∷ [])) refl) (λ next. signed_shift_conforms marks) value

time_of_step_conforms : (marks : List Mark) → Along time_of_step_form marks (time_of_step_at marks)
unfolding time_of_step_at
time_of_step_conforms marks = and_then _ (placed_edge_conforms marks) (λ edge rest. then_value _ (optional_shift_conforms rest) (λ shift rest. value))

send_test_conforms : (marks : List Mark) → Along condition_form marks (send_test_at marks)
unfolding send_test_at
send_test_conforms marks =
    and_then _ (taken sort.If _) (λ word rest. and_then _ (raw_name_conforms rest) (λ parameter rest. and_then _ (compare_sign_conforms rest) (λ how rest. then_value _ (literal_conforms rest) (λ given rest. value))))

optional_test_conforms : (marks : List Mark) → Along (option condition_form) marks (optional_test_at marks)
unfolding optional_test_at
optional_test_conforms marks = option_conforms _ _ (begins_both (begins_with sort.If) refl) (λ next. send_test_conforms marks) value

step_conforms : (marks : List Mark) → Along (rule step_rule) marks (step_at marks)
unfolding step_at sent_at
step_conforms marks =
    rule_conforms predictive (and_then _ (time_of_step_conforms marks) (λ time rest. and_then _ (raw_name_conforms rest) (λ name rest. then_value _
    (and_then _ (taken sort.OpenParenthesis _) (λ front rest. and_then _ (words_conform rest) (λ words rest. and_then _ (taken sort.CloseParenthesis _) (λ close rest.
    then_value _ (optional_test_conforms rest) (λ test rest. value))))) (λ sent rest. value))))

-- ---- rules

span_rule_conforms : (marks : List Mark) → Along span_rule_form marks (span_rule_at marks)
unfolding span_rule_at
span_rule_conforms marks =
    and_then _ (taken sort.For _) (λ word rest. and_then _ (raw_name_conforms rest) (λ kind rest. and_then _ (taken sort.Colon _) (λ colon rest.
    and_then _ (separated_parts_conform step_conforms rest) (λ steps rest. then_value _ (taken sort.Semicolon _) (λ end rest. value)))))

spacing_least_conforms : (marks : List Mark) → Along (both (token sort.Comma) (both (token sort.Time) (both (token sort.CloseParenthesis) (token sort.Semicolon)))) marks (spacing_least_at marks)
unfolding spacing_least_at
spacing_least_conforms marks =
    and_then _ (taken sort.Comma _) (λ comma rest. and_then _ (taken sort.Time _) (λ time rest. and_then _ (taken sort.CloseParenthesis _) (λ close rest. then_value _ (taken sort.Semicolon _) (λ end rest. value))))

spacing_conforms : (marks : List Mark) → Along spacing_form marks (spacing_at marks)
unfolding spacing_at
spacing_conforms marks =
    and_then _ (taken sort.Longer _) (λ word rest. and_then _ (taken sort.OpenParenthesis _) (λ front rest. and_then _ (raw_name_conforms rest) (λ name rest. then_value _ (spacing_least_conforms rest) (λ least rest. value))))

sequence_item_conforms : (marks : List Mark) → Along (either span_rule_form spacing_form) marks (sequence_item_at marks)
unfolding sequence_item_at
sequence_item_conforms marks = either_conforms _ _ (begins_both (begins_with sort.For) refl) refl (λ next. span_rule_conforms marks) (λ next. spacing_conforms marks)

sequence_conforms : (marks : List Mark) → Along (rule sequence_rule) marks (sequence_at marks)
unfolding sequence_at
sequence_conforms marks =
    rule_conforms predictive (row_conforms predictive (sort.For ∷ sort.Longer ∷ []) (begins_either (begins_both (begins_with sort.For) refl) (begins_both (begins_with sort.Longer) refl)) refl sequence_item_conforms None marks)

pub sequences_judged : (marks : List Mark) → JudgesAll written sequence_rule marks (to_the_end (sequence_at marks))
sequences_judged marks = judged_to_the_end sequence_rule sequences_alike marks _ (sequence_conforms marks)
