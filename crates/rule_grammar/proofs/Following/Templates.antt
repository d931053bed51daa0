-- What is read of literals, of numbers with their places and of activities with arguments conforms to the grammar of rules.
use Rattle.std.proofs.Common.{◌≡◌, Bool, true, false, ◌||◌, List, None, refl}
use Rattle.aerie_text.specs.declared.sorts.Sort.{Sort}
use Rattle.aerie_text.specs.declared.sorts.Sort.TheVariants as sort
use Rattle.readers.specs.Marks.{Mark}
use Rattle.readers.specs.Parsed.{is_of}
use Rattle.readers.specs.grammar.Forms.{token, rule, option}
use Rattle.readers.proofs.Conforming.{Begins, begins_both, and_then, then_value, value, either_conforms, option_conforms, rule_conforms}
use Rattle.readers.proofs.Listing.{parenthesized_conforms}
use Rattle.model_reader.specs.reading.Literals.{minus_at, sign_at, amount_at, amount_literal_at, truth_literal_at, variant_literal_at, begins_amount, literal_at}
use Rattle.rule_grammar.specs.grammar.Factored.{look, amount_form, signed_amount_form}
use Rattle.rule_grammar.specs.grammar.Rules.{given_rule, literal_rule, sdur_rule}
use Rattle.rule_grammar.specs.grammar.Written.{variant_form, argument_form}
use Rattle.rule_grammar.specs.reading.Templates.{raw_number_at, placed_duration_at, argument_at, template_at}
use Rattle.rule_grammar.proofs.Following.Names.{Along, begins_with, taken, raw_name_conforms}
use Rattle.rule_grammar.proofs.Grammar.Predictive.{predictive}

minus_conforms : (marks : List Mark) → Along (token sort.Minus) marks (minus_at marks)
unfolding minus_at
minus_conforms marks = then_value _ (taken sort.Minus _) (λ minus rest. value)

sign_conforms : (marks : List Mark) → Along (option (token sort.Minus)) marks (sign_at marks)
unfolding sign_at
sign_conforms marks = option_conforms _ _ (begins_with sort.Minus) (λ next. minus_conforms marks) value

amount_conforms : (marks : List Mark) → Along amount_form marks (amount_at marks)
unfolding amount_at
amount_conforms marks = either_conforms _ _ (begins_with sort.Number) refl (λ next. taken sort.Number _) (λ next. taken sort.Time _)

pub amount_literal_conforms : (marks : List Mark) → Along signed_amount_form marks (amount_literal_at marks)
unfolding amount_literal_at
amount_literal_conforms marks = and_then _ (sign_conforms marks) (λ sign rest. then_value _ (amount_conforms rest) (λ amount behind. value))

pub truth_literal_conforms : (s : Sort) (truth : Bool) (marks : List Mark) → Along (token s) marks (truth_literal_at s truth marks)
unfolding truth_literal_at
truth_literal_conforms s truth marks = then_value _ (taken s _) (λ word rest. value)

variant_literal_conforms : (marks : List Mark) → Along variant_form marks (variant_literal_at marks)
unfolding variant_literal_at
variant_literal_conforms marks = and_then _ (raw_name_conforms marks) (λ kind rest. and_then _ (taken sort.Dot _) (λ dot rest. then_value _ (raw_name_conforms rest) (λ variant rest. value)))

or_nothing : (a b c : Bool) → (a || (b || c)) ≡ ((a || false) || (b || c))
or_nothing true b c = refl
or_nothing false b c = refl

pub amount_begins : Begins look begins_amount signed_amount_form
amount_begins = record { is = λ k. or_nothing (is_of sort.Minus k) (is_of sort.Number k) (is_of sort.Time k) }

pub literal_conforms : (marks : List Mark) → Along (rule literal_rule) marks (literal_at marks)
unfolding literal_at
literal_conforms marks =
    rule_conforms predictive (either_conforms _ _ amount_begins refl (λ next. amount_literal_conforms marks)
    (λ next. either_conforms _ _ (begins_with sort.True) refl (λ next. truth_literal_conforms sort.True true marks)
    (λ next. either_conforms _ _ (begins_with sort.False) refl (λ next. truth_literal_conforms sort.False false marks)
    (λ next. variant_literal_conforms marks))))

pub raw_number_conforms : (s : Sort) (marks : List Mark) → Along (token s) marks (raw_number_at s marks)
unfolding raw_number_at
raw_number_conforms s marks = then_value _ (taken s _) (λ number rest. value)

pub placed_duration_conforms : (marks : List Mark) → Along (rule sdur_rule) marks (placed_duration_at marks)
unfolding placed_duration_at
placed_duration_conforms marks = rule_conforms predictive (and_then _ (sign_conforms marks) (λ sign rest. then_value _ (taken sort.Time _) (λ time behind. value)))

argument_conforms : (marks : List Mark) → Along argument_form marks (argument_at marks)
unfolding argument_at
argument_conforms marks = and_then _ (raw_name_conforms marks) (λ name rest. and_then _ (taken sort.Assign _) (λ sign rest. then_value _ (literal_conforms rest) (λ given rest. value)))

pub template_conforms : (marks : List Mark) → Along (rule given_rule) marks (template_at marks)
unfolding template_at
template_conforms marks =
    rule_conforms predictive (and_then _ (raw_name_conforms marks) (λ kind rest. then_value _
    (parenthesized_conforms predictive sort.Name (λ k. refl) (λ k. refl) (λ k. refl) (begins_both (begins_with sort.Name) refl) refl argument_conforms None rest) (λ arguments rest. value)))
