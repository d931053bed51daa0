-- What is read of whole numbers and literals conforms to the grammar of models.
use Rattle.std.proofs.Common.{◌≡◌, Bool, true, false, ◌||◌, List, refl}
use Rattle.readers.specs.Marks.{Mark}
use Rattle.aerie_text.specs.declared.sorts.Sort.{Sort}
use Rattle.aerie_text.specs.declared.sorts.Sort.TheVariants as sort
use Rattle.readers.specs.grammar.Forms.{token, rule}
use Rattle.readers.specs.Parsed.{is_of}
use Rattle.readers.proofs.Conforming.{Begins, and_then, then_value, value, either_conforms, option_conforms, rule_conforms}
use Rattle.model_reader.specs.grammar.Factored.{look, sign_form, amount_form, signed_amount_form, variant_form}
use Rattle.model_reader.specs.grammar.Rules.{int_rule, literal_rule}
use Rattle.model_reader.specs.reading.Literals.{minus_at, sign_at, int_at, amount_at, amount_literal_at, truth_literal_at, variant_literal_at, begins_amount, literal_at}
use Rattle.model_reader.proofs.Following.Names.{Along, begins_with, take_conforms, number_conforms, raw_name_conforms}
use Rattle.model_reader.proofs.Grammar.Predictive.{predictive}

minus_conforms : (marks : List Mark) → Along (token sort.Minus) marks (minus_at marks)
unfolding minus_at
minus_conforms marks = then_value _ (take_conforms sort.Minus marks) (λ minus rest. value)

pub sign_conforms : (marks : List Mark) → Along sign_form marks (sign_at marks)
unfolding sign_at
sign_conforms marks = option_conforms _ _ (begins_with sort.Minus) (λ next. minus_conforms marks) value

pub int_conforms : (marks : List Mark) → Along (rule int_rule) marks (int_at marks)
unfolding int_at
int_conforms marks = rule_conforms predictive (and_then _ (sign_conforms marks) (λ sign rest. then_value _ (number_conforms sort.Number rest) (λ number behind. value)))

pub amount_conforms : (marks : List Mark) → Along amount_form marks (amount_at marks)
unfolding amount_at
amount_conforms marks = either_conforms _ _ (begins_with sort.Number) refl (λ next. number_conforms sort.Number marks) (λ next. number_conforms sort.Time marks)

amount_literal_conforms : (marks : List Mark) → Along signed_amount_form marks (amount_literal_at marks)
unfolding amount_literal_at
amount_literal_conforms marks = and_then _ (sign_conforms marks) (λ sign rest. then_value _ (amount_conforms rest) (λ amount behind. value))

truth_literal_conforms : (word : Sort) (truth : Bool) (marks : List Mark) → Along (token word) marks (truth_literal_at word truth marks)
unfolding truth_literal_at
truth_literal_conforms word truth marks = then_value _ (take_conforms word marks) (λ mark rest. value)

variant_literal_conforms : (marks : List Mark) → Along variant_form marks (variant_literal_at marks)
unfolding variant_literal_at
variant_literal_conforms marks =
    and_then _ (raw_name_conforms marks) (λ name rest. and_then _ (take_conforms sort.Dot rest) (λ dot behind. then_value _ (raw_name_conforms behind) (λ variant left. value)))

-- the tests of what an amount with a sign begins with, in the order of its form
as_signed : (minus number time : Bool) → (minus || (number || time)) ≡ ((minus || false) || (number || time))
as_signed true number time = refl
as_signed false number time = refl

amount_literal_begins : Begins look begins_amount signed_amount_form
amount_literal_begins = record { is = λ k. as_signed (is_of sort.Minus k) (is_of sort.Number k) (is_of sort.Time k) }

pub literal_conforms : (marks : List Mark) → Along (rule literal_rule) marks (literal_at marks)
unfolding literal_at
literal_conforms marks =
    rule_conforms predictive (either_conforms _ _ amount_literal_begins refl (λ next. amount_literal_conforms marks)
    (λ next. either_conforms _ _ (begins_with sort.True) refl (λ next. truth_literal_conforms sort.True true marks)
    (λ next. either_conforms _ _ (begins_with sort.False) refl (λ next. truth_literal_conforms sort.False false marks)
    (λ next. variant_literal_conforms marks))))
