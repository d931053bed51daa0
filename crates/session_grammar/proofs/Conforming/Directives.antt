-- What is read of the parts of directives conforms to the grammar of sessions: each law has the shape of its definition.
use Rattle.std.proofs.Common.{◌≡◌, true, false, Bool, List, [], ◌∷◌, nat_eq, refl, ap, sym, ◌∙◌, ◌||◌, None}
use Rattle.aerie_base.specs.declared.plans.Edge.{Edge}
use Rattle.aerie_text.specs.Sorts.{number_of}
use Rattle.aerie_text.specs.declared.sorts.Sort.{Sort}
use Rattle.aerie_text.specs.declared.sorts.Sort.TheVariants as sort
use Rattle.model_reader.specs.grammar.Rules.{literal_rule}
use Rattle.model_reader.specs.reading.Literals.{amount_at, begins_amount}
use Rattle.readers.specs.Conforms.{Conforms}
use Rattle.readers.specs.Marks.{Mark}
use Rattle.readers.specs.Parsed.{Parsed, is_of, is_one_of, mark_at}
use Rattle.readers.specs.grammar.Forms.{Form, token, rule, both, either}
use Rattle.readers.proofs.Conforming.{token_conforms, has_conforms, and_then, then_value, value, either_conforms, rule_conforms, Begins, begins_token, begins_both, begins_either}
use Rattle.readers.proofs.Listing.{parenthesized_conforms}
use Rattle.readers.proofs.Within.{within_conforms, halves_conform}
use Rattle.session_grammar.proofs.Conforming.Terminals.{id_fits, plain_fits, number_begins, time_begins}
use Rattle.session_grammar.proofs.Grammar.Predictive.{predictive}
use Rattle.session_grammar.specs.grammar.Embedding.{of_sort}
use Rattle.session_grammar.specs.grammar.Factored.{look, edge_form, anchored_form, signed_amount_form}
use Rattle.session_grammar.specs.grammar.Rules.{Rule, when_rule, given_rule, of_model}
use Rattle.session_grammar.specs.grammar.Terminals.{Terminal, fits, id_limit, plain, id_number, great_number, no_time, some_time}
use Rattle.session_grammar.specs.grammar.Written.{id_form, duration_form, argument_form}
use Rattle.session_grammar.specs.reading.Directives.{id_at, duration_at, edge_word_at, edge_at, anchored_at, unanchored_at, instant_text_at, when_at, signed_amount_at, truth_at, variant_at, value_at, argument_at, given_at}

abbrev pub Along : {A : Type 0} → Form Rule Terminal → List Mark → Parsed A → Type 0
Along form marks reading = Conforms look form marks reading

-- a sort that is a terminal of its own
abbrev pub IsPlain : Sort → Type 0
IsPlain s = (nat_eq (number_of s) 70 ≡ false) × (nat_eq (number_of s) 71 ≡ false)

pub taken : {A : Type 0} (s : Sort) (says : Mark → A) → IsPlain s → {marks : List Mark} → Along (token (plain s)) marks (mark_at s says marks)
taken s says is = token_conforms s says (λ k. plain_fits k s is.0 is.1)

pub begins_with : (s : Sort) → IsPlain s → Begins look (is_of s) (token (plain s))
begins_with s is = begins_token s (λ k. plain_fits k s is.0 is.1)

pub id_law : (marks : List Mark) → Along id_form marks (id_at marks)
unfolding id_at
id_law marks = then_value _ (within_conforms sort.Number 0 id_limit (λ k. id_fits k)) (λ id rest. value)

duration_law : (marks : List Mark) → Along duration_form marks (duration_at marks)
unfolding duration_at
duration_law marks = then_value _ (halves_conform sort.Time _ time_begins) (λ time rest. value)

edge_word_law : (s : Sort) (edge : Edge) → IsPlain s → (marks : List Mark) → Along (token (plain s)) marks (edge_word_at s edge marks)
unfolding edge_word_at
edge_word_law s edge is marks = then_value _ (taken s _ is) (λ word rest. value)

edge_law : (marks : List Mark) → Along edge_form marks (edge_at marks)
unfolding edge_at
edge_law marks = either_conforms _ _ (begins_with sort.Start (refl, refl)) refl (λ next. edge_word_law sort.Start _ (refl, refl) marks) (λ next. edge_word_law sort.End _ (refl, refl) marks)

anchored_law : (marks : List Mark) → Along anchored_form marks (anchored_at marks)
unfolding anchored_at
anchored_law marks =
    and_then _ (edge_law marks) (λ edge rest. and_then _ (taken sort.Of _ (refl, refl)) (λ word rest. and_then _ (id_law rest) (λ id rest.
    and_then _ (taken sort.Plus _ (refl, refl)) (λ plus rest. then_value _ (duration_law rest) (λ time rest. value)))))

unanchored_law : (marks : List Mark) → Along duration_form marks (unanchored_at marks)
unfolding unanchored_at
unanchored_law marks = then_value _ (duration_law marks) (λ time rest. value)

instant_law : (marks : List Mark) → Along (token (plain sort.Quoted)) marks (instant_text_at marks)
unfolding instant_text_at
instant_law marks = then_value _ (taken sort.Quoted _ (refl, refl)) (λ text rest. value)

anchored_begins : Begins look (is_one_of (sort.Start ∷ sort.End ∷ [])) anchored_form
anchored_begins = begins_both (begins_either (begins_with sort.Start (refl, refl)) (begins_with sort.End (refl, refl))) refl

pub when_law : (marks : List Mark) → Along (rule when_rule) marks (when_at marks)
unfolding when_at
when_law marks =
    rule_conforms predictive (either_conforms _ _ anchored_begins refl (λ next. anchored_law marks)
    (λ next. either_conforms _ _ (begins_with sort.Quoted (refl, refl)) refl (λ next. instant_law marks) (λ next. unanchored_law marks)))

-- ---- literals

pub amount_law : (marks : List Mark) → Along (either (of_sort sort.Number) (of_sort sort.Time)) marks (amount_at marks)
unfolding amount_at
amount_law marks = either_conforms _ _ (record { is = number_begins }) refl (λ next. halves_conform sort.Number _ number_begins) (λ next. halves_conform sort.Time _ time_begins)

signed_amount_law : (marks : List Mark) → Along signed_amount_form marks (signed_amount_at marks)
unfolding signed_amount_at
signed_amount_law marks = and_then _ (has_conforms sort.Minus (λ k. plain_fits k sort.Minus refl refl)) (λ minus rest. then_value _ (amount_law rest) (λ amount rest. value))

truth_law : (s : Sort) (truth : Bool) → IsPlain s → (marks : List Mark) → Along (token (plain s)) marks (truth_at s truth marks)
unfolding truth_at
truth_law s truth is marks = then_value _ (taken s _ is) (λ word rest. value)

variant_law : (marks : List Mark) → Along (both (token (plain sort.Name)) (both (token (plain sort.Dot)) (token (plain sort.Name)))) marks (variant_at marks)
unfolding variant_at
variant_law marks = and_then _ (taken sort.Name _ (refl, refl)) (λ kind rest. and_then _ (taken sort.Dot _ (refl, refl)) (λ dot rest. then_value _ (taken sort.Name _ (refl, refl)) (λ variant rest. value)))

pub amount_begins : Begins look begins_amount signed_amount_form
amount_begins = record { is = by_parts }
  where
    swapped : (a b c : Bool) → (a || (b || c)) ≡ ((a || false) || (b || c))
    swapped true b c = refl
    swapped false b c = refl

    by_parts : (k : Mark) → begins_amount k ≡ ((fits (plain sort.Minus) k || false) || ((fits id_number k || fits great_number k) || (fits no_time k || fits some_time k)))
    by_parts k =
        swapped (is_of sort.Minus k) (is_of sort.Number k) (is_of sort.Time k)
        ∙ ap (λ (v : Bool). (v || false) || (is_of sort.Number k || is_of sort.Time k)) (sym (plain_fits k sort.Minus refl refl))
        ∙ ap (λ (v : Bool). (fits (plain sort.Minus) k || false) || (v || is_of sort.Time k)) (number_begins k)
        ∙ ap (λ (v : Bool). (fits (plain sort.Minus) k || false) || ((fits id_number k || fits great_number k) || v)) (time_begins k)

pub value_law : (marks : List Mark) → Along (rule (of_model literal_rule)) marks (value_at marks)
unfolding value_at
value_law marks =
    rule_conforms predictive (either_conforms _ _ amount_begins refl (λ next. signed_amount_law marks)
    (λ next. either_conforms _ _ (begins_with sort.True (refl, refl)) refl (λ next. truth_law sort.True true (refl, refl) marks)
    (λ next. either_conforms _ _ (begins_with sort.False (refl, refl)) refl (λ next. truth_law sort.False false (refl, refl) marks)
    (λ next. variant_law marks))))

-- ---- what a directive gives

pub argument_law : (marks : List Mark) → Along argument_form marks (argument_at marks)
unfolding argument_at
argument_law marks = and_then _ (taken sort.Name _ (refl, refl)) (λ name rest. and_then _ (taken sort.Assign _ (refl, refl)) (λ sign rest. then_value _ (value_law rest) (λ given rest. value)))

pub given_law : (marks : List Mark) → Along (rule given_rule) marks (given_at marks)
unfolding given_at
given_law marks =
    rule_conforms predictive (and_then _ (taken sort.Name _ (refl, refl)) (λ kind rest. then_value _
    (parenthesized_conforms predictive sort.Name (λ k. plain_fits k sort.OpenParenthesis refl refl) (λ k. plain_fits k sort.Comma refl refl) (λ k. plain_fits k sort.CloseParenthesis refl refl)
    (begins_both (begins_with sort.Name (refl, refl)) refl) refl argument_law None rest) (λ arguments rest. value)))
