-- What is read of the plan section and of datasets conforms to the grammar of sessions.
use Rattle.std.proofs.Common.{◌≡◌, Bool, true, false, ◌&&◌, not, List, [], ◌∷◌, None, refl, ◌∙◌, arith}
use Rattle.aerie_text.specs.declared.sorts.Sort.{Sort}
use Rattle.aerie_text.specs.declared.sorts.Sort.TheVariants as sort
use Rattle.model_reader.specs.grammar.Rules.{literal_rule}
use Rattle.model_reader.specs.reading.Literals.{amount_literal_at, literal_at, truth_literal_at, variant_literal_at}
use Rattle.readers.specs.Conforms.{GoesAlong}
use Rattle.readers.specs.Lists.{row_at}
use Rattle.readers.specs.Marks.{Mark}
use Rattle.readers.specs.Parsed.{failed, is_of, mark_at, next_fits, taken as taken_mark}
use Rattle.readers.specs.Within.{counts_within, is_within}
use Rattle.readers.specs.grammar.Forms.{both, many, option, rule, token}
use Rattle.readers.specs.grammar.LazyReadings.{read, stop}
use Rattle.readers.specs.grammar.Lookahead.{next_in_first}
use Rattle.readers.proofs.Conforming.{and_then, then_value, value, chosen_conforms, either_conforms, failed_conforms, option_conforms, rule_conforms, begins_both}
use Rattle.readers.proofs.Grammars.Parsing.{token_ends, token_read, token_stops}
use Rattle.readers.proofs.Listing.{row_conforms}
use Rattle.readers.proofs.Within.{halves_conform}
use Rattle.session_grammar.specs.grammar.Factored.{look, plan_name_form, start_form, plan_duration_form, signed_amount_form}
use Rattle.session_grammar.specs.grammar.Embedding.{of_sort}
use Rattle.session_grammar.specs.grammar.Rules.{of_model, plan_rule}
use Rattle.session_grammar.specs.grammar.Terminals.{fits, plain, some_time}
use Rattle.session_grammar.specs.grammar.Written.{beginning_form, dataset_form, directive_form}
use Rattle.session_grammar.specs.reading.Directives.{duration_at}
use Rattle.session_grammar.specs.reading.Plans.{start_at, some_time_at, plan_duration_at, some_rate_at, optional_rate_at, beginning_at, directive_at, plan_name_at, plan_at, dataset_at, most_datasets, datasets_at}
use Rattle.session_grammar.proofs.Conforming.Directives.{Along, IsPlain, taken, amount_begins, amount_law, begins_with, when_law, given_law}
use Rattle.session_grammar.proofs.Conforming.Mappings.{raw_name_law, raw_named_law, sign_law}
use Rattle.session_grammar.proofs.Conforming.Terminals.{number_begins, some_fits}
use Rattle.session_grammar.proofs.Grammar.Predictive.{predictive}

pub start_law : (marks : List Mark) → Along start_form marks (start_at marks)
unfolding start_at
start_law marks =
    and_then _ (taken sort.Start _ (refl, refl)) (λ word rest. and_then _ (taken sort.Quoted _ (refl, refl)) (λ text rest.
    then_value _ (taken sort.Semicolon _ (refl, refl)) (λ end rest. value)))

-- ---- a length of time that is not 0

-- of two tests, both or the first alone hold
some_of_none : (is none : Bool) → (is && none) ≡ true → (is && not none) ≡ false
some_of_none true true e = refl
some_of_none true false e = cc
some_of_none false none e = refl

some_of_some : (is none : Bool) → (is && none) ≡ false → (is && not none) ≡ is
some_of_some true true e = cc
some_of_some true false e = refl
some_of_some false none e = refl

none_here : (k : Mark) → counts_within sort.Time 0 0 k ≡ true → fits some_time k ≡ false
none_here k e = some_fits k ∙ some_of_none (is_of sort.Time k) (is_within 0 0 k.number) e

some_here : (k : Mark) → counts_within sort.Time 0 0 k ≡ false → fits some_time k ≡ is_of sort.Time k
some_here k e = some_fits k ∙ some_of_some (is_of sort.Time k) (is_within 0 0 k.number) e

taken_goes : {A : Type 0} (k : Mark) (rest : List Mark) (says : A) (v : Bool) → fits some_time k ≡ v → GoesAlong look (token some_time) (k ∷ rest) (taken_mark v says (k ∷ rest) rest)
taken_goes k rest says true e = record { front = k ∷ []; is = refl; some = λ e. omega arith; reads = token_read look some_time k rest e; whole = λ xs. (1, read e stop) }
taken_goes k rest says false e = token_stops look some_time k rest e

time_goes : {A : Type 0} (says : Mark → A) (marks : List Mark) → next_fits (counts_within sort.Time 0 0) marks ≡ false → GoesAlong look (token some_time) marks (mark_at sort.Time says marks)
time_goes says [] next = token_ends look some_time
time_goes says (k ∷ rest) next = taken_goes k rest (says k) (is_of sort.Time k) (some_here k next)

none_next : (marks : List Mark) → next_fits (counts_within sort.Time 0 0) marks ≡ true → next_in_first look (token some_time) marks ≡ false
none_next [] next = refl
none_next (k ∷ rest) next = none_here k next

lasting_law : (marks : List Mark) → next_fits (counts_within sort.Time 0 0) marks ≡ false → Along (token some_time) marks (duration_at marks)
unfolding duration_at
lasting_law marks next = then_value _ (record { goes = time_goes (λ mark. (mark.at, mark.number)) marks next }) (λ time rest. value)

some_time_law : (marks : List Mark) → Along (token some_time) marks (some_time_at marks)
unfolding some_time_at
some_time_law marks =
    chosen_conforms (next_fits (counts_within sort.Time 0 0) marks) failed duration_at (λ next. failed_conforms (none_next marks next) refl) (λ next. lasting_law marks next)

plan_duration_law : (marks : List Mark) → Along plan_duration_form marks (plan_duration_at marks)
unfolding plan_duration_at
plan_duration_law marks =
    and_then _ (taken sort.Duration _ (refl, refl)) (λ word rest. and_then _ (some_time_law rest) (λ time rest. then_value _ (taken sort.Semicolon _ (refl, refl)) (λ end rest. value)))

-- ---- beginnings

amount_literal_law : (marks : List Mark) → Along signed_amount_form marks (amount_literal_at marks)
unfolding amount_literal_at
amount_literal_law marks = and_then _ (sign_law marks) (λ sign rest. then_value _ (amount_law rest) (λ amount behind. value))

truth_literal_law : (s : Sort) (truth : Bool) → IsPlain s → (marks : List Mark) → Along (token (plain s)) marks (truth_literal_at s truth marks)
unfolding truth_literal_at
truth_literal_law s truth is marks = then_value _ (taken s _ is) (λ word rest. value)

variant_literal_law : (marks : List Mark) → Along (both (token (plain sort.Name)) (both (token (plain sort.Dot)) (token (plain sort.Name)))) marks (variant_literal_at marks)
unfolding variant_literal_at
variant_literal_law marks = and_then _ (raw_name_law marks) (λ kind rest. and_then _ (taken sort.Dot _ (refl, refl)) (λ dot rest. then_value _ (raw_name_law rest) (λ variant rest. value)))

literal_law : (marks : List Mark) → Along (rule (of_model literal_rule)) marks (literal_at marks)
unfolding literal_at
literal_law marks =
    rule_conforms predictive (either_conforms _ _ amount_begins refl (λ next. amount_literal_law marks)
    (λ next. either_conforms _ _ (begins_with sort.True (refl, refl)) refl (λ next. truth_literal_law sort.True true (refl, refl) marks)
    (λ next. either_conforms _ _ (begins_with sort.False (refl, refl)) refl (λ next. truth_literal_law sort.False false (refl, refl) marks)
    (λ next. variant_literal_law marks))))

some_rate_law : (marks : List Mark) → Along (both (token (plain sort.Rate)) (both (option (token (plain sort.Minus))) (of_sort sort.Number))) marks (some_rate_at marks)
unfolding some_rate_at
some_rate_law marks =
    and_then _ (taken sort.Rate _ (refl, refl)) (λ word rest. and_then _ (sign_law rest) (λ sign rest. then_value _ (halves_conform sort.Number _ number_begins) (λ number rest. value)))

rate_law : (marks : List Mark) → Along (option (both (token (plain sort.Rate)) (both (option (token (plain sort.Minus))) (of_sort sort.Number)))) marks (optional_rate_at marks)
unfolding optional_rate_at
rate_law marks = option_conforms _ _ (begins_both (begins_with sort.Rate (refl, refl)) refl) (λ next. some_rate_law marks) value

pub beginning_law : (marks : List Mark) → Along beginning_form marks (beginning_at marks)
unfolding beginning_at
beginning_law marks =
    and_then _ (raw_name_law marks) (λ cell rest. and_then _ (taken sort.Assign _ (refl, refl)) (λ equals rest. and_then _ (literal_law rest) (λ literal rest.
    and_then _ (rate_law rest) (λ rate rest. then_value _ (taken sort.Semicolon _ (refl, refl)) (λ end rest. value)))))

pub beginnings_law : (marks : List Mark) → Along (many beginning_form) marks (row_at (sort.Name ∷ []) None beginning_at marks)
beginnings_law marks = row_conforms predictive (sort.Name ∷ []) (begins_both (begins_with sort.Name (refl, refl)) refl) refl beginning_law None marks

-- ---- the plan

directive_law : (marks : List Mark) → Along directive_form marks (directive_at marks)
unfolding directive_at
directive_law marks =
    and_then _ (taken sort.At _ (refl, refl)) (λ word rest. and_then _ (when_law rest) (λ when rest. and_then _ (given_law rest) (λ given rest.
    then_value _ (taken sort.Semicolon _ (refl, refl)) (λ end rest. value))))

pub plan_name_law : (marks : List Mark) → Along plan_name_form marks (plan_name_at marks)
unfolding plan_name_at
plan_name_law marks = and_then _ (raw_named_law sort.Plan (refl, refl) marks) (λ name rest. then_value _ (taken sort.OpenBrace _ (refl, refl)) (λ end rest. value))

pub directives_law : (marks : List Mark) → Along (many directive_form) marks (row_at (sort.At ∷ []) None directive_at marks)
directives_law marks = row_conforms predictive (sort.At ∷ []) (begins_both (begins_with sort.At (refl, refl)) refl) refl directive_law None marks

pub plan_law : (marks : List Mark) → Along (rule plan_rule) marks (plan_at marks)
unfolding plan_at
plan_law marks =
    rule_conforms predictive (and_then _ (plan_name_law marks) (λ branch rest. and_then _ (start_law rest) (λ start rest. and_then _ (plan_duration_law rest) (λ duration rest.
    and_then _ (beginnings_law rest) (λ beginnings rest. and_then _ (directives_law rest) (λ directives rest.
    then_value _ (taken sort.CloseBrace _ (refl, refl)) (λ end rest. value)))))))

-- ---- datasets

pub dataset_law : (marks : List Mark) → Along dataset_form marks (dataset_at marks)
unfolding dataset_at
dataset_law marks =
    and_then _ (taken sort.Load _ (refl, refl)) (λ word rest. and_then _ (raw_name_law rest) (λ name rest. and_then _ (taken sort.Raw _ (refl, refl)) (λ text rest.
    then_value _ (taken sort.Semicolon _ (refl, refl)) (λ end rest. value))))

pub datasets_law : (marks : List Mark) → Along (many dataset_form) marks (datasets_at marks)
unfolding datasets_at
datasets_law marks = row_conforms predictive (sort.Load ∷ []) (begins_both (begins_with sort.Load (refl, refl)) refl) refl dataset_law most_datasets marks
