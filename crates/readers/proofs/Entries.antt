-- What is read of lists of entries conforms to their grammar: each law has the shape of its definition.
use Rattle.std.proofs.Common.{◌≡◌, true, ℕ, zero, suc, List, [], ◌∷◌, IsTrue, refl, length, nat_le}
use Rattle.aerie_text.specs.Sorts.{number_of}
use Rattle.aerie_text.specs.declared.sorts.Sort.{Sort}
use Rattle.aerie_text.specs.declared.sorts.Sort.TheVariants.{Name, Number, Plus, Minus, Assign, Comma, OpenBracket, CloseBracket}
use Rattle.readers.specs.Conforms.{Conforms}
use Rattle.readers.specs.Entries.{Rule, list_rule, item_rule, written, written_form, tables, look, rule_form, list_form, sum_form, term_form, sign_form, given_form, entry_form, items_form, is_sign, term_at, sign_at, signed_at, more_at, sum_at, given_at, meaning_at, entry_at, one_more_at, Items, item_at, some_items_at, items_at, list_by, too_deep, inner_at, list_at}
use Rattle.readers.specs.Marks.{Mark}
use Rattle.readers.specs.Parsed.{Parsed, is_of, next_is, next_fits, mark_at}
use Rattle.readers.specs.Verdicts.{Judges}
use Rattle.readers.specs.declared.example.Entry.{Entry}
use Rattle.readers.specs.declared.example.Term.{Term}
use Rattle.readers.specs.grammar.Alike.{AreAlike}
use Rattle.readers.specs.grammar.Alternatives.{SameExpansions}
use Rattle.readers.specs.grammar.Forms.{Form, token, rule, both, option, separated}
use Rattle.readers.specs.grammar.Predictive.{IsPredictive, shallow}
use Rattle.readers.specs.grammar.Tables.{look_by_number, are_right, decides}
use Rattle.readers.proofs.Conforming.{token_conforms, has_conforms, and_then, then_value, value, either_conforms, option_conforms, repeated_conforms, separated_conforms, rule_conforms, limited_conforms, failed_conforms, Begins, begins_token, begins_rule, begins_both, begins_either, begins_here, in_table}
use Rattle.readers.proofs.Grammars.Alike.{alike_forms}
use Rattle.readers.proofs.Grammars.Alternatives.{same_form, same_alternatives}
use Rattle.readers.proofs.Judged.{predictive_of, judged_as_written}

-- ---- the grammar

right : (r : Rule) → IsTrue (are_right number_of tables r)
right list_rule = refl
right item_rule = refl

decided : (r : Rule) → IsTrue (decides number_of tables (tables.form r) (tables.follow r))
decided list_rule = refl
decided item_rule = refl

shallow_rule : (r : Rule) → IsTrue (shallow (look_by_number number_of tables) 2 (rule r))
shallow_rule list_rule = refl
shallow_rule item_rule = refl

predictive : IsPredictive look
predictive = predictive_of tables (record { right = right; decided = decided; shallow_rule = shallow_rule })

-- the forms of an item, as it is written and factored, have the same alternatives
same : (r : Rule) → SameExpansions (rule_form r) (written_form r)
same list_rule = same_form list_form
same item_rule =
    same_alternatives (rule_form item_rule) (written_form item_rule) (record { in_second = 1 ∷ 2 ∷ 0 ∷ 3 ∷ []; in_first = 2 ∷ 0 ∷ 1 ∷ 3 ∷ []; onward = refl; back = refl })

alike : AreAlike look.grammar list_rule written list_rule
alike = alike_forms look.grammar written (λ t k. refl) same list_rule

-- ---- the laws

abbrev pub Along : {A : Type 0} → Form Rule Sort → List Mark → Parsed A → Type 0
Along form marks reading = Conforms look form marks reading

begins_with : (sort : Sort) → Begins look (is_of sort) (token sort)
begins_with sort = begins_token sort (λ k. refl)

taken : {A : Type 0} (sort : Sort) (says : Mark → A) {marks : List Mark} → Conforms look (token sort) marks (mark_at sort says marks)
taken sort says = token_conforms sort says (λ k. refl)

term_law : (marks : List Mark) → Along term_form marks (term_at marks)
unfolding term_at
term_law marks = and_then _ (has_conforms Minus (λ k. refl)) (λ minus rest. then_value _ (taken Number _) (λ number rest. value))

sign_law : (marks : List Mark) → Along sign_form marks (sign_at marks)
unfolding sign_at
sign_law marks = either_conforms _ _ (begins_with Plus) refl
    (λ next. then_value _ (taken Plus _) (λ plus rest. value))
    (λ next. then_value _ (taken Minus _) (λ minus rest. value))

signed_law : (terms : List Term) (marks : List Mark) → Along (both sign_form (token Number)) marks (signed_at terms marks)
unfolding signed_at
signed_law terms marks = and_then _ (sign_law marks) (λ minus rest. then_value _ (taken Number _) (λ number rest. value))

signs : Begins look is_sign (both sign_form (token Number))
signs = begins_both (begins_either (begins_with Plus) (begins_with Minus)) refl

more_law : (terms : List Term) (marks : List Mark) → next_fits is_sign marks ≡ true → Along (both sign_form (token Number)) marks (more_at terms marks)
unfolding more_at
more_law terms marks next = limited_conforms (nat_le 2 (length terms)) _ _ predictive (λ past. begins_here marks signs next) (λ within. signed_law terms marks)

sum_law : (marks : List Mark) → Along sum_form marks (sum_at marks)
unfolding sum_at
sum_law marks = and_then _ (term_law marks) (λ first rest. repeated_conforms _ signs refl more_law)

given_law : (marks : List Mark) → Along given_form marks (given_at marks)
unfolding given_at
given_law marks = and_then _ (taken Assign _) (λ sign rest. then_value _ (sum_law rest) (λ sum rest. value))

meaning_law : (marks : List Mark) → Along (option given_form) marks (meaning_at marks)
unfolding meaning_at
meaning_law marks = option_conforms _ _ (begins_both (begins_with Assign) refl) (λ next. given_law marks) value

entry_law : (so_far : List Entry) (marks : List Mark) → Along entry_form marks (entry_at so_far marks)
unfolding entry_at
entry_law so_far marks = and_then _ (taken Name _) (λ name rest. then_value _ (meaning_law rest) (λ meaning rest. value))

entries_begin : Begins look (is_of Name) entry_form
entries_begin = begins_both (begins_with Name) refl

one_more_law : (so_far : List Entry) (marks : List Mark) → next_is Name marks ≡ true → Along entry_form marks (one_more_at so_far marks)
unfolding one_more_at
one_more_law so_far marks next = limited_conforms (nat_le 2 (length so_far)) _ _ predictive (λ past. begins_here marks entries_begin next) (λ within. entry_law so_far marks)

-- what a reader of lists inside the list reads conforms to their rule
abbrev pub Inner : Items → Type 0
Inner inner = (so_far : List Entry) (marks : List Mark) → Along (rule list_rule) marks (inner so_far marks)

item_law : (inner : Items) → Inner inner → (so_far : List Entry) (marks : List Mark) → Along (rule item_rule) marks (item_at inner so_far marks)
unfolding item_at
item_law inner law so_far marks =
    rule_conforms predictive (either_conforms _ _ entries_begin refl (λ next. one_more_law so_far marks next) (λ next. law so_far marks))

some_items_law : (inner : Items) → Inner inner → (so_far : List Entry) (marks : List Mark) → Along (separated (token Comma) (rule item_rule)) marks (some_items_at inner so_far marks)
unfolding some_items_at
some_items_law inner law so_far marks = separated_conforms Comma _ (λ k. refl) (item_law inner law)

items_law : (inner : Items) → Inner inner → (so_far : List Entry) (marks : List Mark) → Along items_form marks (items_at inner so_far marks)
unfolding items_at
items_law inner law so_far marks = option_conforms _ _ (begins_both (begins_rule (in_table (Name ∷ OpenBracket ∷ []))) refl) (λ next. some_items_law inner law so_far marks) value

list_law_by : (inner : Items) → Inner inner → Inner (list_by inner)
unfolding list_by
list_law_by inner law so_far marks =
    rule_conforms predictive (and_then _ (taken OpenBracket _) (λ front rest. and_then _ (items_law inner law so_far rest) (λ items rest. then_value _ (taken CloseBracket _) (λ end rest. value))))

too_deep_law : Inner too_deep
unfolding too_deep
too_deep_law so_far marks =
    let begin : Begins look (is_of OpenBracket) (rule list_rule) = begins_rule (in_table (OpenBracket ∷ [])) in
    limited_conforms (next_is OpenBracket marks) _ _ predictive (λ past. begins_here marks begin past) (λ within. failed_conforms (begins_here marks begin within) refl)

inner_law : (room : ℕ) → Inner (inner_at room)
inner_law zero = too_deep_law
inner_law (suc room) = list_law_by (inner_at room) (inner_law room)

pub list_judged : (room : ℕ) (so_far : List Entry) (marks : List Mark) → Judges written list_rule marks (list_at room so_far marks)
list_judged room so_far marks = judged_as_written tables predictive list_rule written list_rule alike marks _ (list_law_by (inner_at room) (inner_law room) so_far marks)
