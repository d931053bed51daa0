-- What is read of atoms that test resources conforms to the grammar of rules.
use Rattle.std.proofs.Common.{◌≡◌, ℕ, ◌-◌, Bool, true, false, ◌||◌, List, [], ◌∷◌, nat_le, if◌then◌else◌, refl, ap, ◌∙◌}
use Rattle.aerie_base.specs.declared.expressions.Comparison.TheVariants as comparison
use Rattle.aerie_text.specs.declared.sorts.Sort.TheVariants as sort
use Rattle.readers.specs.Marks.{Mark}
use Rattle.readers.specs.Parsed.{is_of}
use Rattle.readers.specs.declared.limits.Limit.TheVariants.{Depth}
use Rattle.readers.specs.grammar.Forms.{token}
use Rattle.readers.proofs.Conforming.{Begins, begins_both, begins_either, begins_here, and_then, then_value, value, either_conforms, option_conforms, chosen_conforms, limited_conforms, failed_conforms}
use Rattle.model_reader.specs.declared.raw.names.RawName.{RawName}
use Rattle.rule_grammar.specs.declared.reading.leveled.LeveledSum.{LeveledSum}
use Rattle.rule_grammar.specs.grammar.Factored.{look, right_side_form, unnamed_atom_form, variant_part_form, named_operand_form, same_operand_form, same_form, order_sign_form, order_form, longer_left_form, named_tail_form, named_atom_form, more_terms_form, unnamed_sum_form}
use Rattle.rule_grammar.specs.grammar.Written.{same_sign_form, compare_sign_form}
use Rattle.rule_grammar.specs.reading.Sums.{is_sum_sign}
use Rattle.rule_grammar.specs.reading.Tested.{is_order_sign, order_sign_at, is_compare_sign, compare_sign_at, right_side_at, comparison_at, unnamed_atom_at, longer_left_at, ordered_at, is_same_sign, same_sign_at, same_truth_at, same_variant_at, equal_named_at, named_operand_at, unnamed_operand_at, same_operand_at, same_at, named_tail_at, begins_named_tail, named_atom_at}
use Rattle.rule_grammar.proofs.Following.Names.{Along, begins_with, begins_with_one_of, taken, raw_name_conforms, one_standing_for_conforms}
use Rattle.rule_grammar.proofs.Following.Sums.{opening_conforms, signed_term_begins, next_term_conforms, more_terms_conform, sum_conforms, unnamed_sum_conforms}
use Rattle.rule_grammar.proofs.Grammar.Predictive.{predictive}

-- ---- comparisons of sums

order_sign_conforms : (marks : List Mark) → Along order_sign_form marks (order_sign_at marks)
unfolding order_sign_at
order_sign_conforms marks =
    one_standing_for_conforms (sort.Less, comparison.Less) ((sort.LessEqual, comparison.AtMost) ∷ (sort.Greater, comparison.More) ∷ (sort.GreaterEqual, comparison.AtLeast) ∷ []) marks

pub compare_sign_conforms : (marks : List Mark) → Along compare_sign_form marks (compare_sign_at marks)
unfolding compare_sign_at
compare_sign_conforms marks =
    one_standing_for_conforms (sort.DoubleEqual, comparison.Equal)
    ((sort.NotEqual, comparison.Unequal)
    ∷ (sort.Less, comparison.Less) ∷ (sort.LessEqual, comparison.AtMost) ∷ (sort.Greater, comparison.More) ∷ (sort.GreaterEqual, comparison.AtLeast) ∷ [])
    marks

right_side_begins : Begins look is_compare_sign right_side_form
right_side_begins = begins_both (begins_with_one_of sort.DoubleEqual (sort.NotEqual ∷ sort.Less ∷ sort.LessEqual ∷ sort.Greater ∷ sort.GreaterEqual ∷ [])) refl

right_side_conforms : (room : ℕ) (left : LeveledSum) (marks : List Mark) → Along right_side_form marks (right_side_at room left marks)
unfolding right_side_at
right_side_conforms room left marks = and_then _ (compare_sign_conforms marks) (λ how rest. then_value _ (sum_conforms (room - 1) rest) (λ right behind. value))

comparison_conforms : (room : ℕ) (left : LeveledSum) (marks : List Mark) → Along right_side_form marks (comparison_at room left marks)
unfolding comparison_at
comparison_conforms room left marks =
    chosen_conforms _ _ _ (λ next. limited_conforms (nat_le room left.height) Depth (right_side_at room left) predictive (λ past. begins_here marks right_side_begins next) (λ within. right_side_conforms room left marks))
    (λ next. failed_conforms (begins_here marks right_side_begins next) refl)

pub unnamed_atom_conforms : (room : ℕ) (marks : List Mark) → Along unnamed_atom_form marks (unnamed_atom_at room marks)
unfolding unnamed_atom_at
unnamed_atom_conforms room marks = and_then _ (unnamed_sum_conforms room marks) (λ left rest. comparison_conforms room left rest)

-- ---- behind a NAME

longer_left_conforms : (room : ℕ) (name : RawName) (marks : List Mark) → Along longer_left_form marks (longer_left_at room name marks)
unfolding longer_left_at
longer_left_conforms room name marks =
    and_then _ (next_term_conforms room _ marks) (λ two rest. and_then _ (more_terms_conform room two rest) (λ left behind. comparison_conforms room left behind))

order_conforms : (room : ℕ) (name : RawName) (marks : List Mark) → Along order_form marks (ordered_at room name marks)
unfolding ordered_at
order_conforms room name marks = and_then _ (order_sign_conforms marks) (λ how rest. then_value _ (sum_conforms (room - 1) rest) (λ right behind. value))

same_sign_conforms : (marks : List Mark) → Along same_sign_form marks (same_sign_at marks)
unfolding same_sign_at
same_sign_conforms marks = one_standing_for_conforms (sort.DoubleEqual, true) ((sort.NotEqual, false) ∷ []) marks

same_truth_conforms : (truth : Bool) (name : RawName) (equal : Bool) (marks : List Mark) → Along (token (if truth then sort.True else sort.False)) marks (same_truth_at truth name equal marks)
unfolding same_truth_at
same_truth_conforms truth name equal marks = then_value _ (taken _ _) (λ word rest. value)

same_variant_conforms : (name : RawName) (equal : Bool) (kind : RawName) (marks : List Mark) → Along variant_part_form marks (same_variant_at name equal kind marks)
unfolding same_variant_at
same_variant_conforms name equal kind marks = and_then _ (taken sort.Dot _) (λ dot rest. then_value _ (raw_name_conforms rest) (λ variant behind. value))

equal_named_conforms : (room : ℕ) (name : RawName) (equal : Bool) (first : RawName) (marks : List Mark) → Along more_terms_form marks (equal_named_at room name equal first marks)
unfolding equal_named_at
equal_named_conforms room name equal first marks = then_value _ (more_terms_conform room _ marks) (λ right rest. value)

named_operand_conforms : (room : ℕ) (name : RawName) (equal : Bool) (marks : List Mark) → Along named_operand_form marks (named_operand_at room name equal marks)
unfolding named_operand_at
named_operand_conforms room name equal marks =
    and_then _ (raw_name_conforms marks) (λ first rest.
    either_conforms _ _ (begins_both (begins_with sort.Dot) refl) refl (λ next. same_variant_conforms name equal first rest) (λ next. equal_named_conforms room name equal first rest))

unnamed_operand_conforms : (room : ℕ) (name : RawName) (equal : Bool) (marks : List Mark) → Along unnamed_sum_form marks (unnamed_operand_at room name equal marks)
unfolding unnamed_operand_at
unnamed_operand_conforms room name equal marks = then_value _ (unnamed_sum_conforms room marks) (λ right rest. value)

same_operand_conforms : (room : ℕ) (name : RawName) (equal : Bool) (marks : List Mark) → Along same_operand_form marks (same_operand_at room name equal marks)
unfolding same_operand_at
same_operand_conforms room name equal marks =
    either_conforms _ _ (begins_with sort.True) refl (λ next. same_truth_conforms true name equal marks)
    (λ next. either_conforms _ _ (begins_with sort.False) refl (λ next. same_truth_conforms false name equal marks)
    (λ next. either_conforms _ _ (begins_both (begins_with sort.Name) refl) refl (λ next. named_operand_conforms room name equal marks)
    (λ next. unnamed_operand_conforms room name equal marks)))

same_conforms : (room : ℕ) (name : RawName) (marks : List Mark) → Along same_form marks (same_at room name marks)
unfolding same_at
same_conforms room name marks = and_then _ (same_sign_conforms marks) (λ equal rest. same_operand_conforms (room - 1) name equal rest)

same_begins : Begins look is_same_sign same_form
same_begins = begins_both (begins_with_one_of sort.DoubleEqual (sort.NotEqual ∷ [])) refl

order_begins : Begins look is_order_sign order_form
order_begins = begins_both (begins_with_one_of sort.Less (sort.LessEqual ∷ sort.Greater ∷ sort.GreaterEqual ∷ [])) refl

named_tail_conforms : (room : ℕ) (name : RawName) (marks : List Mark) → Along named_tail_form marks (named_tail_at room name marks)
unfolding named_tail_at
named_tail_conforms room name marks =
    either_conforms _ _ same_begins refl (λ next. opening_conforms room same_form _ marks (begins_here marks same_begins next) (λ free. same_conforms room name marks))
    (λ next. either_conforms _ _ order_begins refl (λ next. opening_conforms room order_form _ marks (begins_here marks order_begins next) (λ free. order_conforms room name marks))
    (λ next. longer_left_conforms room name marks))

or_grouped : (a b c : Bool) → (a || (b || c)) ≡ ((a || b) || c)
or_grouped true b c = refl
or_grouped false b c = refl

or_four : (a b c d e : Bool) → (a || (b || (c || (d || e)))) ≡ ((a || (b || (c || d))) || e)
or_four true b c d e = refl
or_four false true c d e = refl
or_four false false true d e = refl
or_four false false false d e = refl

named_tail_begins : Begins look begins_named_tail named_tail_form
named_tail_begins =
    let parts : Begins look (λ k. is_same_sign k || (is_order_sign k || is_sum_sign k)) named_tail_form = begins_either same_begins (begins_either order_begins (begins_both signed_term_begins refl)) in
    record { is = λ k. or_grouped (is_of sort.DoubleEqual k) (is_of sort.NotEqual k) _ ∙ ap (λ (v : Bool). is_same_sign k || v) (or_four (is_of sort.Less k) (is_of sort.LessEqual k) (is_of sort.Greater k) (is_of sort.GreaterEqual k) (is_sum_sign k)) ∙ parts.is k }

pub named_atom_conforms : (room : ℕ) (marks : List Mark) → Along named_atom_form marks (named_atom_at room marks)
unfolding named_atom_at
named_atom_conforms room marks = and_then _ (raw_name_conforms marks) (λ name rest. option_conforms _ _ named_tail_begins (λ next. named_tail_conforms room name rest) value)
