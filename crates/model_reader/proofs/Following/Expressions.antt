-- What is read of expressions conforms to the grammar of models, the limit of their depth included: it is passed at a mark
-- with which a level opens, and which some reading reads.
use Rattle.std.proofs.Common.{◌≡◌, ℕ, zero, suc, Bool, true, false, ◌==◌, List, [], ◌∷◌, nat_le, if◌then◌else◌, leb-false, ne_eqb, arith, refl}
use Rattle.std.proofs.lemmas.Bool.{and_left}
use Rattle.aerie_base.specs.declared.expressions.Comparison.TheVariants as comparison
use Rattle.aerie_base.specs.declared.expressions.Operator.{Operator}
use Rattle.aerie_base.specs.declared.expressions.Operator.TheVariants as operator
use Rattle.aerie_base.specs.models.Limits.{depth_limit}
use Rattle.readers.specs.Marks.{Mark}
use Rattle.aerie_text.specs.declared.sorts.Sort.{Sort}
use Rattle.aerie_text.specs.declared.sorts.Sort.TheVariants as sort
use Rattle.readers.specs.grammar.Forms.{Form, token, rule, both, many}
use Rattle.readers.specs.grammar.Lookahead.{nullable, next_in_first}
use Rattle.readers.specs.Parsed.{Parsed, is_of, next_fits}
use Rattle.readers.proofs.Conforming.{Begins, begins_both, begins_rule, begins_here, in_table, and_then, then_value, value, either_conforms, option_conforms, chosen_conforms, repeated_conforms, rule_conforms, limited_conforms, failed_conforms}
use Rattle.model_reader.specs.declared.raw.names.RawName.{RawName}
use Rattle.model_reader.specs.declared.reading.expressions.precedence.Precedence.{Precedence}
use Rattle.model_reader.specs.declared.reading.expressions.precedence.Precedence.TheVariants.{Expr, Conjunction, Comparison, Sum, Product, Unary}
use Rattle.model_reader.specs.declared.reading.with_height.WithHeight.{WithHeight}
use Rattle.model_reader.specs.declared.reading.expressions.precedence.Sign.TheVariants as sign
use Rattle.model_reader.specs.grammar.Factored.{look, expr_first, amount_form, part_form, dotted_member_form, member_form, named_form, parenthesis_form, unary_sign_form, signed_form, product_sign_form, sum_sign_form, compare_sign_form}
use Rattle.model_reader.specs.grammar.Rules.{Rule, expr_rule, and_rule, compare_rule, sum_rule, product_rule, unary_rule, primary_rule}
use Rattle.model_reader.specs.reading.Expressions.{Readers, amount_leaf_at, truth_leaf_at, variant_at, part_read_at, dotted_member_at, member_at, named_at, parentheses_at, opening, is_amount, parenthesis_at, primary_at, unary_sign_at, signed_at, is_unary_sign, unary_at, operand_at, operated_at, operation_at, chain_at, is_product_sign, product_sign_at, product_at, is_sum_sign, sum_sign_at, sum_at, is_compare_sign, compare_sign_at, comparison_at, conjunction_at, disjunction_at, readers_by, inner_readers, whole_at, expr_at, begins_expr}
use Rattle.model_reader.proofs.Following.Literals.{amount_conforms}
use Rattle.model_reader.proofs.Following.Names.{Along, begins_with, take_conforms, raw_name_conforms, standing_for_conforms, begins_with_one_of, word_conforms, one_standing_for_conforms}
use Rattle.model_reader.proofs.Following.Types.{part_conforms}
use Rattle.model_reader.proofs.Grammar.Predictive.{predictive}

-- ---- with which marks parts begin

product_sign_begins : Begins look is_product_sign product_sign_form
product_sign_begins = begins_with_one_of sort.Star (sort.Slash ∷ sort.Percent ∷ [])

compare_sign_begins : Begins look is_compare_sign compare_sign_form
compare_sign_begins = begins_with_one_of sort.DoubleEqual (sort.NotEqual ∷ sort.Less ∷ sort.LessEqual ∷ sort.Greater ∷ sort.GreaterEqual ∷ [])

sum_sign_begins : Begins look is_sum_sign sum_sign_form
sum_sign_begins = begins_with_one_of sort.Plus (sort.Minus ∷ [])

signed_begins : Begins look is_unary_sign signed_form
signed_begins = begins_both (begins_with_one_of sort.Minus (sort.Exclamation ∷ [])) refl

amount_begins : Begins look is_amount amount_form
amount_begins = begins_with_one_of sort.Number (sort.Time ∷ [])

parenthesis_begins : Begins look (is_of sort.OpenParenthesis) parenthesis_form
parenthesis_begins = begins_both (begins_with sort.OpenParenthesis) refl

-- an expression begins with the marks that the test names
pub expr_rule_begins : Begins look begins_expr (rule expr_rule)
expr_rule_begins = begins_rule (in_table expr_first)

-- ---- primaries without levels

amount_leaf_conforms : (marks : List Mark) → Along amount_form marks (amount_leaf_at marks)
unfolding amount_leaf_at
amount_leaf_conforms marks = then_value _ (amount_conforms marks) (λ amount rest. value)

truth_leaf_conforms : (truth : Bool) (marks : List Mark) → Along (token (if truth then sort.True else sort.False)) marks (truth_leaf_at truth marks)
unfolding truth_leaf_at
truth_leaf_conforms truth marks = then_value _ (take_conforms _ marks) (λ word rest. value)

variant_conforms : (name : RawName) (marks : List Mark) → Along (token sort.Name) marks (variant_at name marks)
unfolding variant_at
variant_conforms name marks = then_value _ (raw_name_conforms marks) (λ variant rest. value)

part_read_conforms : (name : RawName) (marks : List Mark) → Along part_form marks (part_read_at name marks)
unfolding part_read_at
part_read_conforms name marks = then_value _ (part_conforms marks) (λ part_read rest. value)

dotted_member_conforms : (name : RawName) (marks : List Mark) → Along dotted_member_form marks (dotted_member_at name marks)
unfolding dotted_member_at
dotted_member_conforms name marks =
    and_then _ (take_conforms sort.Dot marks) (λ dot rest. either_conforms _ _ (begins_with sort.Name) refl (λ next. variant_conforms name rest) (λ next. part_read_conforms name rest))

member_conforms : (name : RawName) (marks : List Mark) → Along member_form marks (member_at name marks)
unfolding member_at
member_conforms name marks = option_conforms _ _ (begins_both (begins_with sort.Dot) refl) (λ next. dotted_member_conforms name marks) value

named_conforms : (marks : List Mark) → Along named_form marks (named_at marks)
unfolding named_at
named_conforms marks = and_then _ (raw_name_conforms marks) (λ name rest. then_value _ (member_conforms name rest) (λ member behind. value))

-- ---- operators

unary_sign_conforms : (marks : List Mark) → Along unary_sign_form marks (unary_sign_at marks)
unfolding unary_sign_at
unary_sign_conforms marks = word_conforms (sort.Minus, sign.Minus) ((sort.Exclamation, sign.Exclamation) ∷ []) marks

product_sign_conforms : (marks : List Mark) → Along product_sign_form marks (product_sign_at marks)
unfolding product_sign_at
product_sign_conforms marks =
    one_standing_for_conforms (sort.Star, operator.Times) ((sort.Slash, operator.Divide) ∷ (sort.Percent, operator.Remainder) ∷ []) marks

sum_sign_conforms : (marks : List Mark) → Along sum_sign_form marks (sum_sign_at marks)
unfolding sum_sign_at
sum_sign_conforms marks = one_standing_for_conforms (sort.Plus, operator.Plus) ((sort.Minus, operator.Minus) ∷ []) marks

compare_sign_conforms : (marks : List Mark) → Along compare_sign_form marks (compare_sign_at marks)
unfolding compare_sign_at
compare_sign_conforms marks =
    one_standing_for_conforms (sort.DoubleEqual, operator.Compare comparison.Equal)
    ((sort.NotEqual, operator.Compare comparison.Unequal)
    ∷ (sort.Less, operator.Compare comparison.Less) ∷ (sort.LessEqual, operator.Compare comparison.AtMost)
    ∷ (sort.Greater, operator.Compare comparison.More) ∷ (sort.GreaterEqual, operator.Compare comparison.AtLeast) ∷ [])
    marks

-- ---- levels

-- where a height is below the room, there is some room
some_room : (room height : ℕ) → nat_le room height ≡ false → (room == 0) ≡ false
some_room room height e = ne_eqb room 0 (λ none. let l = leb-false room height e in omega (arith, l, none))

-- a part that opens a level with the mark that it begins with: it need follow its form only where there is some room
opening_conforms : (room : ℕ) (a : Form Rule Sort) (part : List Mark → Parsed WithHeight) (marks : List Mark) → next_in_first look a marks ≡ true
    → ((room == 0) ≡ false → Along a marks (part marks)) → Along a marks (opening room part marks)
opening_conforms room a part marks begun law = limited_conforms _ _ _ predictive (λ past. begun) law

-- An operator and its operands, the one with the first form and the others with the second. The operands behind an operator
-- need follow their form only where there is some room.
module _ (room : ℕ) (is_sign : Mark → Bool) (sign : List Mark → Parsed Operator) (operand : List Mark → Parsed WithHeight) (sign_form a : Form Rule Sort)
    (sign_begins : Begins look is_sign sign_form) (some : nullable look sign_form ≡ false) (sign_conforms : (marks : List Mark) → Along sign_form marks (sign marks))
    (operand_conforms : (room == 0) ≡ false → (marks : List Mark) → Along a marks (operand marks)) where
  operation_begins : Begins look is_sign (both sign_form a)
  operation_begins = begins_both sign_begins some

  signed_operand_conforms : (room == 0) ≡ false → (marks : List Mark) → Along (both sign_form a) marks (operand_at sign operand marks)
  unfolding operand_at
  signed_operand_conforms free marks = and_then _ (sign_conforms marks) (λ operator rest. then_value _ (operand_conforms free rest) (λ right behind. value))

  operated_conforms : (room == 0) ≡ false → (left : WithHeight) (marks : List Mark) → Along (both sign_form a) marks (operated_at sign operand left marks)
  unfolding operated_at
  operated_conforms free left marks = then_value _ (signed_operand_conforms free marks) (λ right rest. value)

  operation_conforms : (left : WithHeight) (marks : List Mark) → next_fits is_sign marks ≡ true → Along (both sign_form a) marks (operation_at room sign operand left marks)
  unfolding operation_at
  operation_conforms left marks next =
      limited_conforms _ _ _ predictive (λ past. begins_here marks operation_begins next) (λ within. operated_conforms (some_room room left.height within) left marks)

  -- a chain of such operators
  chain_conforms : (first : List Mark → Parsed WithHeight) → ((marks : List Mark) → Along a marks (first marks)) → (marks : List Mark)
      → Along (both a (many (both sign_form a))) marks (chain_at room is_sign sign first operand marks)
  unfolding chain_at
  chain_conforms first first_conforms marks =
      and_then _ (first_conforms marks) (λ left rest. repeated_conforms _ operation_begins (and_left (nullable look sign_form) (nullable look a) some) (λ now here next. operation_conforms now here next))

-- the rule of a part
abbrev pub rule_of : Precedence → Rule
rule_of Expr = expr_rule
rule_of Conjunction = and_rule
rule_of Comparison = compare_rule
rule_of Sum = sum_rule
rule_of Product = product_rule
rule_of Unary = unary_rule

-- each of the readers follows its rule
abbrev pub FollowTheirRules : Readers → Type 0
FollowTheirRules inner = (part : Precedence) (marks : List Mark) → Along (rule (rule_of part)) marks (inner part marks)

-- The readers where so many levels may be opened follow their rules if those with one level less do. Where no level may be
-- opened those are not asked.
module _ (room : ℕ) (inner : Readers) (law : (room == 0) ≡ false → FollowTheirRules inner) where
  parentheses_conform : (room == 0) ≡ false → (marks : List Mark) → Along parenthesis_form marks (parentheses_at inner marks)
  unfolding parentheses_at
  parentheses_conform free marks =
      and_then _ (take_conforms sort.OpenParenthesis marks) (λ parenthesis rest. and_then _ (law free Expr rest) (λ whole behind. then_value _ (take_conforms sort.CloseParenthesis behind) (λ close left. value)))

  parenthesis_conforms : (marks : List Mark) → Along parenthesis_form marks (parenthesis_at room inner marks)
  unfolding parenthesis_at
  parenthesis_conforms marks =
      chosen_conforms _ _ _ (λ next. opening_conforms room parenthesis_form (parentheses_at inner) marks (begins_here marks parenthesis_begins next) (λ free. parentheses_conform free marks))
      (λ next. failed_conforms (begins_here marks parenthesis_begins next) refl)

  primary_conforms : (marks : List Mark) → Along (rule primary_rule) marks (primary_at room inner marks)
  unfolding primary_at
  primary_conforms marks =
      rule_conforms predictive (either_conforms _ _ amount_begins refl (λ next. amount_leaf_conforms marks)
      (λ next. either_conforms _ _ (begins_with sort.True) refl (λ next. truth_leaf_conforms true marks)
      (λ next. either_conforms _ _ (begins_with sort.False) refl (λ next. truth_leaf_conforms false marks)
      (λ next. either_conforms _ _ (begins_both (begins_with sort.Name) refl) refl (λ next. named_conforms marks)
      (λ next. parenthesis_conforms marks)))))

  signed_conforms : (room == 0) ≡ false → (marks : List Mark) → Along signed_form marks (signed_at inner marks)
  unfolding signed_at
  signed_conforms free marks = and_then _ (unary_sign_conforms marks) (λ sign rest. then_value _ (law free Unary rest) (λ operand behind. value))

  unary_conforms : (marks : List Mark) → Along (rule unary_rule) marks (unary_at room inner marks)
  unfolding unary_at
  unary_conforms marks =
      rule_conforms predictive (either_conforms _ _ signed_begins refl
      (λ next. opening_conforms room signed_form (signed_at inner) marks (begins_here marks signed_begins next) (λ free. signed_conforms free marks))
      (λ next. primary_conforms marks))

  product_conforms : (marks : List Mark) → Along (rule product_rule) marks (product_at room inner marks)
  unfolding product_at
  product_conforms marks =
      rule_conforms predictive (chain_conforms room is_product_sign product_sign_at (inner Unary) product_sign_form (rule unary_rule) product_sign_begins refl product_sign_conforms (λ free. law free Unary)
      (unary_at room inner) unary_conforms marks)

  sum_conforms : (marks : List Mark) → Along (rule sum_rule) marks (sum_at room inner marks)
  unfolding sum_at
  sum_conforms marks =
      rule_conforms predictive (chain_conforms room is_sum_sign sum_sign_at (inner Product) sum_sign_form (rule product_rule) sum_sign_begins refl sum_sign_conforms (λ free. law free Product)
      (product_at room inner) product_conforms marks)

  comparison_conforms : (marks : List Mark) → Along (rule compare_rule) marks (comparison_at room inner marks)
  unfolding comparison_at
  comparison_conforms marks =
      rule_conforms predictive (and_then _ (sum_conforms marks) (λ left rest. option_conforms _ _ (begins_both compare_sign_begins refl)
      (λ next. operation_conforms room is_compare_sign compare_sign_at (inner Sum) compare_sign_form (rule sum_rule) compare_sign_begins refl compare_sign_conforms (λ free. law free Sum) left rest next) value))

  conjunction_conforms : (marks : List Mark) → Along (rule and_rule) marks (conjunction_at room inner marks)
  unfolding conjunction_at
  conjunction_conforms marks =
      rule_conforms predictive (chain_conforms room (is_of sort.DoubleAmpersand) _ (inner Comparison) (token sort.DoubleAmpersand) (rule compare_rule) (begins_with sort.DoubleAmpersand) refl
      (standing_for_conforms sort.DoubleAmpersand _) (λ free. law free Comparison) (comparison_at room inner) comparison_conforms marks)

  disjunction_conforms : (marks : List Mark) → Along (rule expr_rule) marks (disjunction_at room inner marks)
  unfolding disjunction_at
  disjunction_conforms marks =
      rule_conforms predictive (chain_conforms room (is_of sort.DoubleBar) _ (inner Conjunction) (token sort.DoubleBar) (rule and_rule) (begins_with sort.DoubleBar) refl
      (standing_for_conforms sort.DoubleBar _) (λ free. law free Conjunction) (conjunction_at room inner) conjunction_conforms marks)

  one_level_conforms : FollowTheirRules (readers_by room inner)
  one_level_conforms Expr marks = disjunction_conforms marks
  one_level_conforms Conjunction marks = conjunction_conforms marks
  one_level_conforms Comparison marks = comparison_conforms marks
  one_level_conforms Sum marks = sum_conforms marks
  one_level_conforms Product marks = product_conforms marks
  one_level_conforms Unary marks = unary_conforms marks

-- ---- expressions

-- the readers within a level follow their rules where there may be one
inner_readers_conform : (room : ℕ) → (room == 0) ≡ false → FollowTheirRules (inner_readers room)
inner_readers_conform zero free = cc
inner_readers_conform (suc room) free = one_level_conforms room (inner_readers room) (inner_readers_conform room)

whole_conforms : (room : ℕ) (marks : List Mark) → Along (rule expr_rule) marks (whole_at room marks)
whole_conforms room marks = disjunction_conforms room (inner_readers room) (inner_readers_conform room) marks

pub expr_conforms : (marks : List Mark) → Along (rule expr_rule) marks (expr_at marks)
unfolding expr_at
expr_conforms marks = then_value _ (whole_conforms depth_limit marks) (λ whole rest. value)
