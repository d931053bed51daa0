-- What is read of expressions is not too deep, and its literals have their range.
use Rattle.std.proofs.Common.{◌≡◌, ℕ, zero, suc, ◌+◌, ◌<◌, ◌≤◌, ◌==◌, max, Bool, true, false, List, [], ◌∷◌, nat_le, if◌then◌else◌, refl, arith}
use Rattle.std.proofs.lemmas.Bool.{leb-true, leb-false}
use Rattle.aerie_base.specs.declared.expressions.Operator.{Operator}
use Rattle.aerie_base.specs.declared.expressions.Operator.TheVariants as operator
use Rattle.aerie_base.specs.declared.places.Place.{Place}
use Rattle.aerie_base.specs.models.Limits.{depth_limit}
use Rattle.aerie_text.specs.declared.sorts.Sort.TheVariants as sort
use Rattle.readers.specs.Marks.{Mark}
use Rattle.readers.specs.Parsed.{Parsed, next_is, next_fits, is_of}
use Rattle.model_reader.specs.declared.raw.expressions.RawExpr.{RawExpr}
use Rattle.model_reader.specs.declared.raw.expressions.RawExprKind.{RawExprKind, Binary}
use Rattle.model_reader.specs.declared.raw.expressions.RawExprKind.TheBlock.{hidden-the_row-RawExpr-0, shape-the_row-RawExpr-0}
use denote.Hole.Carrier.{hidden}
use Rattle.model_reader.specs.declared.raw.names.RawName.{RawName}
use Rattle.model_reader.specs.declared.reading.expressions.precedence.Precedence.{Precedence}
use Rattle.model_reader.specs.declared.reading.expressions.precedence.Precedence.TheVariants.{Expr, Conjunction, Comparison, Sum, Product, Unary}
use Rattle.model_reader.specs.declared.reading.expressions.precedence.Sign.{Sign}
use Rattle.model_reader.specs.declared.reading.expressions.precedence.Sign.TheVariants.{Minus, Exclamation}
use Rattle.model_reader.specs.declared.reading.with_height.WithHeight.{WithHeight}
use Rattle.model_reader.specs.Limits.{CountNumbers, raw_depth, HasLiteralsInRange, IsLimitedExpr}
use Rattle.model_reader.specs.reading.Expressions.{Readers, leaf, amount_leaf_at, truth_leaf_at, variant_at, part_read_at, dotted_member_at, member_at, named_at, in_parentheses, parentheses_at, parenthesis_at, is_amount, primary_at, unary_sign_at, signed_kind, behind_sign, signed_at, is_unary_sign, unary_at, higher, binary, operand_at, operated_at, operation_at, chain_at, is_product_sign, product_sign_at, product_at, is_sum_sign, sum_sign_at, sum_at, is_compare_sign, compare_sign_at, comparison_at, conjunction_at, disjunction_at, readers_by, inner_readers, whole_at, expr_at}
use Rattle.model_reader.proofs.Limited.Keeping.{Nothing, Keeps, gives, fails, and_then, weakened, one_of_two, unless_over, take_keeps, one_of_keeps, repeated_keeps}
use Rattle.model_reader.proofs.Limited.Literals.{raw_name_keeps, one_standing_for_keeps, standing_for_keeps, part_keeps, amount_keeps}

-- ---- primaries without levels

abbrev IsLeaf : RawExprKind → Type 0
IsLeaf what = (raw_depth what ≡ 0) × HasLiteralsInRange what

variant_keeps : (name : RawName) (marks : List Mark) → CountNumbers marks → Keeps IsLeaf (variant_at name marks)
unfolding variant_at
variant_keeps name marks count = and_then _ (raw_name_keeps marks count) (λ variant rest unit left. gives (refl, tt) left)

part_read_keeps : (name : RawName) (marks : List Mark) → CountNumbers marks → Keeps IsLeaf (part_read_at name marks)
unfolding part_read_at
part_read_keeps name marks count = and_then _ (part_keeps marks count) (λ part rest unit left. gives (refl, tt) left)

dotted_member_keeps : (name : RawName) (marks : List Mark) → CountNumbers marks → Keeps IsLeaf (dotted_member_at name marks)
unfolding dotted_member_at
dotted_member_keeps name marks count =
    and_then _ (take_keeps sort.Dot marks count) (λ dot rest unit left. one_of_two (next_is sort.Name rest) _ _ (variant_keeps name rest left) (part_read_keeps name rest left))

member_keeps : (name : RawName) (marks : List Mark) → CountNumbers marks → Keeps IsLeaf (member_at name marks)
unfolding member_at
member_keeps name marks count = one_of_two (next_is sort.Dot marks) _ _ (dotted_member_keeps name marks count) (gives (refl, tt) count)

-- ---- levels

-- an expression whose height is that of its operators at least, and whose literals have their range
record IsMeasured (whole : WithHeight) : Type 0 where
  depth : raw_depth whole.expr.what ≤ whole.height
  literals : HasLiteralsInRange whole.expr.what

abbrev Fits : ℕ → WithHeight → Type 0
Fits room whole = IsMeasured whole × (whole.height ≤ room)

abbrev FitsBelow : ℕ → WithHeight → Type 0
FitsBelow room whole = IsMeasured whole × (whole.height < room)

leaf_fits : (room : ℕ) (at : Place) (what : RawExprKind) → IsLeaf what → Fits room (leaf at what)
leaf_fits room at what is = (record { depth = omega (arith, is.0); literals = is.1 }, omega arith)

amount_leaf_keeps : (room : ℕ) (marks : List Mark) → CountNumbers marks → Keeps (Fits room) (amount_leaf_at marks)
unfolding amount_leaf_at
amount_leaf_keeps room marks count = and_then _ (amount_keeps marks count) (λ amount rest is left. gives (leaf_fits room _ _ (refl, is)) left)

truth_leaf_keeps : (room : ℕ) (truth : Bool) (marks : List Mark) → CountNumbers marks → Keeps (Fits room) (truth_leaf_at truth marks)
unfolding truth_leaf_at
truth_leaf_keeps room truth marks count = and_then _ (take_keeps _ marks count) (λ word rest unit left. gives (leaf_fits room _ _ (refl, tt)) left)

named_keeps : (room : ℕ) (marks : List Mark) → CountNumbers marks → Keeps (Fits room) (named_at marks)
unfolding named_at
named_keeps room marks count =
    and_then _ (raw_name_keeps marks count) (λ name rest unit left. and_then _ (member_keeps name rest left) (λ member behind is from. gives (leaf_fits room _ _ is) from))

in_parentheses_fits : (room : ℕ) (at : Place) (whole : WithHeight) → FitsBelow room whole → Fits room (in_parentheses at whole)
in_parentheses_fits room at whole is =
    let measured = is.0 in
    (record { depth = omega (arith, measured.depth); literals = measured.literals }, omega (arith, is.1))

signed_depth : (sign : Sign) (inner : RawExpr) → raw_depth (signed_kind sign inner) ≡ 1 + raw_depth inner.what
unfolding hidden-the_row-RawExpr-0 shape-the_row-RawExpr-0 hidden
signed_depth Minus inner = refl
signed_depth Exclamation inner = refl

signed_literals : (sign : Sign) (inner : RawExpr) → HasLiteralsInRange inner.what → HasLiteralsInRange (signed_kind sign inner)
unfolding hidden-the_row-RawExpr-0 shape-the_row-RawExpr-0 hidden
signed_literals Minus inner is = is
signed_literals Exclamation inner is = is

signed_fits : (room : ℕ) (at : Place) (sign : Sign) (whole : WithHeight) → FitsBelow room whole → Fits room (behind_sign at sign whole)
signed_fits room at sign whole is =
    let measured = is.0 in
    (record { depth = omega (arith, measured.depth, signed_depth sign whole.expr); literals = signed_literals sign whole.expr measured.literals }, omega (arith, is.1))

binary_depth : (operator : Operator) (left right : RawExpr) → raw_depth (Binary operator left right) ≡ 1 + max (raw_depth left.what) (raw_depth right.what)
unfolding hidden-the_row-RawExpr-0 shape-the_row-RawExpr-0 hidden
binary_depth operator left right = refl

binary_literals : (operator : Operator) (left right : RawExpr) → HasLiteralsInRange left.what → HasLiteralsInRange right.what → HasLiteralsInRange (Binary operator left right)
unfolding hidden-the_row-RawExpr-0 shape-the_row-RawExpr-0 hidden
binary_literals operator left right is other = (is, other)

record IsHigher (a b whole : ℕ) : Type 0 where
  left : a ≤ whole
  right : b ≤ whole
  one : (room : ℕ) → a < room → b < room → whole < room

higher_is : (a b : ℕ) → IsHigher a b (higher a b)
higher_is a b = go (nat_le a b) refl
  where
    go : (test : Bool) → nat_le a b ≡ test → IsHigher a b (if test then b else a)
    go true e = let le = leb-true a b e in record { left = le; right = omega arith; one = λ room below other. other }
    go false e = let lt = leb-false a b e in record { left = omega arith; right = omega (arith, lt); one = λ room below other. below }

binary_fits : (room : ℕ) (operator : Operator) (left right : WithHeight) → FitsBelow room left → FitsBelow room right → Fits room (binary operator left right)
binary_fits room operator left right is other =
    let one = is.0 in
    let two = other.0 in
    let top = higher_is left.height right.height in
    let below = top.one room is.1 other.1 in (
      record {
        depth = omega (arith, one.depth, two.depth, top.left, top.right, binary_depth operator left.expr right.expr);
        literals = binary_literals operator left.expr right.expr one.literals two.literals;
      },
      omega (arith, below),
    )

-- an operator and its operands
module _ (room : ℕ) (is_sign : Mark → Bool) (sign : List Mark → Parsed Operator) (operand : List Mark → Parsed WithHeight)
    (sign_keeps : (marks : List Mark) → CountNumbers marks → Keeps Nothing (sign marks))
    (operand_keeps : (marks : List Mark) → CountNumbers marks → Keeps (FitsBelow room) (operand marks)) where
  signed_operand_keeps : (marks : List Mark) → CountNumbers marks → Keeps (λ (right : Operator × WithHeight). FitsBelow room right.1) (operand_at sign operand marks)
  unfolding operand_at
  signed_operand_keeps marks count =
      and_then _ (sign_keeps marks count) (λ operator rest unit from. and_then _ (operand_keeps rest from) (λ right behind other after. gives other after))

  operated_keeps : (left : WithHeight) (marks : List Mark) → FitsBelow room left → CountNumbers marks → Keeps (Fits room) (operated_at sign operand left marks)
  unfolding operated_at
  operated_keeps left marks is count =
      and_then _ (signed_operand_keeps marks count) (λ right behind other after. gives (binary_fits room right.0 left right.1 is other) after)

  operation_keeps : (left : WithHeight) (marks : List Mark) → Fits room left → CountNumbers marks → Keeps (Fits room) (operation_at room sign operand left marks)
  unfolding operation_at
  operation_keeps left marks is count =
      unless_over (nat_le room left.height) _ _ (λ free. operated_keeps left marks (is.0, leb-false room left.height free) count)

  chain_keeps : (first : List Mark → Parsed WithHeight) → ((marks : List Mark) → CountNumbers marks → Keeps (Fits room) (first marks))
      → (marks : List Mark) → CountNumbers marks → Keeps (Fits room) (chain_at room is_sign sign first operand marks)
  unfolding chain_at
  chain_keeps first first_keeps marks count =
      and_then _ (first_keeps marks count) (λ left rest is from. repeated_keeps is_sign (operation_at room sign operand) operation_keeps left rest is from)

product_sign_keeps : (marks : List Mark) → CountNumbers marks → Keeps Nothing (product_sign_at marks)
unfolding product_sign_at
product_sign_keeps marks count = one_standing_for_keeps _ marks count

sum_sign_keeps : (marks : List Mark) → CountNumbers marks → Keeps Nothing (sum_sign_at marks)
unfolding sum_sign_at
sum_sign_keeps marks count = one_standing_for_keeps _ marks count

compare_sign_keeps : (marks : List Mark) → CountNumbers marks → Keeps Nothing (compare_sign_at marks)
unfolding compare_sign_at
compare_sign_keeps marks count = one_standing_for_keeps _ marks count

unary_sign_keeps : (marks : List Mark) → CountNumbers marks → Keeps Nothing (unary_sign_at marks)
unfolding unary_sign_at
unary_sign_keeps marks count = one_of_keeps ((sort.Minus, Minus) ∷ (sort.Exclamation, Exclamation) ∷ []) marks count

-- each of these readers reads expressions that have a level less than the room
abbrev KeepBelow : ℕ → Readers → Type 0
KeepBelow room inner = (part : Precedence) (marks : List Mark) → CountNumbers marks → Keeps (FitsBelow room) (inner part marks)

module _ (room : ℕ) (inner : Readers) (law : KeepBelow room inner) where
  parentheses_keep : (marks : List Mark) → CountNumbers marks → Keeps (Fits room) (parentheses_at inner marks)
  unfolding parentheses_at
  parentheses_keep marks count =
      and_then _ (take_keeps sort.OpenParenthesis marks count) (λ parenthesis rest unit left. and_then _ (law Expr rest left)
      (λ whole behind is from. and_then _ (take_keeps sort.CloseParenthesis behind from) (λ close last unit_ after. gives (in_parentheses_fits room parenthesis whole is) after)))

  parenthesis_keeps : (marks : List Mark) → CountNumbers marks → Keeps (Fits room) (parenthesis_at room inner marks)
  unfolding parenthesis_at
  parenthesis_keeps marks count =
      one_of_two (next_is sort.OpenParenthesis marks) _ _ (unless_over (room == 0) _ _ (λ free. parentheses_keep marks count)) fails

  primary_keeps : (marks : List Mark) → CountNumbers marks → Keeps (Fits room) (primary_at room inner marks)
  unfolding primary_at
  primary_keeps marks count =
      one_of_two (next_fits is_amount marks) _ _ (amount_leaf_keeps room marks count)
      (one_of_two (next_is sort.True marks) _ _ (truth_leaf_keeps room true marks count)
      (one_of_two (next_is sort.False marks) _ _ (truth_leaf_keeps room false marks count)
      (one_of_two (next_is sort.Name marks) _ _ (named_keeps room marks count) (parenthesis_keeps marks count))))

  signed_keeps : (marks : List Mark) → CountNumbers marks → Keeps (Fits room) (signed_at inner marks)
  unfolding signed_at
  signed_keeps marks count =
      and_then _ (unary_sign_keeps marks count) (λ sign rest unit left. and_then _ (law Unary rest left) (λ operand behind is from. gives (signed_fits room _ _ operand is) from))

  unary_keeps : (marks : List Mark) → CountNumbers marks → Keeps (Fits room) (unary_at room inner marks)
  unfolding unary_at
  unary_keeps marks count =
      one_of_two (next_fits is_unary_sign marks) _ _ (unless_over (room == 0) _ _ (λ free. signed_keeps marks count)) (primary_keeps marks count)

  product_keeps : (marks : List Mark) → CountNumbers marks → Keeps (Fits room) (product_at room inner marks)
  unfolding product_at
  product_keeps marks count = chain_keeps room is_product_sign product_sign_at (inner Unary) product_sign_keeps (law Unary) (unary_at room inner) unary_keeps marks count

  sum_keeps : (marks : List Mark) → CountNumbers marks → Keeps (Fits room) (sum_at room inner marks)
  unfolding sum_at
  sum_keeps marks count = chain_keeps room is_sum_sign sum_sign_at (inner Product) sum_sign_keeps (law Product) (product_at room inner) product_keeps marks count

  comparison_keeps : (marks : List Mark) → CountNumbers marks → Keeps (Fits room) (comparison_at room inner marks)
  unfolding comparison_at
  comparison_keeps marks count =
      and_then _ (sum_keeps marks count) (λ left rest is from. one_of_two (next_fits is_compare_sign rest) _ _
      (operation_keeps room is_compare_sign compare_sign_at (inner Sum) compare_sign_keeps (law Sum) left rest is from) (gives is from))

  conjunction_keeps : (marks : List Mark) → CountNumbers marks → Keeps (Fits room) (conjunction_at room inner marks)
  unfolding conjunction_at
  conjunction_keeps marks count =
      chain_keeps room (is_of sort.DoubleAmpersand) _ (inner Comparison) (standing_for_keeps sort.DoubleAmpersand operator.And) (law Comparison) (comparison_at room inner) comparison_keeps marks count

  disjunction_keeps : (marks : List Mark) → CountNumbers marks → Keeps (Fits room) (disjunction_at room inner marks)
  unfolding disjunction_at
  disjunction_keeps marks count =
      chain_keeps room (is_of sort.DoubleBar) _ (inner Conjunction) (standing_for_keeps sort.DoubleBar operator.Or) (law Conjunction) (conjunction_at room inner) conjunction_keeps marks count

  one_level_keeps : (part : Precedence) (marks : List Mark) → CountNumbers marks → Keeps (Fits room) (readers_by room inner part marks)
  one_level_keeps Expr marks count = disjunction_keeps marks count
  one_level_keeps Conjunction marks count = conjunction_keeps marks count
  one_level_keeps Comparison marks count = comparison_keeps marks count
  one_level_keeps Sum marks count = sum_keeps marks count
  one_level_keeps Product marks count = product_keeps marks count
  one_level_keeps Unary marks count = unary_keeps marks count

-- ---- expressions

below : (room : ℕ) (whole : WithHeight) → Fits room whole → FitsBelow (suc room) whole
below room whole is = (is.0, omega (arith, is.1))

inner_readers_keep : (room : ℕ) → KeepBelow room (inner_readers room)
inner_readers_keep zero part marks count = fails
inner_readers_keep (suc room) part marks count = weakened (below room) (one_level_keeps room (inner_readers room) (inner_readers_keep room) part marks count)

whole_keeps : (room : ℕ) (marks : List Mark) → CountNumbers marks → Keeps (Fits room) (whole_at room marks)
whole_keeps room marks count = disjunction_keeps room (inner_readers room) (inner_readers_keep room) marks count

limited : (whole : WithHeight) → Fits depth_limit whole → IsLimitedExpr whole.expr
limited whole is = let measured = is.0 in (omega (arith, measured.depth, is.1), measured.literals)

-- an expression is within the limits
pub expr_keeps : (marks : List Mark) → CountNumbers marks → Keeps IsLimitedExpr (expr_at marks)
unfolding expr_at
expr_keeps marks count = and_then _ (whole_keeps depth_limit marks count) (λ whole rest is left. gives (limited whole is) left)
