-- Reading expressions, the limit of their depth with them.
--
-- An operator, a sign and a pair of parentheses each open a level. The levels that are open at an operator are those of
-- the operators, signs and parentheses around it, and those of what stands left of it; the operator opens one more. So
-- in `a + b + c` the second `+` opens the second level, in `a * b + c` the `+`, and in `a + b * c` the `*`.
use Rattle.std.specs.Prelude.{ℕ, zero, suc, ◌+◌, ◌==◌, Bool, true, false, List, [], ◌∷◌, nat_le, if◌then◌else◌}
use Rattle.aerie_base.specs.declared.expressions.Comparison.TheVariants as comparison
use Rattle.aerie_base.specs.declared.expressions.Operator.{Operator}
use Rattle.aerie_base.specs.declared.expressions.Operator.TheVariants as operator
use Rattle.aerie_base.specs.declared.places.Place.{Place}
use Rattle.aerie_base.specs.models.Limits.{depth_limit}
use Rattle.readers.specs.declared.limits.Limit.TheVariants.{Depth}
use Rattle.readers.specs.Marks.{Mark}
use Rattle.aerie_text.specs.declared.sorts.Sort.TheVariants as sort
use Rattle.readers.specs.Parsed.{Parsed, parsed, failed, ◌>>=◌, next_is, next_fits, is_of, is_one_of, chosen, limited, repeated, take_at, one_of_at}
use Rattle.model_reader.specs.declared.raw.expressions.RawExpr.{RawExpr}
use Rattle.model_reader.specs.declared.raw.expressions.RawExprKind.{RawExprKind, Literal, Read as Look, Not, Negate, Binary}
use Rattle.model_reader.specs.declared.raw.literals.RawLiteralKind.TheVariants as literal
use Rattle.model_reader.specs.declared.raw.names.RawName.{RawName}
use Rattle.model_reader.specs.declared.raw.reads.RawPart.TheVariants as part
use Rattle.model_reader.specs.declared.reading.expressions.precedence.Precedence.{Precedence}
use Rattle.model_reader.specs.declared.reading.expressions.precedence.Precedence.TheVariants.{Expr, Conjunction, Comparison, Sum, Product, Unary}
use Rattle.model_reader.specs.declared.reading.expressions.precedence.Sign.{Sign}
use Rattle.model_reader.specs.declared.reading.expressions.precedence.Sign.TheVariants.{Minus, Exclamation}
use Rattle.model_reader.specs.declared.reading.with_height.WithHeight.{WithHeight}
use Rattle.model_reader.specs.reading.Literals.{amount_at}
use Rattle.model_reader.specs.reading.Names.{raw_name_at, standing_for, one_standing_for}
use Rattle.model_reader.specs.reading.Types.{part_at}

-- The readers of the parts of an expression, where so many levels may still be opened.
abbrev pub Readers : Type 0
Readers = Precedence → List Mark → Parsed WithHeight

-- ---- primaries

-- an expression without levels
abbrev pub leaf : Place → RawExprKind → WithHeight
leaf at what = record { expr = record { at = at; what = what }; height = 0 }

-- NUMBER | DURATION
unfoldable pub amount_leaf_at : List Mark → Parsed WithHeight
amount_leaf_at marks = do
  amount ← amount_at marks
  parsed (leaf amount.0.0 (Literal (literal.Number amount.0.1))) amount.1

-- "true", or "false"
unfoldable pub truth_leaf_at : Bool → List Mark → Parsed WithHeight
truth_leaf_at truth marks = do
  word ← take_at (if truth then sort.True else sort.False) marks
  parsed (leaf word.0 (Literal (literal.Truth truth))) word.1

-- NAME behind a dot: the variant of the enumeration of this name
unfoldable pub variant_at : RawName → List Mark → Parsed RawExprKind
variant_at name marks = do
  variant ← raw_name_at marks
  parsed (Literal (literal.Variant name variant.0)) variant.1

-- "volume" | "rate" | "conflicted" behind a dot: a read of the cell of this name
unfoldable pub part_read_at : RawName → List Mark → Parsed RawExprKind
part_read_at name marks = do
  part_read ← part_at marks
  parsed (Look (record { name = name; part = part_read.0 })) part_read.1

-- "." ( NAME | "volume" | "rate" | "conflicted" )
unfoldable pub dotted_member_at : RawName → List Mark → Parsed RawExprKind
dotted_member_at name marks = do
  dot ← take_at sort.Dot marks
  chosen (next_is sort.Name dot.1) (variant_at name) (part_read_at name) dot.1

-- [ "." ( NAME | "volume" | "rate" | "conflicted" ) ]
unfoldable pub member_at : RawName → List Mark → Parsed RawExprKind
member_at name marks =
    chosen (next_is sort.Dot marks) (dotted_member_at name) (parsed (Look (record { name = name; part = part.Whole }))) marks

-- NAME [ "." ( NAME | "volume" | "rate" | "conflicted" ) ]
unfoldable pub named_at : List Mark → Parsed WithHeight
named_at marks = do
  name ← raw_name_at marks
  member ← member_at name.0 name.1
  parsed (leaf name.0.at member.0) member.1

-- an expression in parentheses, of which the first has this place
abbrev pub in_parentheses : Place → WithHeight → WithHeight
in_parentheses at inner = record { expr = record { at = at; what = inner.expr.what }; height = inner.height + 1 }

-- "(" expr ")"
unfoldable pub parentheses_at : Readers → List Mark → Parsed WithHeight
parentheses_at inner marks = do
  parenthesis ← take_at sort.OpenParenthesis marks
  whole ← inner Expr parenthesis.1
  close ← take_at sort.CloseParenthesis whole.1
  parsed (in_parentheses parenthesis.0 whole.0) close.1

-- the part opens a level with this mark, which it begins with: the limit is passed there where no more may be opened
abbrev pub opening : ℕ → (List Mark → Parsed WithHeight) → List Mark → Parsed WithHeight
opening room part marks = limited (room == 0) Depth part marks

-- the same where the next mark opens a level, and else no part begins
unfoldable pub parenthesis_at : ℕ → Readers → List Mark → Parsed WithHeight
parenthesis_at room inner marks = chosen (next_is sort.OpenParenthesis marks) (opening room (parentheses_at inner)) failed marks

-- the mark is a number or a duration
abbrev pub is_amount : Mark → Bool
is_amount = is_one_of (sort.Number ∷ sort.Time ∷ [])

-- primary = NUMBER | DURATION | "true" | "false" | NAME [ "." ( NAME | "volume" | "rate" | "conflicted" ) ] | "(" expr ")"
unfoldable pub primary_at : ℕ → Readers → List Mark → Parsed WithHeight
primary_at room inner marks =
    chosen (next_fits is_amount marks) amount_leaf_at
    (chosen (next_is sort.True marks) (truth_leaf_at true)
    (chosen (next_is sort.False marks) (truth_leaf_at false)
    (chosen (next_is sort.Name marks) named_at (parenthesis_at room inner)))) marks

-- ---- signs

-- "-" | "!"
unfoldable pub unary_sign_at : List Mark → Parsed (Place × Sign)
unary_sign_at marks = one_of_at ((sort.Minus, Minus) ∷ (sort.Exclamation, Exclamation) ∷ []) marks

-- "-" of a number, or "!" of a truth
abbrev pub signed_kind : Sign → RawExpr → RawExprKind
signed_kind Minus inner = Negate inner
signed_kind Exclamation inner = Not inner

-- an expression behind a sign
abbrev pub behind_sign : Place → Sign → WithHeight → WithHeight
behind_sign at sign inner = record { expr = record { at = at; what = signed_kind sign inner.expr }; height = inner.height + 1 }

-- ( "-" | "!" ) unary
unfoldable pub signed_at : Readers → List Mark → Parsed WithHeight
signed_at inner marks = do
  sign ← unary_sign_at marks
  operand ← inner Unary sign.1
  parsed (behind_sign sign.0.0 sign.0.1 operand.0) operand.1

-- the mark is a sign
abbrev pub is_unary_sign : Mark → Bool
is_unary_sign = is_one_of (sort.Minus ∷ sort.Exclamation ∷ [])

-- unary = ( "-" | "!" ) unary | primary
unfoldable pub unary_at : ℕ → Readers → List Mark → Parsed WithHeight
unary_at room inner marks = chosen (next_fits is_unary_sign marks) (opening room (signed_at inner)) (primary_at room inner) marks

-- ---- operators

abbrev pub higher : ℕ → ℕ → ℕ
higher a b = if nat_le a b then b else a

-- an operator between two expressions
abbrev pub binary : Operator → WithHeight → WithHeight → WithHeight
binary operator left right =
    record {
      expr = record { at = left.expr.at; what = Binary operator left.expr right.expr };
      height = higher left.height right.height + 1;
    }

-- an operator and its right operand
unfoldable pub operand_at : (List Mark → Parsed Operator) → (List Mark → Parsed WithHeight) → List Mark → Parsed (Operator × WithHeight)
operand_at sign operand marks = do
  operator ← sign marks
  right ← operand operator.1
  parsed (operator.0, right.0) right.1

-- the same, behind its left operand
unfoldable pub operated_at : (List Mark → Parsed Operator) → (List Mark → Parsed WithHeight) → WithHeight → List Mark → Parsed WithHeight
operated_at sign operand left marks = do
  right ← operand_at sign operand marks
  parsed (binary right.0.0 left right.0.1) right.1

-- the same; the operator opens one level more than there are in its left operand
unfoldable pub operation_at : ℕ → (List Mark → Parsed Operator) → (List Mark → Parsed WithHeight) → WithHeight → List Mark → Parsed WithHeight
operation_at room sign operand left marks = limited (nat_le room left.height) Depth (operated_at sign operand left) marks

-- a chain of operators, which groups to the left. The first operand is read where as many levels may be opened as for
-- the chain, the others behind an operator.
unfoldable pub chain_at : ℕ → (Mark → Bool) → (List Mark → Parsed Operator) → (List Mark → Parsed WithHeight) → (List Mark → Parsed WithHeight) → List Mark → Parsed WithHeight
chain_at room is_sign sign first operand marks = do
  left ← first marks
  repeated is_sign (operation_at room sign operand) left.0 left.1

abbrev pub is_product_sign : Mark → Bool
is_product_sign = is_one_of (sort.Star ∷ sort.Slash ∷ sort.Percent ∷ [])

-- "*" | "/" | "%"
unfoldable pub product_sign_at : List Mark → Parsed Operator
product_sign_at marks =
    one_standing_for ((sort.Star, operator.Times) ∷ (sort.Slash, operator.Divide) ∷ (sort.Percent, operator.Remainder) ∷ []) marks

-- product = unary { ( "*" | "/" | "%" ) unary }
unfoldable pub product_at : ℕ → Readers → List Mark → Parsed WithHeight
product_at room inner marks = chain_at room is_product_sign product_sign_at (unary_at room inner) (inner Unary) marks

abbrev pub is_sum_sign : Mark → Bool
is_sum_sign = is_one_of (sort.Plus ∷ sort.Minus ∷ [])

-- "+" | "-"
unfoldable pub sum_sign_at : List Mark → Parsed Operator
sum_sign_at marks = one_standing_for ((sort.Plus, operator.Plus) ∷ (sort.Minus, operator.Minus) ∷ []) marks

-- sum = product { ( "+" | "-" ) product }
unfoldable pub sum_at : ℕ → Readers → List Mark → Parsed WithHeight
sum_at room inner marks = chain_at room is_sum_sign sum_sign_at (product_at room inner) (inner Product) marks

abbrev pub is_compare_sign : Mark → Bool
is_compare_sign =
    is_one_of (sort.DoubleEqual ∷ sort.NotEqual ∷ sort.Less ∷ sort.LessEqual ∷ sort.Greater ∷ sort.GreaterEqual ∷ [])

-- "==" | "!=" | "<" | "<=" | ">" | ">="
unfoldable pub compare_sign_at : List Mark → Parsed Operator
compare_sign_at marks =
    one_standing_for
    ((sort.DoubleEqual, operator.Compare comparison.Equal) ∷ (sort.NotEqual, operator.Compare comparison.Unequal)
    ∷ (sort.Less, operator.Compare comparison.Less) ∷ (sort.LessEqual, operator.Compare comparison.AtMost)
    ∷ (sort.Greater, operator.Compare comparison.More) ∷ (sort.GreaterEqual, operator.Compare comparison.AtLeast) ∷ [])
    marks

-- the operator before an operand that is this part: before a whole expression there is none
abbrev pub sign_before : Precedence → List Mark → Parsed Operator
sign_before Expr = failed
sign_before Conjunction = standing_for sort.DoubleBar operator.Or
sign_before Comparison = standing_for sort.DoubleAmpersand operator.And
sign_before Sum = compare_sign_at
sign_before Product = sum_sign_at
sign_before Unary = product_sign_at

-- compare = sum [ ( "==" | "!=" | "<" | "<=" | ">" | ">=" ) sum ]
unfoldable pub comparison_at : ℕ → Readers → List Mark → Parsed WithHeight
comparison_at room inner marks = do
  left ← sum_at room inner marks
  chosen (next_fits is_compare_sign left.1) (operation_at room compare_sign_at (inner Sum) left.0) (parsed left.0) left.1

-- and = compare { "&&" compare }
unfoldable pub conjunction_at : ℕ → Readers → List Mark → Parsed WithHeight
conjunction_at room inner marks =
    chain_at room (is_of sort.DoubleAmpersand) (standing_for sort.DoubleAmpersand operator.And) (comparison_at room inner) (inner Comparison) marks

-- expr = and { "||" and }
unfoldable pub disjunction_at : ℕ → Readers → List Mark → Parsed WithHeight
disjunction_at room inner marks =
    chain_at room (is_of sort.DoubleBar) (standing_for sort.DoubleBar operator.Or) (conjunction_at room inner) (inner Conjunction) marks

-- ---- expressions

-- the readers where so many levels may be opened, by those behind one more that is open
abbrev pub readers_by : ℕ → Readers → Readers
readers_by room inner Expr = disjunction_at room inner
readers_by room inner Conjunction = conjunction_at room inner
readers_by room inner Comparison = comparison_at room inner
readers_by room inner Sum = sum_at room inner
readers_by room inner Product = product_at room inner
readers_by room inner Unary = unary_at room inner

-- where no level may be opened nothing is read in one
abbrev pub no_readers : Readers
no_readers part = failed

-- the readers within a level, where it and those in it may be so many
abbrev pub inner_readers : ℕ → Readers
inner_readers zero = no_readers
inner_readers (suc room) = readers_by room (inner_readers room)

-- the readers where so many levels may be opened
abbrev pub readers : ℕ → Readers
readers room = readers_by room (inner_readers room)

-- an expression with its height, where so many levels may be opened
abbrev pub whole_at : ℕ → List Mark → Parsed WithHeight
whole_at room marks = readers room Expr marks

-- expr, at whose beginning no level is open
unfoldable pub expr_at : List Mark → Parsed RawExpr
expr_at marks = do
  whole ← whole_at depth_limit marks
  parsed whole.0.expr whole.1

-- the mark begins an expression
abbrev pub begins_expr : Mark → Bool
begins_expr =
    is_one_of
    (sort.Minus ∷ sort.Exclamation ∷ sort.Number ∷ sort.Time ∷ sort.True ∷ sort.False ∷ sort.Name ∷ sort.OpenParenthesis ∷ [])
