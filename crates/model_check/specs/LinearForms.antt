-- Linear forms: their leaves, what is wrong with one, and what it means.
use Rattle.std.specs.Prelude.{ℕ, ℤ, pos, neg_ℤ, ◌+ℤ◌, ◌+◌, Bool, true, false, List, [], ◌∷◌, ◌++◌, Option, Some, None, option_to_list, nat_le, nat_lt, take, if◌then◌else◌}
use Rattle.std.specs.Int.RustNames.{unsigned_abs}
use Rattle.aerie_base.specs.declared.expressions.Operator.{Operator}
use Rattle.aerie_base.specs.declared.expressions.Operator.TheVariants as operator
use Rattle.aerie_base.specs.declared.linear.Linear.{Linear}
use Rattle.aerie_base.specs.declared.linear.Term.{Term}
use Rattle.aerie_base.specs.declared.places.Place.{Place}
use Rattle.aerie_base.specs.declared.values.Kind.{Kind}
use Rattle.aerie_base.specs.declared.values.Kind.TheVariants.{Int, Truth, Enum}
use Rattle.aerie_base.specs.models.Limits.{term_limit, coefficient_limit}
use Rattle.model_reader.specs.declared.raw.expressions.RawExpr.{RawExpr}
use Rattle.model_reader.specs.declared.raw.expressions.RawExprKind.{RawExprKind, Literal, Read, Not', Negate', Binary', Row_of-RawExpr, end_of-RawExpr, more_of-RawExpr}
use Rattle.model_reader.specs.declared.raw.expressions.RawExprKind.TheOpen.{RawExprKind-F}
use Rattle.model_reader.specs.declared.raw.literals.RawLiteralKind.{RawLiteralKind}
use Rattle.model_reader.specs.declared.raw.literals.RawLiteralKind.TheVariants as literal
use Rattle.model_reader.specs.declared.raw.reads.RawPart.{RawPart}
use Rattle.model_reader.specs.declared.raw.reads.RawPart.TheVariants.{Whole, Volume, Rate, Conflicted}
use Rattle.model_reader.specs.declared.raw.reads.RawRead.{RawRead}
use Rattle.model_check.specs.declared.causes.Cause.TheVariants.{NotLinear, OutOfRange, TooManyTerms}
use Rattle.diagnostics.specs.declared.diagnostic.Diagnostic.{Diagnostic}
use Rattle.model_check.specs.declared.causes.Cause.{Cause}
use Rattle.model_check.specs.declared.leaves.FormUse.{FormUse}
use Rattle.model_check.specs.declared.leaves.FormUse.TheVariants.{Comparison, Resource}
use Rattle.model_check.specs.declared.leaves.Leaf.{Leaf}
use Rattle.model_check.specs.declared.scopes.BodyScope.{BodyScope}
use Rattle.model_check.specs.declared.symbols.CellSort.{CellSort}
use Rattle.model_check.specs.declared.symbols.CellSort.TheVariants.{Counter, Register, Accumulator}
use Rattle.model_check.specs.declared.symbols.Symbols.{Symbols}
use Rattle.model_check.specs.CellReads.{FoundCell, raw_read_kind, read_operand}
use Rattle.diagnostics.specs.Diagnostics.{refused_unless}
use Rattle.model_check.specs.Literals.{literal_kind}
use Rattle.model_check.specs.NameTables.{entry_in}
use Rattle.model_check.specs.RawExpressions.{RawLevel, raw_gives}

-- ---- which reads are leaves

-- what has no type, since its name is unknown, is as it should be
abbrev pub is_whole_number : Option Kind → Bool
is_whole_number None = true
is_whole_number (Some Int) = true
is_whole_number (Some Truth) = false
is_whole_number (Some (Enum number)) = false

abbrev pub is_counter_sort : CellSort → Bool
is_counter_sort Counter = true
is_counter_sort (Register kind) = false
is_counter_sort Accumulator = true

abbrev pub is_counter : FoundCell → Bool
is_counter None = true
is_counter (Some cell) = is_counter_sort cell.1.sort

-- what a linear resource sums: counters and volumes
abbrev pub is_summed_part : RawPart → FoundCell → Bool
is_summed_part Whole cell = is_counter cell
is_summed_part Volume cell = true
is_summed_part Rate cell = false
is_summed_part Conflicted cell = false

abbrev pub may_stand : FormUse → Symbols → RawRead → Bool
may_stand Comparison symbols read = true
may_stand Resource symbols read = is_summed_part read.part (entry_in read.name.name symbols.cells)

abbrev pub is_leaf_kind : Option Kind → Bool → Bool
is_leaf_kind None stands = true
is_leaf_kind (Some kind) stands = if is_whole_number (Some kind) then stands else false

-- a whole number that is read, and that may stand there
abbrev pub is_leaf_read : FormUse → Symbols → BodyScope → RawRead → Bool
is_leaf_read use_ symbols scope read = is_leaf_kind (raw_read_kind symbols scope read) (may_stand use_ symbols read)

-- ---- leaves

abbrev pub not_linear : Place → Diagnostic Cause
not_linear at = record { place = at; cause = NotLinear }

-- a part that is not of the form
abbrev pub unfit_leaf : Place → Leaf
unfit_leaf at = record { at = at; wrong = Some (not_linear at); term = None; constant = pos 0 }

-- a literal is no part of a resource
abbrev pub constant_wrong : FormUse → Place → Option (Diagnostic Cause)
constant_wrong Comparison at = None
constant_wrong Resource at = Some (not_linear at)

abbrev pub constant_leaf : FormUse → Place → ℤ → Leaf
constant_leaf use_ at number = record { at = at; wrong = constant_wrong use_ at; term = None; constant = number }

-- a coefficient has its range
abbrev pub coefficient_wrong : Place → ℤ → Option (Diagnostic Cause)
coefficient_wrong at coefficient =
    if nat_le (unsigned_abs coefficient) coefficient_limit then None else Some (record { place = at; cause = OutOfRange })

abbrev pub signed_by : Bool → ℤ → ℤ
signed_by true number = neg_ℤ number
signed_by false number = number

-- a read with its coefficient, whose first token has this place
abbrev pub read_leaf : FormUse → Symbols → BodyScope → Place → Place → Bool → ℤ → RawRead → Leaf
read_leaf use_ symbols scope at coefficient_at negative coefficient read =
    if is_leaf_read use_ symbols scope read
    then record {
      at = at;
      wrong = coefficient_wrong coefficient_at coefficient;
      term = Some (record { coefficient = signed_by negative coefficient; operand = read_operand symbols scope read });
      constant = pos 0;
    }
    else unfit_leaf at

-- a literal of no type, since its enumeration is unknown, is as it should be
abbrev pub no_number_leaf : Place → Option Kind → Leaf
no_number_leaf at None = record { at = at; wrong = None; term = None; constant = pos 0 }
no_number_leaf at (Some kind) = unfit_leaf at

abbrev pub literal_leaf : FormUse → Symbols → Place → Bool → RawLiteralKind → Leaf
literal_leaf use_ symbols at negative (literal.Number number) = constant_leaf use_ at (signed_by negative number)
literal_leaf use_ symbols at negative (literal.Truth truth) = unfit_leaf at
literal_leaf use_ symbols at negative (literal.Variant kind variant) =
    no_number_leaf at (literal_kind symbols.enums (literal.Variant kind variant))

abbrev pub literal_number : RawLiteralKind → Option ℤ
literal_number (literal.Number number) = Some number
literal_number (literal.Truth truth) = None
literal_number (literal.Variant kind variant) = None

-- the number of a literal without a sign
abbrev pub plain_number : RawExprKind → Option ℤ
plain_number (Literal literal) = literal_number literal
plain_number (Read read) = None
plain_number (Not' _ _) = None
plain_number (Negate' _ _) = None
plain_number (Binary' _ _ _ _ _) = None

abbrev pub negated_number : Option ℤ → Option ℤ
negated_number None = None
negated_number (Some number) = Some (neg_ℤ number)

abbrev pub row_number : {m : _} → Row_of-RawExpr m → Option ℤ
row_number end_of-RawExpr = None
row_number (more_of-RawExpr at what rest) = plain_number what

-- the number of a literal, which may have one minus
abbrev pub signed_number : RawExprKind → Option ℤ
signed_number (Literal literal) = literal_number literal
signed_number (Read read) = None
signed_number (Not' _ _) = None
signed_number (Negate' _ inner) = negated_number (row_number inner)
signed_number (Binary' _ _ _ _ _) = None

abbrev pub read_in : RawExprKind → Option RawRead
read_in (Literal literal) = None
read_in (Read read) = Some read
read_in (Not' _ _) = None
read_in (Negate' _ _) = None
read_in (Binary' _ _ _ _ _) = None

-- a literal times a read, the literal on the left
abbrev pub product_leaf : FormUse → Symbols → BodyScope → Place → Bool → Place → Option ℤ → Option RawRead → Leaf
product_leaf use_ symbols scope at negative left None right = unfit_leaf at
product_leaf use_ symbols scope at negative left (Some coefficient) None = unfit_leaf at
product_leaf use_ symbols scope at negative left (Some coefficient) (Some read) =
    read_leaf use_ symbols scope at left negative coefficient read

-- ---- the leaves of a form

-- by whether what stands around it negates it
abbrev pub Leaves : Type 0
Leaves = Bool → List Leaf

abbrev pub flipped : Bool → Bool
flipped true = false
flipped false = true

-- the leaf of a literal behind a minus, at which it begins
abbrev pub negated_leaf : FormUse → Place → Bool → Option ℤ → Option Leaf
negated_leaf use_ at negative None = None
negated_leaf use_ at negative (Some number) = Some (constant_leaf use_ at (signed_by (flipped negative) number))

-- a negated literal is one leaf
abbrev pub negated_leaves : Option Leaf → Leaves → Leaves
negated_leaves None inner negative = inner (flipped negative)
negated_leaves (Some leaf) inner negative = leaf ∷ []

-- whether an operator makes a sum of its sides, and then whether it negates the right one
abbrev pub sum_sign : Operator → Option Bool
sum_sign operator.Plus = Some false
sum_sign operator.Minus = Some true
sum_sign operator.Times = None
sum_sign operator.Or = None
sum_sign operator.And = None
sum_sign (operator.Compare how) = None
sum_sign operator.Divide = None
sum_sign operator.Remainder = None

-- whether one of two signs is a minus
abbrev pub joint_sign : Bool → Bool → Bool
joint_sign true negative = flipped negative
joint_sign false negative = negative

-- a product may be a leaf, and no other operator is
abbrev pub operator_leaf : FormUse → Symbols → BodyScope → Place → Bool → Operator → RawExpr → RawExpr → Leaf
operator_leaf use_ symbols scope at negative operator.Times left right =
    product_leaf use_ symbols scope at negative left.at (signed_number left.what) (read_in right.what)
operator_leaf use_ symbols scope at negative operator.Plus left right = unfit_leaf at
operator_leaf use_ symbols scope at negative operator.Minus left right = unfit_leaf at
operator_leaf use_ symbols scope at negative operator.Or left right = unfit_leaf at
operator_leaf use_ symbols scope at negative operator.And left right = unfit_leaf at
operator_leaf use_ symbols scope at negative (operator.Compare how) left right = unfit_leaf at
operator_leaf use_ symbols scope at negative operator.Divide left right = unfit_leaf at
operator_leaf use_ symbols scope at negative operator.Remainder left right = unfit_leaf at

abbrev pub operator_leaves : FormUse → Symbols → BodyScope → Place → Operator → Option Bool → RawExpr × Leaves → RawExpr × Leaves → Leaves
operator_leaves use_ symbols scope at operator None left right negative =
    operator_leaf use_ symbols scope at negative operator left.0 right.0 ∷ []
operator_leaves use_ symbols scope at operator (Some minus) left right negative = left.1 negative ++ right.1 (joint_sign minus negative)

abbrev pub leaves_step : FormUse → Symbols → BodyScope → Place → RawLevel Leaves → Leaves
leaves_step use_ symbols scope at (RawExprKind-F.Literal literal) negative = literal_leaf use_ symbols at negative literal ∷ []
leaves_step use_ symbols scope at (RawExprKind-F.Read read) negative =
    read_leaf use_ symbols scope at at negative (pos 1) read ∷ []
leaves_step use_ symbols scope at (RawExprKind-F.Not inner) negative = unfit_leaf at ∷ []
leaves_step use_ symbols scope at (RawExprKind-F.Negate inner) negative =
    negated_leaves (negated_leaf use_ at negative (plain_number inner.0.what)) inner.1 negative
leaves_step use_ symbols scope at (RawExprKind-F.Binary operator left right) negative =
    operator_leaves use_ symbols scope at operator (sum_sign operator) left right negative

abbrev pub no_leaves : Leaves
no_leaves negative = []

-- the leaves of a form, negated or not, in the text's order; a part that is no leaf stands as one
unfoldable pub leaves_of : FormUse → Symbols → BodyScope → RawExpr → Leaves
leaves_of use_ symbols scope raw = raw_gives Leaves no_leaves (leaves_step use_ symbols scope) raw.at raw.what

-- ---- what is wrong with a form

-- a leaf behind so many others: those past the sixteenth are too many
abbrev pub leaf_diagnostics : ℕ → Leaf → List (Diagnostic Cause)
leaf_diagnostics before leaf = option_to_list leaf.wrong ++ refused_unless (nat_lt before term_limit) TooManyTerms leaf.at

-- the same of the leaves behind so many others
abbrev pub leaves_diagnostics : ℕ → List Leaf → List (Diagnostic Cause)
leaves_diagnostics before [] = []
leaves_diagnostics before (leaf ∷ rest) =
    leaf_diagnostics before leaf ++ leaves_diagnostics (before + 1) rest

abbrev pub form_diagnostics : FormUse → Symbols → BodyScope → RawExpr → List (Diagnostic Cause)
form_diagnostics use_ symbols scope raw = leaves_diagnostics 0 (leaves_of use_ symbols scope raw false)

-- ---- what it means

abbrev pub terms_in : List Leaf → List Term
terms_in [] = []
terms_in (leaf ∷ rest) = option_to_list leaf.term ++ terms_in rest

abbrev pub constants_in : List Leaf → ℤ
constants_in [] = pos 0
constants_in (leaf ∷ rest) = leaf.constant +ℤ constants_in rest

-- the sum of the first sixteen leaves
abbrev pub sum_of_leaves : List Leaf → Linear
sum_of_leaves leaves = record { terms = terms_in leaves; constant = constants_in leaves }

abbrev pub linear_of : FormUse → Symbols → BodyScope → RawExpr → Linear
linear_of use_ symbols scope raw = sum_of_leaves (take term_limit (leaves_of use_ symbols scope raw false))
