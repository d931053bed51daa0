-- A linear form that is not refused has at most 16 leaves, each a whole number or a coefficient within its range times one.
use Rattle.std.proofs.Common.{◌≡◌, ℕ, zero, suc, ◌+◌, ◌-◌, ◌*◌, ◌≤◌, ◌<◌, ℤ, pos, negsuc, ◌+ℤ◌, Bool, true, false, List, [], ◌∷◌, ◌++◌, Option, Some, None, option_to_list, option_map, length, nat_le, nat_lt, if◌then◌else◌, refl, sym, ap, ◌∙◌, subst, arith}
use Rattle.std.proofs.lemmas.Bool.{le-leb}
use Rattle.std.proofs.lemmas.Int.{ints}
use Rattle.std.proofs.lemmas.Bool.Decides.{nat_tests}
use Rattle.std.proofs.lemmas.List.{take_all}
use Rattle.std.specs.List.{AllByRecursion, list_all}
use Rattle.std.specs.Int.RustNames.{unsigned_abs}
use Rattle.aerie_base.specs.Ranges.{number_limit, IsNumber}
use Rattle.aerie_base.specs.declared.expressions.Operator.TheVariants as operator
use Rattle.aerie_base.specs.declared.linear.Term.{Term}
use Rattle.aerie_base.specs.declared.operands.CellRead.{CellRead}
use Rattle.aerie_base.specs.declared.places.Place.{Place}
use Rattle.aerie_base.specs.declared.values.Kind.{Kind}
use Rattle.aerie_base.specs.declared.values.Kind.TheVariants.{Int, Truth, Enum}
use Rattle.aerie_base.specs.declared.models.EnumType.{EnumType}
use Rattle.aerie_base.specs.declared.operands.Operand.{Operand}
use Rattle.aerie_base.specs.expressions.Typing.{operand_kind}
use Rattle.aerie_base.specs.models.Conditions.{is_term, is_linear}
use Rattle.aerie_base.specs.models.Limits.{term_limit, coefficient_limit}
use Rattle.model_reader.specs.Limits.{HasLiteralsInRange, PartInRange, IsLiteralInRange}
use Rattle.model_reader.specs.declared.raw.expressions.RawExpr.{RawExpr}
use Rattle.model_reader.specs.declared.raw.expressions.RawExprKind.{RawExprKind, Literal, Read, Not', Negate', Binary', Row_of-RawExpr, end_of-RawExpr, more_of-RawExpr}
use Rattle.model_reader.specs.declared.raw.literals.RawLiteralKind.{RawLiteralKind}
use Rattle.model_reader.specs.declared.raw.literals.RawLiteralKind.TheVariants as literal
use Rattle.model_reader.specs.declared.raw.names.RawName.{RawName}
use Rattle.model_reader.specs.declared.raw.reads.RawRead.{RawRead}
use Rattle.diagnostics.specs.declared.diagnostic.Diagnostic.{Diagnostic}
use Rattle.model_check.specs.declared.causes.Cause.{Cause}
use Rattle.model_check.specs.declared.causes.Cause.TheVariants.{OutOfRange}
use Rattle.model_check.specs.declared.leaves.FormUse.{FormUse}
use Rattle.model_check.specs.declared.leaves.FormUse.TheVariants.{Comparison}
use Rattle.model_check.specs.declared.leaves.Leaf.{Leaf}
use Rattle.model_check.specs.declared.scopes.BodyScope.{BodyScope}
use Rattle.model_check.specs.declared.symbols.EnumSymbol.{EnumSymbol}
use Rattle.model_check.specs.declared.symbols.Symbols.{Symbols}
use Rattle.model_check.specs.CellReads.{read_diagnostics, read_operand}
use Rattle.model_check.specs.Expressions.{expr_diagnostics}
use Rattle.model_check.specs.LinearForms.{is_leaf_kind, is_leaf_read, may_stand, coefficient_wrong, unfit_leaf, constant_leaf, signed_by, read_leaf, no_number_leaf, literal_leaf, plain_number, read_in, product_leaf, Leaves, flipped, negated_leaf, negated_leaves, joint_sign, leaves_step, no_leaves, leaves_of, leaf_diagnostics, leaves_diagnostics, form_diagnostics, terms_in, constants_in, sum_of_leaves, linear_of}
use Rattle.model_check.specs.Literals.{enum_kind, variant_diagnostics, literal_diagnostics}
use Rattle.model_check.specs.NameTables.{entry_in}
use Rattle.model_check.specs.RawExpressions.{raw_gives, raw_row_gives}
use Rattle.diagnostics.specs.NotedInTurn.{front_empty, back_empty, holds_if_empty}
use Rattle.model_check.proofs.Sound.Empty.{three}
use Rattle.model_check.proofs.Sound.Expressions.{judged, row_judged}
use Rattle.model_check.proofs.Sound.Knows.{Knows, sound_read}

-- ---- each leaf

pub signed_size : (negative : Bool) (number : ℤ) → unsigned_abs (signed_by negative number) ≡ unsigned_abs number
signed_size false number = refl
signed_size true (pos zero) = refl
signed_size true (pos (suc n)) = refl
signed_size true (negsuc n) = refl

pub signed_within : (limit : ℕ) (negative : Bool) (number : ℤ) → unsigned_abs number ≤ limit → unsigned_abs (signed_by negative number) ≤ limit
signed_within limit negative number is = subst (λ (size : ℕ). size ≤ limit) (sym (signed_size negative number)) is

pub all_appended : {A : Type 0} (P : A → Type 0) (xs ys : List A) → AllByRecursion P xs → AllByRecursion P ys → AllByRecursion P (xs ++ ys)
all_appended P [] ys all more = more
all_appended P (x ∷ xs) ys all more = (all.0, all_appended P xs ys all.1 more)

-- what holds of each leaf of an expression that is not refused, where it holds of constants, of reads that are not refused,
-- and of what is no leaf
module _ (use_ : FormUse) (symbols : Symbols) (scope : BodyScope) (Q : Leaf → Type 0)
    (constants : (at : Place) (number : ℤ) → IsNumber number → Q (constant_leaf use_ at number))
    (reads : (at coefficient_at : Place) (negative : Bool) (coefficient : ℤ) (read : RawRead) → read_diagnostics symbols scope read ≡ [] → Q (read_leaf use_ symbols scope at coefficient_at negative coefficient read))
    (unfit : (at : Place) → Q (unfit_leaf at)) where
  abbrev row_leaves : {m : _} → Row_of-RawExpr m → RawExpr × Leaves
  row_leaves = raw_row_gives Leaves no_leaves (leaves_step use_ symbols scope)

  variant_leaf : (at : Place) (kind variant : RawName) (found : Option (ℕ × EnumSymbol)) → variant_diagnostics kind variant found ≡ [] → Q (no_number_leaf at (option_map enum_kind found))
  variant_leaf at kind variant None none = cc
  variant_leaf at kind variant (Some enum) none = unfit at

  literal_holds : (at : Place) (negative : Bool) (literal : RawLiteralKind) → IsLiteralInRange literal → literal_diagnostics symbols.enums literal ≡ [] → Q (literal_leaf use_ symbols at negative literal)
  literal_holds at negative (literal.Number number) within none = constants at _ (signed_within number_limit negative number within)
  literal_holds at negative (literal.Truth truth) within none = unfit at
  literal_holds at negative (literal.Variant kind variant) within none = variant_leaf at kind variant (entry_in kind.name symbols.enums) none

  product_holds : (at left_at : Place) (negative : Bool) (left : Option ℤ) (right : RawExprKind) → HasLiteralsInRange right → (right_at : Place) → judged symbols scope right_at right ≡ []
      → Q (product_leaf use_ symbols scope at negative left_at left (read_in right))
  product_holds at left_at negative None right within right_at none = unfit at
  product_holds at left_at negative (Some coefficient) (Literal literal) within right_at none = unfit at
  product_holds at left_at negative (Some coefficient) (Read read) within right_at none = reads at left_at negative coefficient read none
  product_holds at left_at negative (Some coefficient) (Not' _ inner) within right_at none = unfit at
  product_holds at left_at negative (Some coefficient) (Negate' _ inner) within right_at none = unfit at
  product_holds at left_at negative (Some coefficient) (Binary' o _ left _ right) within right_at none = unfit at

  -- the leaf of a product, by the row of its right side
  times_holds : {m : _} (at left_at : Place) (negative : Bool) (left : Option ℤ) (row : Row_of-RawExpr m) → PartInRange row → (row_judged symbols scope row).1 ≡ []
      → Q (product_leaf use_ symbols scope at negative left_at left (read_in (row_leaves row).0.what))
  times_holds at left_at negative None end_of-RawExpr within none = unfit at
  times_holds at left_at negative (Some coefficient) end_of-RawExpr within none = unfit at
  times_holds at left_at negative left (more_of-RawExpr right_at right rest) within none = product_holds at left_at negative left right within right_at none

  mutual
    all_leaves : (at : Place) (what : RawExprKind) (negative : Bool) → HasLiteralsInRange what → judged symbols scope at what ≡ []
        → AllByRecursion Q (raw_gives Leaves no_leaves (leaves_step use_ symbols scope) at what negative)
    all_leaves at (Literal literal) negative within none = (literal_holds at negative literal within none, tt)
    all_leaves at (Read read) negative within none = (reads at at negative (pos 1) read none, tt)
    all_leaves at (Not' _ inner) negative within none = (unfit at, tt)
    all_leaves at (Negate' _ inner) negative within none = negated at inner negative within (front_empty (row_judged symbols scope inner).1 _ none)
    all_leaves at (Binary' operator.Plus _ left _ right) negative within none =
        all_appended Q _ _ (row_holds left negative within.0 (front_empty (row_judged symbols scope left).1 _ (three (row_judged symbols scope left).1 (row_judged symbols scope right).1 _ none)))
        (row_holds right (joint_sign false negative) within.1 (front_empty (row_judged symbols scope right).1 _ (back_empty (row_judged symbols scope left).1 _ (three (row_judged symbols scope left).1 (row_judged symbols scope right).1 _ none))))
    all_leaves at (Binary' operator.Minus _ left _ right) negative within none =
        all_appended Q _ _ (row_holds left negative within.0 (front_empty (row_judged symbols scope left).1 _ (three (row_judged symbols scope left).1 (row_judged symbols scope right).1 _ none)))
        (row_holds right (joint_sign true negative) within.1 (front_empty (row_judged symbols scope right).1 _ (back_empty (row_judged symbols scope left).1 _ (three (row_judged symbols scope left).1 (row_judged symbols scope right).1 _ none))))
    all_leaves at (Binary' operator.Times _ left _ right) negative within none =
        (times_holds at _ negative _ right within.1 (front_empty (row_judged symbols scope right).1 _ (back_empty (row_judged symbols scope left).1 _ (three (row_judged symbols scope left).1 (row_judged symbols scope right).1 _ none))), tt)
    all_leaves at (Binary' operator.Or _ left _ right) negative within none = (unfit at, tt)
    all_leaves at (Binary' operator.And _ left _ right) negative within none = (unfit at, tt)
    all_leaves at (Binary' (operator.Compare how) _ left _ right) negative within none = (unfit at, tt)
    all_leaves at (Binary' operator.Divide _ left _ right) negative within none = (unfit at, tt)
    all_leaves at (Binary' operator.Remainder _ left _ right) negative within none = (unfit at, tt)

    row_holds : {m : _} (row : Row_of-RawExpr m) (negative : Bool) → PartInRange row → (row_judged symbols scope row).1 ≡ [] → AllByRecursion Q ((row_leaves row).1 negative)
    row_holds end_of-RawExpr negative within none = tt
    row_holds (more_of-RawExpr at what rest) negative within none = all_leaves at what negative within none

    -- a minus before a literal makes one leaf of both
    negated : {m : _} (at : Place) (row : Row_of-RawExpr m) (negative : Bool) → PartInRange row → (row_judged symbols scope row).1 ≡ []
        → AllByRecursion Q (negated_leaves (negated_leaf use_ at negative (plain_number (row_leaves row).0.what)) (row_leaves row).1 negative)
    negated at end_of-RawExpr negative within none = tt
    negated at (more_of-RawExpr inner_at (Literal (literal.Number number)) rest) negative within none = (constants at _ (signed_within number_limit (flipped negative) number within), tt)
    negated at (more_of-RawExpr inner_at (Literal (literal.Truth truth)) rest) negative within none = (unfit inner_at, tt)
    negated at (more_of-RawExpr inner_at (Literal (literal.Variant kind variant)) rest) negative within none =
        (literal_holds inner_at (flipped negative) (literal.Variant kind variant) within none, tt)
    negated at (more_of-RawExpr inner_at (Read read) rest) negative within none = (reads inner_at inner_at (flipped negative) (pos 1) read none, tt)
    negated at (more_of-RawExpr inner_at (Not' _ inner) rest) negative within none = (unfit inner_at, tt)
    negated at (more_of-RawExpr inner_at (Negate' s inner) rest) negative within none = all_leaves inner_at (Negate' s inner) (flipped negative) within none
    negated at (more_of-RawExpr inner_at (Binary' o s left t right) rest) negative within none = all_leaves inner_at (Binary' o s left t right) (flipped negative) within none

  pub all_of_form : (raw : RawExpr) → HasLiteralsInRange raw.what → expr_diagnostics symbols scope raw ≡ [] → AllByRecursion Q (leaves_of use_ symbols scope raw false)
  unfolding expr_diagnostics leaves_of
  all_of_form raw within none = all_leaves raw.at raw.what false within none

-- ---- their number

-- none of the leaves is refused, so there are no more than may be
pub few_leaves : (before : ℕ) (leaves : List Leaf) → before ≤ term_limit → leaves_diagnostics before leaves ≡ [] → before + length leaves ≤ term_limit
few_leaves before [] le none = omega (arith, le)
few_leaves before (leaf ∷ rest) le none =
    let here = holds_if_empty (nat_lt before term_limit) _ leaf.at (back_empty (option_to_list leaf.wrong) _ (front_empty (leaf_diagnostics before leaf) _ none)) in
    let lt : before < term_limit = grind (arith, nat_tests) in
    let more = few_leaves (before + 1) rest (omega (arith, lt)) (back_empty (leaf_diagnostics before leaf) _ none) in
    omega (arith, more)

nothing_wrong : (wrong : Option (Diagnostic Cause)) → option_to_list wrong ≡ [] → wrong ≡ None
nothing_wrong None none = refl
nothing_wrong (Some diagnostic) none = cc

-- what holds of a leaf that is not refused holds of each
pub none_wrong : (P : Leaf → Type 0) (before : ℕ) (leaves : List Leaf) → AllByRecursion (λ leaf. leaf.wrong ≡ None → P leaf) leaves → leaves_diagnostics before leaves ≡ [] → AllByRecursion P leaves
none_wrong P before [] all none = tt
none_wrong P before (leaf ∷ rest) all none = (
  all.0 (nothing_wrong leaf.wrong (front_empty (option_to_list leaf.wrong) _ (front_empty (leaf_diagnostics before leaf) _ none))),
  none_wrong P (before + 1) rest all.1 (back_empty (leaf_diagnostics before leaf) _ none),
)

-- ---- forms of a comparison

abs_sum : (a b : ℤ) → unsigned_abs (a +ℤ b) ≤ unsigned_abs a + unsigned_abs b
abs_sum a b = omega (arith, ints)

module _ (locals : ℕ → Option Kind) (reads : CellRead → Option Kind) where
  abbrev TermFits : Option Term → ℤ → Type 0
  TermFits None constant = unsigned_abs constant ≤ number_limit
  TermFits (Some term) constant = (is_term locals reads term ≡ true) × (constant ≡ pos 0)

  abbrev LeafFits : Leaf → Type 0
  LeafFits leaf = TermFits leaf.term leaf.constant

  -- what the terms and constants of so many leaves are
  record SumFits (terms : List Term) (constant : ℤ) (count : ℕ) : Type 0 where
    terms_are : list_all (is_term locals reads) terms ≡ true
    literals : ℕ
    in_all : length terms + literals ≡ count
    constant_is : unsigned_abs constant ≤ literals * number_limit

  sum_more : (term : Option Term) (here : ℤ) (terms : List Term) (constant : ℤ) (count : ℕ) → TermFits term here → SumFits terms constant count → SumFits (option_to_list term ++ terms) (here +ℤ constant) (suc count)
  sum_more None here terms constant count fits sum =
      let le = abs_sum here constant in
      record { terms_are = sum.terms_are; literals = sum.literals + 1; in_all = omega (arith, sum.in_all); constant_is = omega (arith, le, fits, sum.constant_is) }
  sum_more (Some term) here terms constant count fits sum =
      record {
        terms_are = rw fits.0 sum.terms_are;
        literals = sum.literals;
        in_all = omega (arith, sum.in_all);
        constant_is = let le = abs_sum here constant in let zero_here = ap unsigned_abs fits.1 in omega (arith, le, zero_here, sum.constant_is);
      }

  sum_fits : (leaves : List Leaf) → AllByRecursion LeafFits leaves → SumFits (terms_in leaves) (constants_in leaves) (length leaves)
  sum_fits [] all = record { terms_are = refl; literals = 0; in_all = refl; constant_is = omega arith }
  sum_fits (leaf ∷ rest) all = sum_more leaf.term leaf.constant (terms_in rest) (constants_in rest) (length rest) all.0 (sum_fits rest all.1)

  is_linear_if : (terms : List Term) (constant : ℤ) (count : ℕ) → count ≤ term_limit → SumFits terms constant count → is_linear locals reads (record { terms = terms; constant = constant }) ≡ true
  is_linear_if terms constant count few sum =
      let many = sum.in_all in
      let bound = sum.constant_is in
      let enough : length terms ≤ term_limit = omega (arith, many, few) in
      let small : unsigned_abs constant ≤ (term_limit - length terms) * number_limit = omega (arith, many, few, bound) in
      rw (le-leb (length terms) term_limit enough, sum.terms_are, le-leb (unsigned_abs constant) ((term_limit - length terms) * number_limit) small) refl

  module _ (symbols : Symbols) (scope : BodyScope) (enums : List EnumType) (knows : Knows symbols scope enums locals reads) where
    abbrev Right : Leaf → Type 0
    Right leaf = leaf.wrong ≡ None → LeafFits leaf

    small_coefficient : (at : Place) (coefficient : ℤ) → coefficient_wrong at coefficient ≡ None → nat_le (unsigned_abs coefficient) coefficient_limit ≡ true
    small_coefficient at coefficient = go (nat_le (unsigned_abs coefficient) coefficient_limit)
      where
        go : (b : Bool) → (let wrong : Option (Diagnostic Cause) = if b then None else Some (record { place = at; cause = OutOfRange }) in wrong) ≡ None → b ≡ true
        go true none = refl
        go false none = cc

    whole_is : (kind : Kind) (stands : Bool) → is_leaf_kind (Some kind) stands ≡ true → kind ≡ Int
    whole_is Int stands e = refl
    whole_is Truth stands e = cc
    whole_is (Enum number) stands e = cc

    int_operand : (use_ : FormUse) (read : RawRead) → read_diagnostics symbols scope read ≡ [] → is_leaf_read use_ symbols scope read ≡ true → operand_kind locals reads (read_operand symbols scope read) ≡ Some Int
    int_operand use_ read none leaf =
        let sound = sound_read symbols scope enums locals reads knows read none in
        sound.2 ∙ ap Some (whole_is sound.0 (may_stand use_ symbols read) (subst (λ (k : Option Kind). is_leaf_kind k (may_stand use_ symbols read) ≡ true) sound.1 leaf))

    term_is : (negative : Bool) (coefficient : ℤ) (operand : Operand) → nat_le (unsigned_abs coefficient) coefficient_limit ≡ true → operand_kind locals reads operand ≡ Some Int
        → is_term locals reads (record { coefficient = signed_by negative coefficient; operand = operand }) ≡ true
    term_is negative coefficient operand small int = rw (signed_size negative coefficient, small, int) refl

    read_right : (at coefficient_at : Place) (negative : Bool) (coefficient : ℤ) (read : RawRead) → read_diagnostics symbols scope read ≡ [] → Right (read_leaf Comparison symbols scope at coefficient_at negative coefficient read)
    read_right at coefficient_at negative coefficient read none = go (is_leaf_read Comparison symbols scope read) refl
      where
        go : (b : Bool) → is_leaf_read Comparison symbols scope read ≡ b →
            Right (if b
            then record {
              at = at;
              wrong = coefficient_wrong coefficient_at coefficient;
              term = Some (record { coefficient = signed_by negative coefficient; operand = read_operand symbols scope read });
              constant = pos 0;
            }
            else unfit_leaf at)
        go true e right = (term_is negative coefficient (read_operand symbols scope read) (small_coefficient coefficient_at coefficient right) (int_operand Comparison read none e), refl)
        go false e right = cc

    right_leaves : (raw : RawExpr) → HasLiteralsInRange raw.what → expr_diagnostics symbols scope raw ≡ [] → AllByRecursion Right (leaves_of Comparison symbols scope raw false)
    right_leaves raw within none =
        all_of_form Comparison symbols scope Right (λ at number is right. is) read_right (λ at right. cc) raw within none

    -- a form that is not refused is one of the model
    pub sound_form : (raw : RawExpr) → HasLiteralsInRange raw.what → expr_diagnostics symbols scope raw ≡ [] → form_diagnostics Comparison symbols scope raw ≡ []
        → is_linear locals reads (linear_of Comparison symbols scope raw) ≡ true
    sound_form raw within none form =
        let leaves = leaves_of Comparison symbols scope raw false in
        let most = few_leaves 0 leaves (omega arith) form in
        let few : length leaves ≤ term_limit = omega (arith, most) in
        let fits = none_wrong LeafFits 0 leaves (right_leaves raw within none) form in
        subst (λ (some : List Leaf). is_linear locals reads (sum_of_leaves some) ≡ true) (sym (take_all term_limit leaves few))
        (is_linear_if (terms_in leaves) (constants_in leaves) (length leaves) few (sum_fits leaves fits))
