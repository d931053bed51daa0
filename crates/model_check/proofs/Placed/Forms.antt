-- Refusals of linear forms and of conditions stand at places of theirs.
use Rattle.std.proofs.Common.{ℕ, ◌+◌, ℤ, pos, Bool, true, false, List, [], ◌∷◌, Option, Some, None, option_to_list, nat_le, nat_lt, if◌then◌else◌}
use Rattle.std.specs.Int.RustNames.{unsigned_abs}
use Rattle.std.specs.List.{AllByRecursion}
use Rattle.aerie_base.specs.declared.expressions.Operator.TheVariants as operator
use Rattle.aerie_base.specs.declared.places.Place.{Place}
use Rattle.aerie_base.specs.declared.values.Kind.{Kind}
use Rattle.aerie_base.specs.declared.values.Kind.TheVariants.{Truth}
use Rattle.aerie_base.specs.models.Limits.{term_limit, coefficient_limit}
use Rattle.model_reader.specs.declared.raw.expressions.RawExpr.{RawExpr}
use Rattle.model_reader.specs.declared.raw.expressions.RawExprKind.{RawExprKind, Literal, Read, Not', Negate', Binary', Row_of-RawExpr, end_of-RawExpr, more_of-RawExpr}
use Rattle.model_reader.specs.declared.raw.literals.RawLiteralKind.{RawLiteralKind}
use Rattle.model_reader.specs.declared.raw.literals.RawLiteralKind.TheVariants as literal
use Rattle.model_reader.specs.declared.raw.reads.RawRead.{RawRead}
use Rattle.model_check.specs.declared.causes.Cause.TheVariants.{OutOfRange, TooManyTerms}
use Rattle.diagnostics.specs.declared.diagnostic.Diagnostic.{Diagnostic}
use Rattle.model_check.specs.declared.causes.Cause.{Cause}
use Rattle.model_check.specs.declared.leaves.FormUse.{FormUse}
use Rattle.model_check.specs.declared.leaves.FormUse.TheVariants.{Comparison, Resource}
use Rattle.model_check.specs.declared.leaves.Leaf.{Leaf}
use Rattle.model_check.specs.declared.scopes.BodyScope.{BodyScope}
use Rattle.model_check.specs.declared.symbols.Symbols.{Symbols}
use Rattle.model_check.specs.CellReads.{raw_read_kind, read_operand}
use Rattle.model_check.specs.Expressions.{typed_diagnostics}
use Rattle.model_check.specs.LinearForms.{is_leaf_read, unfit_leaf, constant_leaf, coefficient_wrong, signed_by, read_leaf, no_number_leaf, literal_leaf, plain_number, signed_number, read_in, product_leaf, Leaves, flipped, negated_leaf, negated_leaves, joint_sign, leaves_step, no_leaves, leaves_of, leaf_diagnostics, leaves_diagnostics, form_diagnostics}
use Rattle.model_check.specs.Literals.{literal_kind}
use Rattle.model_check.specs.RawExpressions.{raw_gives, raw_row_gives}
use Rattle.model_check.specs.RawPlaces.{expr_places}
use Rattle.model_check.specs.Waits.{is_side, side_diagnostics, compared_diagnostics, forms_compared, is_truth, cond_diagnostics_step, cond_diagnostics, wait_diagnostics}
use Rattle.model_check.proofs.Placed.Parts.{in_front, behind, in_both, Places, Stand, stand_both, unless}
use Rattle.model_check.proofs.Placed.Expressions.{placed, row_placed, row_place, row_expr, first_of, typed_placed}

module _ (P : Place → Type 0) where
  -- ---- leaves

  -- a leaf and what is wrong with it stand at such places
  abbrev Leafed : Leaf → Type 0
  Leafed leaf = P leaf.at × Stand P (option_to_list leaf.wrong)

  unfit : (at : Place) → P at → Leafed (unfit_leaf at)
  unfit at is = (is, (is, tt))

  constant : (use_ : FormUse) (at : Place) (number : ℤ) → P at → Leafed (constant_leaf use_ at number)
  constant Comparison at number is = (is, tt)
  constant Resource at number is = (is, (is, tt))

  coefficient_placed : (at : Place) (coefficient : ℤ) → P at → Stand P (option_to_list (coefficient_wrong at coefficient))
  coefficient_placed at coefficient is = go (nat_le (unsigned_abs coefficient) coefficient_limit)
    where
      go : (b : Bool) → Stand P (option_to_list (if b then None else Some (record { place = at; cause = OutOfRange })))
      go true = tt
      go false = (is, tt)

  either : (b : Bool) (one other : Leaf) → Leafed one → Leafed other → Leafed (if b then one else other)
  either true one other is are = is
  either false one other is are = are

  module _ (use_ : FormUse) (symbols : Symbols) (scope : BodyScope) where
    read : (at coefficient_at : Place) (negative : Bool) (coefficient : ℤ) (raw : RawRead) → P at → P coefficient_at → Leafed (read_leaf use_ symbols scope at coefficient_at negative coefficient raw)
    read at coefficient_at negative coefficient raw one two =
        either (is_leaf_read use_ symbols scope raw)
        (record {
          at = at;
          wrong = coefficient_wrong coefficient_at coefficient;
          term = Some (record { coefficient = signed_by negative coefficient; operand = read_operand symbols scope raw });
          constant = pos 0;
        }) (unfit_leaf at) (one, coefficient_placed coefficient_at coefficient two) (unfit at one)

    no_number : (at : Place) (kind : Option Kind) → P at → Leafed (no_number_leaf at kind)
    no_number at None is = (is, tt)
    no_number at (Some kind) is = unfit at is

    literal_leafed : (at : Place) (negative : Bool) (what : RawLiteralKind) → P at → Leafed (literal_leaf use_ symbols at negative what)
    literal_leafed at negative (literal.Number number) is = constant use_ at (signed_by negative number) is
    literal_leafed at negative (literal.Truth truth) is = unfit at is
    literal_leafed at negative (literal.Variant kind variant) is = no_number at (literal_kind symbols.enums (literal.Variant kind variant)) is

    product : (at left_at : Place) (negative : Bool) (left : Option ℤ) (right : Option RawRead) → P at → P left_at → Leafed (product_leaf use_ symbols scope at negative left_at left right)
    product at left_at negative None right one two = unfit at one
    product at left_at negative (Some coefficient) None one two = unfit at one
    product at left_at negative (Some coefficient) (Some raw) one two = read at left_at negative coefficient raw one two

    abbrev row_leaves : {m : _} → Row_of-RawExpr m → RawExpr × Leaves
    row_leaves = raw_row_gives Leaves no_leaves (leaves_step use_ symbols scope)

    -- a minus before a literal makes one leaf of both
    negated : (at : Place) (negative : Bool) (found : Option ℤ) (inner : Leaves) → P at → ((here : Bool) → AllByRecursion Leafed (inner here))
        → AllByRecursion Leafed (negated_leaves (negated_leaf use_ at negative found) inner negative)
    negated at negative None inner is are = are (flipped negative)
    negated at negative (Some number) inner is are = (constant use_ at (signed_by (flipped negative) number) is, tt)

    mutual
      leaves_placed : (at : Place) (what : RawExprKind) (negative : Bool) → Places P (placed at what)
          → AllByRecursion Leafed (raw_gives Leaves no_leaves (leaves_step use_ symbols scope) at what negative)
      leaves_placed at (Literal literal) negative all = (literal_leafed at negative literal all.0, tt)
      leaves_placed at (Read raw) negative all = (read at at negative (pos 1) raw all.0 all.0, tt)
      leaves_placed at (Not' _ inner) negative all = (unfit at all.0, tt)
      leaves_placed at (Negate' _ inner) negative all =
          negated at negative (plain_number (row_leaves inner).0.what) (row_leaves inner).1 all.0 (λ here. row_leafed inner here all.1)
      leaves_placed at (Binary' operator.Plus _ left _ right) negative all =
          in_both Leafed _ _ (row_leafed left negative (in_front P (row_placed left).1 (row_placed right).1 all.1))
          (row_leafed right (joint_sign false negative) (behind P (row_placed left).1 (row_placed right).1 all.1))
      leaves_placed at (Binary' operator.Minus _ left _ right) negative all =
          in_both Leafed _ _ (row_leafed left negative (in_front P (row_placed left).1 (row_placed right).1 all.1))
          (row_leafed right (joint_sign true negative) (behind P (row_placed left).1 (row_placed right).1 all.1))
      leaves_placed at (Binary' operator.Times _ left _ right) negative all = (
        product at (row_leaves left).0.at negative (signed_number (row_leaves left).0.what) (read_in (row_leaves right).0.what) all.0
            (row_place P Leaves no_leaves (leaves_step use_ symbols scope) left (in_front P (row_placed left).1 (row_placed right).1 all.1)),
        tt,
      )
      leaves_placed at (Binary' operator.Or _ left _ right) negative all = (unfit at all.0, tt)
      leaves_placed at (Binary' operator.And _ left _ right) negative all = (unfit at all.0, tt)
      leaves_placed at (Binary' (operator.Compare how) _ left _ right) negative all = (unfit at all.0, tt)
      leaves_placed at (Binary' operator.Divide _ left _ right) negative all = (unfit at all.0, tt)
      leaves_placed at (Binary' operator.Remainder _ left _ right) negative all = (unfit at all.0, tt)

      row_leafed : {m : _} (row : Row_of-RawExpr m) (negative : Bool) → Places P (row_placed row).1 → AllByRecursion Leafed ((row_leaves row).1 negative)
      row_leafed end_of-RawExpr negative all = tt
      row_leafed (more_of-RawExpr at what rest) negative all = leaves_placed at what negative all

    -- ---- linear forms

    leaves_stand : (before : ℕ) (leaves : List Leaf) → AllByRecursion Leafed leaves → Stand P (leaves_diagnostics before leaves)
    leaves_stand before [] all = tt
    leaves_stand before (leaf ∷ rest) all =
        stand_both P (leaf_diagnostics before leaf) _ (stand_both P (option_to_list leaf.wrong) _ all.0.1 (unless P (nat_lt before term_limit) TooManyTerms leaf.at all.0.0))
        (leaves_stand (before + 1) rest all.1)

    pub form_placed : (raw : RawExpr) → Places P (expr_places raw) → Stand P (form_diagnostics use_ symbols scope raw)
    unfolding expr_places leaves_of
    form_placed raw all = leaves_stand 0 _ (leaves_placed raw.at raw.what false all)

  -- ---- conditions

  module _ (symbols : Symbols) (scope : BodyScope) where
    abbrev cond_judged : Place → RawExprKind → List (Diagnostic Cause)
    cond_judged = raw_gives (List (Diagnostic Cause)) [] (cond_diagnostics_step symbols scope)

    abbrev row_cond_judged : {m : _} → Row_of-RawExpr m → RawExpr × List (Diagnostic Cause)
    row_cond_judged = raw_row_gives (List (Diagnostic Cause)) [] (cond_diagnostics_step symbols scope)

    side_placed : (raw : RawExpr) → Places P (expr_places raw) → Stand P (side_diagnostics symbols scope raw)
    side_placed raw all = unless P (is_side symbols scope raw.what) _ raw.at (first_of P raw all)

    compared_placed : (left right : RawExpr) (forms : Bool) → Places P (expr_places left) → Places P (expr_places right) → Stand P (compared_diagnostics symbols scope left right forms)
    compared_placed left right true one two = stand_both P (form_diagnostics Comparison symbols scope left) _ (form_placed Comparison symbols scope left one) (form_placed Comparison symbols scope right two)
    compared_placed left right false one two = stand_both P (side_diagnostics symbols scope left) _ (side_placed left one) (side_placed right two)

    mutual
      cond_stands : (at : Place) (what : RawExprKind) → Places P (placed at what) → Stand P (cond_judged at what)
      cond_stands at (Literal literal) all = unless P (is_truth (literal_kind symbols.enums literal)) _ at all.0
      cond_stands at (Read raw) all = unless P (is_truth (raw_read_kind symbols scope raw)) _ at all.0
      cond_stands at (Not' _ inner) all = row_cond_stands inner all.1
      cond_stands at (Negate' _ inner) all = (all.0, tt)
      cond_stands at (Binary' operator.Or _ left _ right) all =
          stand_both P (row_cond_judged left).1 _ (row_cond_stands left (in_front P (row_placed left).1 (row_placed right).1 all.1))
          (row_cond_stands right (behind P (row_placed left).1 (row_placed right).1 all.1))
      cond_stands at (Binary' operator.And _ left _ right) all =
          stand_both P (row_cond_judged left).1 _ (row_cond_stands left (in_front P (row_placed left).1 (row_placed right).1 all.1))
          (row_cond_stands right (behind P (row_placed left).1 (row_placed right).1 all.1))
      cond_stands at (Binary' (operator.Compare how) _ left _ right) all =
          compared_placed (row_cond_judged left).0 (row_cond_judged right).0 (forms_compared symbols scope how (row_cond_judged left).0 (row_cond_judged right).0)
          (row_expr P (List (Diagnostic Cause)) [] (cond_diagnostics_step symbols scope) left (in_front P (row_placed left).1 (row_placed right).1 all.1))
          (row_expr P (List (Diagnostic Cause)) [] (cond_diagnostics_step symbols scope) right (behind P (row_placed left).1 (row_placed right).1 all.1))
      cond_stands at (Binary' operator.Plus _ left _ right) all = (all.0, tt)
      cond_stands at (Binary' operator.Minus _ left _ right) all = (all.0, tt)
      cond_stands at (Binary' operator.Times _ left _ right) all = (all.0, tt)
      cond_stands at (Binary' operator.Divide _ left _ right) all = (all.0, tt)
      cond_stands at (Binary' operator.Remainder _ left _ right) all = (all.0, tt)

      row_cond_stands : {m : _} (row : Row_of-RawExpr m) → Places P (row_placed row).1 → Stand P (row_cond_judged row).1
      row_cond_stands end_of-RawExpr all = tt
      row_cond_stands (more_of-RawExpr at what rest) all = cond_stands at what all

    cond_placed : (raw : RawExpr) → Places P (expr_places raw) → Stand P (cond_diagnostics symbols scope raw)
    unfolding expr_places cond_diagnostics
    cond_placed raw all = cond_stands raw.at raw.what all

    pub wait_placed : (raw : RawExpr) → Places P (expr_places raw) → Stand P (wait_diagnostics symbols scope raw)
    wait_placed raw all = stand_both P (typed_diagnostics symbols scope Truth raw) _ (typed_placed P symbols scope Truth raw all) (cond_placed raw all)
