-- A condition that is not refused is one of the model.
use Rattle.std.proofs.Common.{◌≡◌, ℕ, ◌+◌, ◌≤◌, max, Bool, true, false, ◌&&◌, List, [], ◌++◌, Option, Some, None, refl, sym, ap, ◌∙◌, subst, arith, true≢false}
use Rattle.std.proofs.lemmas.Bool.{le-leb}
use Rattle.aerie_base.specs.conditions.RecursionLaws.{gives-Not, gives-And, gives-Or}
use Rattle.aerie_base.specs.declared.conditions.Cond.{Cond}
use Rattle.aerie_base.specs.declared.conditions.Cond as cond
use Rattle.aerie_base.specs.declared.conditions.Simple.{Simple}
use Rattle.aerie_base.specs.declared.conditions.Simple.TheVariants as simple
use Rattle.aerie_base.specs.declared.expressions.Comparison.{Comparison}
use Rattle.aerie_base.specs.declared.expressions.Comparison.TheVariants as by
use Rattle.aerie_base.specs.declared.expressions.Operator.TheVariants as operator
use Rattle.aerie_base.specs.declared.models.EnumType.{EnumType}
use Rattle.aerie_base.specs.declared.linear.Linear.{Linear}
use Rattle.aerie_base.specs.declared.operands.CellRead.{CellRead}
use Rattle.aerie_base.specs.declared.operands.Operand.{Operand}
use Rattle.aerie_base.specs.declared.places.Place.{Place}
use Rattle.aerie_base.specs.declared.values.Kind.{Kind}
use Rattle.aerie_base.specs.declared.values.Kind.TheVariants.{Int, Truth, Enum}
use Rattle.aerie_base.specs.expressions.Typing.{same_kind, operand_kind}
use Rattle.aerie_base.specs.models.Conditions.{Checking, side_kind, may_equal, is_linear, condition_step, is_typed_condition, cond_depth_step, cond_depth, is_condition}
use Rattle.aerie_base.specs.models.Limits.{depth_limit}
use Rattle.model_reader.specs.Limits.{raw_depth, part_depth, HasLiteralsInRange, PartInRange, IsLimitedExpr}
use Rattle.model_reader.specs.declared.raw.expressions.RawExpr.{RawExpr}
use Rattle.model_reader.specs.declared.raw.expressions.RawExprKind.{RawExprKind, Literal, Read, Not', Negate', Binary', Row_of-RawExpr, end_of-RawExpr, more_of-RawExpr}
use Rattle.model_reader.specs.declared.raw.reads.RawPart.{RawPart}
use Rattle.model_reader.specs.declared.raw.reads.RawPart.TheVariants.{Whole, Volume, Rate, Conflicted}
use Rattle.diagnostics.specs.declared.diagnostic.Diagnostic.{Diagnostic}
use Rattle.model_check.specs.declared.causes.Cause.{Cause}
use Rattle.model_check.specs.declared.leaves.FormUse.TheVariants.{Comparison as InComparison}
use Rattle.model_check.specs.declared.scopes.BodyScope.{BodyScope}
use Rattle.model_check.specs.declared.symbols.CellSort.{CellSort}
use Rattle.model_check.specs.declared.symbols.CellSort.TheVariants.{Counter, Register, Accumulator}
use Rattle.model_check.specs.declared.symbols.Symbols.{Symbols}
use Rattle.model_check.specs.CellReads.{FoundLocal, FoundCell, sort_kind, sort_operand, part_kind, part_operand, raw_read_kind}
use Rattle.model_check.specs.Expressions.{raw_kind, compared_kind, sides_diagnostics, expr_diagnostics, typed_diagnostics}
use Rattle.model_check.specs.LinearForms.{form_diagnostics}
use Rattle.diagnostics.specs.ShortNumbers.{short}
use Rattle.model_check.specs.NameTables.{entry_in}
use Rattle.model_check.specs.RawExpressions.{raw_gives, raw_row_gives}
use Rattle.model_check.specs.Waits.{is_side_part, is_side, side_diagnostics, side_of, is_int, compares_forms, is_equal, compared_diagnostics, forms_compared, compared_of, is_truth, cond_diagnostics_step, cond_diagnostics, wait_diagnostics, cond_step, cond_of}
use Rattle.diagnostics.specs.NotedInTurn.{front_empty, back_empty, holds_if_empty}
use Rattle.model_check.proofs.Sound.Empty.{three, same_kind_is}
use Rattle.model_check.proofs.Sound.Knows.{Knows, sound_literal, sound_read}
use Rattle.model_check.proofs.Sound.Expressions.{judged, row_judged, SidesFit, sides_fit, sound_made}
use Rattle.model_check.proofs.Sound.Linear.{sound_form}

-- ---- what the definitions give at each form

module _ (enums : List EnumType) where
  typed_Not : (part : Cond) → is_typed_condition enums (cond.Not part) ≡ is_typed_condition enums part
  unfolding is_typed_condition
  typed_Not part = gives-Not Checking (λ locals reads. false) (condition_step enums) part

  typed_And : (left right : Cond) → is_typed_condition enums (cond.And left right) ≡ (λ locals reads. is_typed_condition enums left locals reads && is_typed_condition enums right locals reads)
  unfolding is_typed_condition
  typed_And left right = gives-And Checking (λ locals reads. false) (condition_step enums) left right

  typed_Or : (left right : Cond) → is_typed_condition enums (cond.Or left right) ≡ (λ locals reads. is_typed_condition enums left locals reads && is_typed_condition enums right locals reads)
  unfolding is_typed_condition
  typed_Or left right = gives-Or Checking (λ locals reads. false) (condition_step enums) left right

depth_Not : (part : Cond) → cond_depth (cond.Not part) ≡ 1 + cond_depth part
unfolding cond_depth
depth_Not part = gives-Not ℕ 0 cond_depth_step part

depth_And : (left right : Cond) → cond_depth (cond.And left right) ≡ 1 + max (cond_depth left) (cond_depth right)
unfolding cond_depth
depth_And left right = gives-And ℕ 0 cond_depth_step left right

depth_Or : (left right : Cond) → cond_depth (cond.Or left right) ≡ 1 + max (cond_depth left) (cond_depth right)
unfolding cond_depth
depth_Or left right = gives-Or ℕ 0 cond_depth_step left right

module _ (symbols : Symbols) (scope : BodyScope) where
  abbrev cond_judged : Place → RawExprKind → List (Diagnostic Cause)
  cond_judged = raw_gives (List (Diagnostic Cause)) [] (cond_diagnostics_step symbols scope)

  abbrev row_cond_judged : {m : _} → Row_of-RawExpr m → RawExpr × List (Diagnostic Cause)
  row_cond_judged = raw_row_gives (List (Diagnostic Cause)) [] (cond_diagnostics_step symbols scope)

  abbrev cond_made : Place → RawExprKind → Cond
  cond_made = raw_gives Cond (cond.Literal false) (cond_step symbols scope)

  abbrev row_cond_made : {m : _} → Row_of-RawExpr m → RawExpr × Cond
  row_cond_made = raw_row_gives Cond (cond.Literal false) (cond_step symbols scope)

  -- ---- depth

  compared_depth : (how : Comparison) (left right : RawExpr) (forms : Bool) → cond_depth (compared_of symbols scope how left right forms) ≡ 1
  unfolding cond_depth
  compared_depth how left right true = refl
  compared_depth how left right false = refl

  literal_depth : (truth : Bool) → cond_depth (cond.Literal truth) ≡ 0
  unfolding cond_depth
  literal_depth truth = refl

  mutual
    unfolding cond_depth

    depth_within : (at : Place) (what : RawExprKind) → cond_depth (cond_made at what) ≤ raw_depth what
    depth_within at (Literal literal) = omega arith
    depth_within at (Read read) = omega arith
    depth_within at (Not' _ inner) = omega (arith, depth_Not (row_cond_made inner).1, row_depth_within inner)
    depth_within at (Negate' _ inner) = omega (arith, literal_depth false)
    depth_within at (Binary' operator.Or _ left _ right) = omega (arith, depth_Or (row_cond_made left).1 (row_cond_made right).1, row_depth_within left, row_depth_within right)
    depth_within at (Binary' operator.And _ left _ right) = omega (arith, depth_And (row_cond_made left).1 (row_cond_made right).1, row_depth_within left, row_depth_within right)
    depth_within at (Binary' (operator.Compare how) _ left _ right) =
        omega (arith, compared_depth how (row_cond_made left).0 (row_cond_made right).0 (forms_compared symbols scope how (row_cond_made left).0 (row_cond_made right).0))
    depth_within at (Binary' operator.Plus _ left _ right) = omega (arith, literal_depth false)
    depth_within at (Binary' operator.Minus _ left _ right) = omega (arith, literal_depth false)
    depth_within at (Binary' operator.Times _ left _ right) = omega (arith, literal_depth false)
    depth_within at (Binary' operator.Divide _ left _ right) = omega (arith, literal_depth false)
    depth_within at (Binary' operator.Remainder _ left _ right) = omega (arith, literal_depth false)

    row_depth_within : {m : _} (row : Row_of-RawExpr m) → cond_depth (row_cond_made row).1 ≤ part_depth row
    row_depth_within end_of-RawExpr = omega arith
    row_depth_within (more_of-RawExpr at what rest) = depth_within at what

  -- ---- types

  module _ (enums : List EnumType) (locals : ℕ → Option Kind) (reads : CellRead → Option Kind) (knows : Knows symbols scope enums locals reads) where
    abbrev is_right : Cond → Bool
    is_right made = is_typed_condition enums made locals reads

    truth_is : (kind : Kind) → is_truth (Some kind) ≡ true → kind ≡ Truth
    truth_is Int e = cc
    truth_is Truth e = refl
    truth_is (Enum number) e = cc

    -- sides of an equality, which are no whole numbers
    unequal_kinds : (how : Comparison) (l r : Kind) → compares_forms how (Some l) (Some r) ≡ false → SidesFit (compared_kind how) l r → (is_int (Some l) ≡ false) × (same_kind l r ≡ true)
    unequal_kinds by.Equal l r e fit = (e, fit)
    unequal_kinds by.Unequal l r e fit = (e, fit)
    unequal_kinds by.Less l r e fit = cc
    unequal_kinds by.AtMost l r e fit = cc
    unequal_kinds by.More l r e fit = cc
    unequal_kinds by.AtLeast l r e fit = cc

    may_be_equal : (l r : Kind) → is_int (Some l) ≡ false → same_kind l r ≡ true → may_equal (Some l) (Some r) ≡ true
    may_be_equal Int r e same = cc
    may_be_equal Truth r e same = same
    may_be_equal (Enum number) r e same = same

    sort_side : (cell : ℕ) (sort : CellSort) (of : Kind) → is_int (Some of) ≡ false → sort_kind sort ≡ Some of → operand_kind locals reads (sort_operand cell sort) ≡ Some of
        → side_kind enums locals reads (simple.Operand (sort_operand cell sort)) ≡ Some of
    sort_side cell Counter of no_int e typed = absurd (true≢false (ap is_int e ∙ no_int))
    sort_side cell (Register kind) of no_int e typed = typed
    sort_side cell Accumulator of no_int e typed = cc

    part_side : (part : RawPart) (local : FoundLocal) (cell : FoundCell) (of : Kind) → is_int (Some of) ≡ false → is_side_part part (Some of) ≡ true → part_kind part local cell ≡ Some of
        → operand_kind locals reads (part_operand part local cell) ≡ Some of → side_kind enums locals reads (simple.Operand (part_operand part local cell)) ≡ Some of
    part_side Whole (Some local) cell of no_int side e typed = typed
    part_side Whole None None of no_int side e typed = cc
    part_side Whole None (Some cell) of no_int side e typed = sort_side (short cell.0) cell.1.sort of no_int e typed
    part_side Volume local cell of no_int side e typed = cc
    part_side Rate local cell of no_int side e typed = cc
    part_side Conflicted local cell of no_int side e typed = cc

    side_typed : (at : Place) (what : RawExprKind) (of : Kind) → HasLiteralsInRange what → judged symbols scope at what ≡ [] → is_int (Some of) ≡ false → raw_kind symbols scope what ≡ Some of → is_side symbols scope what ≡ true
        → side_kind enums locals reads (side_of symbols scope what) ≡ Some of
    side_typed at (Literal literal) of within none no_int e side =
        let sound = sound_literal symbols.enums enums knows.variant literal within none in
        rw sound.value (sym sound.kind ∙ e)
    side_typed at (Read read) of within none no_int e side =
        let sound = sound_read symbols scope enums locals reads knows read none in
        part_side read.part (entry_in read.name.name scope.known) (entry_in read.name.name symbols.cells) of no_int (subst (λ (k : Option Kind). is_side_part read.part k ≡ true) e side) e
        (sound.2 ∙ sym sound.1 ∙ e)
    side_typed at (Not' _ inner) of within none no_int e side = cc
    side_typed at (Negate' _ inner) of within none no_int e side = cc
    side_typed at (Binary' o _ left _ right) of within none no_int e side = cc

    right_Compare : (left right : Linear) (how : Comparison) → is_linear locals reads left ≡ true → is_linear locals reads right ≡ true → is_right (cond.Compare left how right) ≡ true
    unfolding is_typed_condition
    right_Compare left right how one two = rw (one, two) refl

    right_Same : (left right : Simple) (equal : Bool) (l r : Kind) → side_kind enums locals reads left ≡ Some l → side_kind enums locals reads right ≡ Some r → may_equal (Some l) (Some r) ≡ true
        → is_right (cond.Same left right equal) ≡ true
    unfolding is_typed_condition
    right_Same left right equal l r one two e = (λ i. may_equal (one i) (two i)) ∙ e

    compared_right : (how : Comparison) (left right : RawExpr) → HasLiteralsInRange left.what → HasLiteralsInRange right.what → expr_diagnostics symbols scope left ≡ [] → expr_diagnostics symbols scope right ≡ []
        → (l r : Kind) → raw_kind symbols scope left.what ≡ Some l → raw_kind symbols scope right.what ≡ Some r → SidesFit (compared_kind how) l r
        → (forms : Bool) → forms_compared symbols scope how left right ≡ forms → compared_diagnostics symbols scope left right forms ≡ [] → is_right (compared_of symbols scope how left right forms) ≡ true
    unfolding expr_diagnostics
    compared_right how left right within_left within_right none_left none_right l r el er fit true e form =
        right_Compare _ _ how (sound_form locals reads symbols scope enums knows left within_left none_left (front_empty (form_diagnostics InComparison symbols scope left) _ form))
        (sound_form locals reads symbols scope enums knows right within_right none_right (back_empty (form_diagnostics InComparison symbols scope left) _ form))
    compared_right how left right within_left within_right none_left none_right l r el er fit false e form =
        let kinds = unequal_kinds how l r (sym (λ i. compares_forms how (el i) (er i)) ∙ e) fit in
        let left_side = holds_if_empty (is_side symbols scope left.what) _ left.at (front_empty (side_diagnostics symbols scope left) _ form) in
        let right_side = holds_if_empty (is_side symbols scope right.what) _ right.at (back_empty (side_diagnostics symbols scope left) _ form) in
        let no_int_right = subst (λ (k : Kind). is_int (Some k) ≡ false) (same_kind_is l r kinds.1) kinds.0 in
        right_Same _ _ (is_equal how) l r (side_typed left.at left.what l within_left none_left kinds.0 el left_side) (side_typed right.at right.what r within_right none_right no_int_right er right_side)
        (may_be_equal l r kinds.0 kinds.1)

    right_Flag : (operand : Operand) → operand_kind locals reads operand ≡ Some Truth → is_right (cond.Flag operand) ≡ true
    unfolding is_typed_condition
    right_Flag operand e = rw e refl

    right_Literal : (truth : Bool) → is_right (cond.Literal truth) ≡ true
    unfolding is_typed_condition
    right_Literal truth = refl

    both_right : (left right : Cond) → is_right left ≡ true → is_right right ≡ true → (is_right left && is_right right) ≡ true
    both_right left right one two = rw (one, two) refl

    compare_sound : (how : Comparison) (left right : RawExpr) → HasLiteralsInRange left.what × HasLiteralsInRange right.what
        → judged symbols scope left.at left.what ++ judged symbols scope right.at right.what ++ sides_diagnostics symbols scope (compared_kind how) left right ≡ []
        → compared_diagnostics symbols scope left right (forms_compared symbols scope how left right) ≡ [] → is_right (compared_of symbols scope how left right (forms_compared symbols scope how left right)) ≡ true
    unfolding expr_diagnostics
    compare_sound how left right within none form =
        let none_left = front_empty (judged symbols scope left.at left.what) _ (three (judged symbols scope left.at left.what) (judged symbols scope right.at right.what) _ none) in
        let rest = back_empty (judged symbols scope left.at left.what) _ (three (judged symbols scope left.at left.what) (judged symbols scope right.at right.what) _ none) in
        let none_right = front_empty (judged symbols scope right.at right.what) _ rest in
        let one = sound_made symbols scope enums locals reads knows left.at left.what within.0 none_left in
        let two = sound_made symbols scope enums locals reads knows right.at right.what within.1 none_right in
        let fit = sides_fit symbols scope enums locals reads knows (compared_kind how) left right one.of two.of one.raw_is two.raw_is (back_empty (judged symbols scope right.at right.what) _ rest) in
        compared_right how left right within.0 within.1 none_left none_right one.of two.of one.raw_is two.raw_is fit (forms_compared symbols scope how left right) refl form

    mutual
      sound_cond : (at : Place) (what : RawExprKind) → HasLiteralsInRange what → judged symbols scope at what ≡ [] → cond_judged at what ≡ [] → is_right (cond_made at what) ≡ true
      sound_cond at (Literal literal) within none form = right_Literal _
      sound_cond at (Read read) within none form =
          let sound = sound_read symbols scope enums locals reads knows read none in
          let truth = truth_is sound.0 (subst (λ (k : Option Kind). is_truth k ≡ true) sound.1 (holds_if_empty (is_truth (raw_read_kind symbols scope read)) _ at form)) in
          right_Flag _ (sound.2 ∙ ap Some truth)
      sound_cond at (Not' _ inner) within none form =
          (λ i. typed_Not enums (row_cond_made inner).1 i locals reads) ∙ sound_row inner within (front_empty (row_judged symbols scope inner).1 _ none) form
      sound_cond at (Negate' _ inner) within none form = cc
      sound_cond at (Binary' operator.Or _ left _ right) within none form =
          (λ i. typed_Or enums (row_cond_made left).1 (row_cond_made right).1 i locals reads)
          ∙ both_right (row_cond_made left).1 (row_cond_made right).1 (sound_row left within.0 (front_empty (row_judged symbols scope left).1 _ (three (row_judged symbols scope left).1 (row_judged symbols scope right).1 _ none)) (front_empty (row_cond_judged left).1 _ form))
          (sound_row right within.1 (front_empty (row_judged symbols scope right).1 _ (back_empty (row_judged symbols scope left).1 _ (three (row_judged symbols scope left).1 (row_judged symbols scope right).1 _ none))) (back_empty (row_cond_judged left).1 _ form))
      sound_cond at (Binary' operator.And _ left _ right) within none form =
          (λ i. typed_And enums (row_cond_made left).1 (row_cond_made right).1 i locals reads)
          ∙ both_right (row_cond_made left).1 (row_cond_made right).1 (sound_row left within.0 (front_empty (row_judged symbols scope left).1 _ (three (row_judged symbols scope left).1 (row_judged symbols scope right).1 _ none)) (front_empty (row_cond_judged left).1 _ form))
          (sound_row right within.1 (front_empty (row_judged symbols scope right).1 _ (back_empty (row_judged symbols scope left).1 _ (three (row_judged symbols scope left).1 (row_judged symbols scope right).1 _ none))) (back_empty (row_cond_judged left).1 _ form))
      sound_cond at (Binary' (operator.Compare how) s (more_of-RawExpr left_at left end_of-RawExpr) t (more_of-RawExpr right_at right end_of-RawExpr)) within none form =
          compare_sound how (record { at = left_at; what = left }) (record { at = right_at; what = right }) within none form
      sound_cond at (Binary' operator.Plus _ left _ right) within none form = cc
      sound_cond at (Binary' operator.Minus _ left _ right) within none form = cc
      sound_cond at (Binary' operator.Times _ left _ right) within none form = cc
      sound_cond at (Binary' operator.Divide _ left _ right) within none form = cc
      sound_cond at (Binary' operator.Remainder _ left _ right) within none form = cc

      sound_row : {m : _} (row : Row_of-RawExpr m) → PartInRange row → (row_judged symbols scope row).1 ≡ [] → (row_cond_judged row).1 ≡ [] → is_right (row_cond_made row).1 ≡ true
      sound_row end_of-RawExpr within none form = right_Literal false
      sound_row (more_of-RawExpr at what rest) within none form = sound_cond at what within none form

    condition_if : (made : Cond) → is_right made ≡ true → cond_depth made ≤ depth_limit → is_condition enums locals reads made ≡ true
    unfolding is_condition
    condition_if made right shallow = rw (right, le-leb (cond_depth made) depth_limit shallow) refl

    -- a condition that is not refused is one of the model
    pub sound_wait : (raw : RawExpr) → IsLimitedExpr raw → wait_diagnostics symbols scope raw ≡ [] → is_condition enums locals reads (cond_of symbols scope raw) ≡ true
    unfolding expr_diagnostics cond_diagnostics cond_of
    sound_wait raw limited none =
        let expr_none = front_empty (judged symbols scope raw.at raw.what) _ (front_empty (typed_diagnostics symbols scope Truth raw) _ none) in
        condition_if (cond_made raw.at raw.what) (sound_cond raw.at raw.what limited.1 expr_none (back_empty (typed_diagnostics symbols scope Truth raw) _ none))
        (omega (arith, depth_within raw.at raw.what, limited.0))
