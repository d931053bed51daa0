-- An expression that is not refused is well typed, with literals of the model, and as deep as it is written.
use Rattle.std.proofs.Common.{◌≡◌, ℕ, ◌+◌, ◌≤◌, max, true, false, ◌&&◌, List, [], Option, Some, None, refl, sym, ap, ◌∙◌, subst}
use Rattle.std.proofs.lemmas.Bool.{le-leb}
use Rattle.aerie_base.specs.declared.expressions.Comparison.TheVariants as by
use Rattle.aerie_base.specs.declared.expressions.Expr.{Expr}
use Rattle.aerie_base.specs.declared.expressions.Expr as expr
use Rattle.aerie_base.specs.declared.expressions.Expr.TheBlock.{hidden-the_row-Expr-0, shape-the_row-Expr-0}
use denote.Hole.Carrier.{hidden}
use Rattle.aerie_base.specs.declared.expressions.Operator.{Operator}
use Rattle.aerie_base.specs.declared.expressions.Operator.TheVariants as operator
use Rattle.aerie_base.specs.declared.operands.CellRead.{CellRead}
use Rattle.aerie_base.specs.declared.models.EnumType.{EnumType}
use Rattle.aerie_base.specs.declared.places.Place.{Place}
use Rattle.aerie_base.specs.declared.values.Kind.{Kind}
use Rattle.aerie_base.specs.declared.values.Kind.TheVariants.{Int, Truth}
use Rattle.aerie_base.specs.declared.values.Value.TheVariants as value
use Rattle.aerie_base.specs.expressions.Typing.{same_kind, kind_if, same_kind_if, combined_kind, of_both, kind_of}
use Rattle.aerie_base.specs.models.Expressions.{expr_depth, has_literals, typed, is_kind_of}
use Rattle.aerie_base.specs.models.Limits.{depth_limit}
use Rattle.model_reader.specs.Limits.{raw_depth, part_depth, HasLiteralsInRange, PartInRange, IsLimitedExpr}
use Rattle.model_reader.specs.declared.raw.expressions.RawExpr.{RawExpr}
use Rattle.model_reader.specs.declared.raw.expressions.RawExprKind.{RawExprKind, Literal, Read, Not', Negate', Binary', Row_of-RawExpr, end_of-RawExpr, more_of-RawExpr}
use Rattle.diagnostics.specs.declared.diagnostic.Diagnostic.{Diagnostic}
use Rattle.model_check.specs.declared.causes.Cause.{Cause}
use Rattle.model_check.specs.declared.scopes.BodyScope.{BodyScope}
use Rattle.model_check.specs.declared.symbols.Symbols.{Symbols}
use Rattle.model_check.specs.Expressions.{kind_of_operator, side_kind_of, raw_kind, is_wanted, sides_diagnostics, expr_diagnostics_step, expr_diagnostics, typed_diagnostics, expr_step, expr_of}
use Rattle.model_check.specs.Literals.{mismatch}
use Rattle.model_check.specs.RawExpressions.{raw_gives, raw_row_gives}
use Rattle.diagnostics.specs.NotedInTurn.{front_empty, back_empty}
use Rattle.model_check.proofs.Sound.Empty.{three, same_kind_is, same_kind_swapped, kinds_match}
use Rattle.model_check.proofs.Sound.Knows.{Knows, sound_literal, sound_read}

-- ---- what the definitions give at each form

module _ (locals : ℕ → Option Kind) (reads : CellRead → Option Kind) where
  kind_Not : (inner : Expr) → kind_of (expr.Not inner) locals reads ≡ same_kind_if Truth (kind_of inner locals reads)
  unfolding kind_of hidden-the_row-Expr-0 shape-the_row-Expr-0 hidden
  kind_Not inner = refl

  kind_Negate : (inner : Expr) → kind_of (expr.Negate inner) locals reads ≡ same_kind_if Int (kind_of inner locals reads)
  unfolding kind_of hidden-the_row-Expr-0 shape-the_row-Expr-0 hidden
  kind_Negate inner = refl

  kind_Binary : (o : Operator) (left right : Expr) → kind_of (expr.Binary o left right) locals reads ≡ of_both o (kind_of left locals reads) (kind_of right locals reads)
  unfolding kind_of hidden-the_row-Expr-0 shape-the_row-Expr-0 hidden
  kind_Binary o left right = refl

module _ (enums : List EnumType) where
  literals_Not : (inner : Expr) → has_literals enums (expr.Not inner) ≡ has_literals enums inner
  unfolding has_literals hidden-the_row-Expr-0 shape-the_row-Expr-0 hidden
  literals_Not inner = refl

  literals_Negate : (inner : Expr) → has_literals enums (expr.Negate inner) ≡ has_literals enums inner
  unfolding has_literals hidden-the_row-Expr-0 shape-the_row-Expr-0 hidden
  literals_Negate inner = refl

  literals_Binary : (o : Operator) (left right : Expr) → has_literals enums (expr.Binary o left right) ≡ (has_literals enums left && has_literals enums right)
  unfolding has_literals hidden-the_row-Expr-0 shape-the_row-Expr-0 hidden
  literals_Binary o left right = refl

depth_Not : (inner : Expr) → expr_depth (expr.Not inner) ≡ 1 + expr_depth inner
unfolding expr_depth hidden-the_row-Expr-0 shape-the_row-Expr-0 hidden
depth_Not inner = refl

depth_Negate : (inner : Expr) → expr_depth (expr.Negate inner) ≡ 1 + expr_depth inner
unfolding expr_depth hidden-the_row-Expr-0 shape-the_row-Expr-0 hidden
depth_Negate inner = refl

depth_Binary : (o : Operator) (left right : Expr) → expr_depth (expr.Binary o left right) ≡ 1 + max (expr_depth left) (expr_depth right)
unfolding expr_depth hidden-the_row-Expr-0 shape-the_row-Expr-0 hidden
depth_Binary o left right = refl

-- ---- operators

abbrev pub SidesFit : Option Kind → Kind → Kind → Type 0
SidesFit None left right = same_kind left right ≡ true
SidesFit (Some wanted) left right = (same_kind wanted left ≡ true) × (same_kind wanted right ≡ true)

fits_both : (w l r g : Kind) → same_kind w l ≡ true → same_kind w r ≡ true → kind_if (same_kind l w && same_kind r w) g ≡ Some g
fits_both w l r g h i = rw (same_kind_swapped w l h, same_kind_swapped w r i) refl

combined : (o : Operator) (l r : Kind) → SidesFit (side_kind_of o) l r → combined_kind o l r ≡ Some (kind_of_operator o)
combined operator.Or l r fit = fits_both Truth l r Truth fit.0 fit.1
combined operator.And l r fit = fits_both Truth l r Truth fit.0 fit.1
combined (operator.Compare by.Equal) l r fit = rw fit refl
combined (operator.Compare by.Unequal) l r fit = rw fit refl
combined (operator.Compare by.Less) l r fit = fits_both Int l r Truth fit.0 fit.1
combined (operator.Compare by.AtMost) l r fit = fits_both Int l r Truth fit.0 fit.1
combined (operator.Compare by.More) l r fit = fits_both Int l r Truth fit.0 fit.1
combined (operator.Compare by.AtLeast) l r fit = fits_both Int l r Truth fit.0 fit.1
combined operator.Plus l r fit = fits_both Int l r Int fit.0 fit.1
combined operator.Minus l r fit = fits_both Int l r Int fit.0 fit.1
combined operator.Times l r fit = fits_both Int l r Int fit.0 fit.1
combined operator.Divide l r fit = fits_both Int l r Int fit.0 fit.1
combined operator.Remainder l r fit = fits_both Int l r Int fit.0 fit.1

-- ---- expressions

abbrev no_expr : Expr
no_expr = expr.Literal (value.Truth false)

module _ (symbols : Symbols) (scope : BodyScope) where
  abbrev pub judged : Place → RawExprKind → List (Diagnostic Cause)
  judged = raw_gives (List (Diagnostic Cause)) [] (expr_diagnostics_step symbols scope)

  abbrev made : Place → RawExprKind → Expr
  made = raw_gives Expr no_expr (expr_step symbols scope)

  abbrev pub row_judged : {m : _} → Row_of-RawExpr m → RawExpr × List (Diagnostic Cause)
  row_judged = raw_row_gives (List (Diagnostic Cause)) [] (expr_diagnostics_step symbols scope)

  abbrev row_made : {m : _} → Row_of-RawExpr m → RawExpr × Expr
  row_made = raw_row_gives Expr no_expr (expr_step symbols scope)

  -- what is made is as deep as what is written
  mutual
    unfolding expr_depth

    depth_made : (at : Place) (what : RawExprKind) → expr_depth (made at what) ≡ raw_depth what
    depth_made at (Literal literal) = refl
    depth_made at (Read read) = refl
    depth_made at (Not' _ inner) = depth_Not (row_made inner).1 ∙ ap (λ (n : ℕ). 1 + n) (depth_row inner)
    depth_made at (Negate' _ inner) = depth_Negate (row_made inner).1 ∙ ap (λ (n : ℕ). 1 + n) (depth_row inner)
    depth_made at (Binary' o _ left _ right) = depth_Binary o (row_made left).1 (row_made right).1 ∙ (λ i. 1 + max (depth_row left i) (depth_row right i))

    depth_row : {m : _} (row : Row_of-RawExpr m) → expr_depth (row_made row).1 ≡ part_depth row
    depth_row end_of-RawExpr = refl
    depth_row (more_of-RawExpr at what rest) = depth_made at what

  pub depth_is : (raw : RawExpr) → expr_depth (expr_of symbols scope raw) ≡ raw_depth raw.what
  unfolding expr_of
  depth_is raw = depth_made raw.at raw.what

  module _ (enums : List EnumType) (locals : ℕ → Option Kind) (reads : CellRead → Option Kind) (knows : Knows symbols scope enums locals reads) where
    -- an expression as it is written, and what is made of it
    pub record IsSound (raw : RawExprKind) (its : Expr) : Type 0 where
      pub of : Kind
      pub raw_is : raw_kind symbols scope raw ≡ Some of
      pub typed_is : kind_of its locals reads ≡ Some of
      pub literals : has_literals enums its ≡ true

    wanted_is : (wanted : Kind) (raw : RawExpr) (its : Expr) → IsSound raw.what its → is_wanted symbols scope wanted raw ≡ [] → kind_of its locals reads ≡ Some wanted
    wanted_is wanted raw its sound none =
        let found = subst (λ (k : Option Kind). mismatch raw.at (Some wanted) k ≡ []) sound.raw_is none in
        sound.typed_is ∙ ap Some (sym (same_kind_is wanted sound.of (kinds_match raw.at wanted sound.of found)))

    pub sides_fit : (wanted : Option Kind) (left right : RawExpr) (l r : Kind) → raw_kind symbols scope left.what ≡ Some l → raw_kind symbols scope right.what ≡ Some r
        → sides_diagnostics symbols scope wanted left right ≡ [] → SidesFit wanted l r
    sides_fit None left right l r el er none =
        kinds_match right.at l r (subst (λ (k : Option Kind). mismatch right.at (Some l) k ≡ []) er (subst (λ (k : Option Kind). mismatch right.at k (raw_kind symbols scope right.what) ≡ []) el none))
    sides_fit (Some wanted) left right l r el er none = (
      kinds_match left.at wanted l (subst (λ (k : Option Kind). mismatch left.at (Some wanted) k ≡ []) el (front_empty (is_wanted symbols scope wanted left) _ none)),
      kinds_match right.at wanted r (subst (λ (k : Option Kind). mismatch right.at (Some wanted) k ≡ []) er (back_empty (is_wanted symbols scope wanted left) _ none)),
    )

    both_kinds : (o : Operator) (left right : Expr) (l r : Kind) → kind_of left locals reads ≡ Some l → kind_of right locals reads ≡ Some r → combined_kind o l r ≡ Some (kind_of_operator o)
        → of_both o (kind_of left locals reads) (kind_of right locals reads) ≡ Some (kind_of_operator o)
    both_kinds o left right l r el er e = (λ i. of_both o (el i) (er i)) ∙ e

    both_literals : (left right : Expr) → has_literals enums left ≡ true → has_literals enums right ≡ true → (has_literals enums left && has_literals enums right) ≡ true
    both_literals left right h i = rw (h, i) refl

    binary_sound : (o : Operator) (raw_left raw_right : RawExpr) (left right : Expr) → IsSound raw_left.what left → IsSound raw_right.what right
        → sides_diagnostics symbols scope (side_kind_of o) raw_left raw_right ≡ [] → (kind_of (expr.Binary o left right) locals reads ≡ Some (kind_of_operator o)) × (has_literals enums (expr.Binary o left right) ≡ true)
    binary_sound o raw_left raw_right left right one two none =
        let fit = sides_fit (side_kind_of o) raw_left raw_right one.of two.of one.raw_is two.raw_is none in (
          kind_Binary locals reads o left right ∙ both_kinds o left right one.of two.of one.typed_is two.typed_is (combined o one.of two.of fit),
          literals_Binary enums o left right ∙ both_literals left right one.literals two.literals,
        )

    mutual
      unfolding kind_of has_literals

      pub sound_made : (at : Place) (what : RawExprKind) → HasLiteralsInRange what → judged at what ≡ [] → IsSound what (made at what)
      sound_made at (Literal literal) within none =
          let sound = sound_literal symbols.enums enums knows.variant literal within none in
          record { of = _; raw_is = sound.kind; typed_is = refl; literals = sound.value }
      sound_made at (Read read) within none =
          let sound = sound_read symbols scope enums locals reads knows read none in
          record { of = sound.0; raw_is = sound.1; typed_is = sound.2; literals = refl }
      sound_made at (Not' _ inner) within none =
          let sound = sound_row inner within (front_empty (row_judged inner).1 _ none) in
          record {
            of = Truth;
            raw_is = refl;
            typed_is = kind_Not locals reads (row_made inner).1 ∙ ap (same_kind_if Truth) (wanted_is Truth (row_judged inner).0 (row_made inner).1 sound (back_empty (row_judged inner).1 _ none));
            literals = literals_Not enums (row_made inner).1 ∙ sound.literals;
          }
      sound_made at (Negate' _ inner) within none =
          let sound = sound_row inner within (front_empty (row_judged inner).1 _ none) in
          record {
            of = Int;
            raw_is = refl;
            typed_is = kind_Negate locals reads (row_made inner).1 ∙ ap (same_kind_if Int) (wanted_is Int (row_judged inner).0 (row_made inner).1 sound (back_empty (row_judged inner).1 _ none));
            literals = literals_Negate enums (row_made inner).1 ∙ sound.literals;
          }
      sound_made at (Binary' o _ left _ right) within none =
          let more = back_empty (row_judged left).1 _ (three (row_judged left).1 (row_judged right).1 _ none) in
          let one = sound_row left within.0 (front_empty (row_judged left).1 _ (three (row_judged left).1 (row_judged right).1 _ none)) in
          let two = sound_row right within.1 (front_empty (row_judged right).1 _ more) in
          let both = binary_sound o (row_judged left).0 (row_judged right).0 (row_made left).1 (row_made right).1 one two (back_empty (row_judged right).1 _ more) in
          record { of = kind_of_operator o; raw_is = refl; typed_is = both.0; literals = both.1 }

      sound_row : {m : _} (row : Row_of-RawExpr m) → PartInRange row → (row_judged row).1 ≡ [] → IsSound (row_judged row).0.what (row_made row).1
      sound_row end_of-RawExpr within none = record { of = Truth; raw_is = refl; typed_is = refl; literals = refl }
      sound_row (more_of-RawExpr at what rest) within none = sound_made at what within none

    -- ---- with its depth

    pub record IsTypedExpr (raw : RawExpr) : Type 0 where
      pub of : Kind
      pub raw_is : raw_kind symbols scope raw.what ≡ Some of
      pub typed_is : typed enums locals reads (expr_of symbols scope raw) ≡ Some of

    typed_if : (its : Expr) (of : Kind) → has_literals enums its ≡ true → expr_depth its ≤ depth_limit → kind_of its locals reads ≡ Some of → typed enums locals reads its ≡ Some of
    unfolding typed
    typed_if its of literals shallow is = rw (literals, le-leb (expr_depth its) depth_limit shallow) is

    -- an expression that is not refused has a type
    pub typed_expr : (raw : RawExpr) → IsLimitedExpr raw → expr_diagnostics symbols scope raw ≡ [] → IsTypedExpr raw
    unfolding expr_diagnostics expr_of
    typed_expr raw limited none =
        let sound = sound_made raw.at raw.what limited.1 none in
        record {
          of = sound.of;
          raw_is = sound.raw_is;
          typed_is = typed_if (made raw.at raw.what) sound.of sound.literals (subst (λ (n : ℕ). n ≤ depth_limit) (sym (depth_made raw.at raw.what)) limited.0) sound.typed_is;
        }

    -- the same, where a type is wanted
    pub wanted_expr : (wanted : Kind) (raw : RawExpr) → IsLimitedExpr raw → typed_diagnostics symbols scope wanted raw ≡ [] → is_kind_of (typed enums locals reads (expr_of symbols scope raw)) wanted ≡ true
    wanted_expr wanted raw limited none =
        let sound = typed_expr raw limited (front_empty (expr_diagnostics symbols scope raw) _ none) in
        let found = subst (λ (k : Option Kind). mismatch raw.at (Some wanted) k ≡ []) sound.raw_is (back_empty (expr_diagnostics symbols scope raw) _ none) in
        ap (λ (k : Option Kind). is_kind_of k wanted) sound.typed_is ∙ same_kind_swapped wanted sound.of (kinds_match raw.at wanted sound.of found)
