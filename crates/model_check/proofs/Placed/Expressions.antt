-- Refusals of expressions stand at places of theirs.
use Rattle.std.proofs.Common.{List, [], ◌++◌, Option, Some, None}
use Rattle.aerie_base.specs.declared.places.Place.{Place}
use Rattle.aerie_base.specs.declared.values.Kind.{Kind}
use Rattle.aerie_base.specs.declared.values.Kind.TheVariants.{Int, Truth}
use Rattle.model_reader.specs.declared.raw.expressions.RawExpr.{RawExpr}
use Rattle.model_reader.specs.declared.raw.expressions.RawExprKind.{RawExprKind, Literal, Read, Not', Negate', Binary', Row_of-RawExpr, end_of-RawExpr, more_of-RawExpr}
use Rattle.diagnostics.specs.declared.diagnostic.Diagnostic.{Diagnostic}
use Rattle.model_check.specs.declared.causes.Cause.{Cause}
use Rattle.model_check.specs.declared.scopes.BodyScope.{BodyScope}
use Rattle.model_check.specs.declared.symbols.Symbols.{Symbols}
use Rattle.model_check.specs.Expressions.{raw_kind, side_kind_of, is_wanted, sides_diagnostics, expr_diagnostics_step, expr_diagnostics, typed_diagnostics}
use Rattle.model_check.specs.RawExpressions.{RawLevel, raw_gives, raw_row_gives}
use Rattle.model_check.specs.RawPlaces.{no_part_places, expr_places_step, expr_places}
use Rattle.model_check.proofs.Placed.Parts.{in_front, behind, Places, Stand, stand_both, mismatched, literal_placed, read_placed}

-- the places of an expression, and of the part in a row
abbrev pub placed : Place → RawExprKind → List Place
placed = raw_gives (List Place) no_part_places expr_places_step

abbrev pub row_placed : {m : _} → Row_of-RawExpr m → RawExpr × List Place
row_placed = raw_row_gives (List Place) no_part_places expr_places_step

module _ (P : Place → Type 0) where
  -- its own place is one of them
  pub own_place : (at : Place) (what : RawExprKind) → Places P (placed at what) → P at
  own_place at (Literal literal) all = all.0
  own_place at (Read read) all = all.0
  own_place at (Not' _ inner) all = all.0
  own_place at (Negate' _ inner) all = all.0
  own_place at (Binary' operator _ left _ right) all = all.0

  pub row_place : {m : _} (A : Type 0) (none : A) (step : Place → RawLevel A → A) (row : Row_of-RawExpr m) → Places P (row_placed row).1 → P (raw_row_gives A none step row).0.at
  row_place A none step end_of-RawExpr all = all.0
  row_place A none step (more_of-RawExpr at what rest) all = own_place at what all

  -- the part in a row has the places of the row
  pub row_expr : {m : _} (A : Type 0) (none : A) (step : Place → RawLevel A → A) (row : Row_of-RawExpr m) → Places P (row_placed row).1 → Places P (expr_places (raw_row_gives A none step row).0)
  unfolding expr_places
  row_expr A none step end_of-RawExpr all = all
  row_expr A none step (more_of-RawExpr at what rest) all = all

  pub first_of : (raw : RawExpr) → Places P (expr_places raw) → P raw.at
  unfolding expr_places
  first_of raw all = own_place raw.at raw.what all

  module _ (symbols : Symbols) (scope : BodyScope) where
    abbrev judged : Place → RawExprKind → List (Diagnostic Cause)
    judged = raw_gives (List (Diagnostic Cause)) [] (expr_diagnostics_step symbols scope)

    abbrev row_judged : {m : _} → Row_of-RawExpr m → RawExpr × List (Diagnostic Cause)
    row_judged = raw_row_gives (List (Diagnostic Cause)) [] (expr_diagnostics_step symbols scope)

    pub wanted_placed : (wanted : Kind) (part : RawExpr) → P part.at → Stand P (is_wanted symbols scope wanted part)
    wanted_placed wanted part is = mismatched P part.at (Some wanted) (raw_kind symbols scope part.what) is

    sides_placed : (wanted : Option Kind) (left right : RawExpr) → P left.at → P right.at → Stand P (sides_diagnostics symbols scope wanted left right)
    sides_placed None left right one two = mismatched P right.at (raw_kind symbols scope left.what) (raw_kind symbols scope right.what) two
    sides_placed (Some wanted) left right one two = stand_both P (is_wanted symbols scope wanted left) _ (wanted_placed wanted left one) (wanted_placed wanted right two)

    mutual
      judged_placed : (at : Place) (what : RawExprKind) → Places P (placed at what) → Stand P (judged at what)
      judged_placed at (Literal literal) all = literal_placed P symbols.enums literal all.1
      judged_placed at (Read read) all = read_placed P symbols scope read all.1.0
      judged_placed at (Not' _ inner) all =
          stand_both P (row_judged inner).1 _ (row_stands inner all.1) (wanted_placed Truth (row_judged inner).0 (row_place (List (Diagnostic Cause)) [] (expr_diagnostics_step symbols scope) inner all.1))
      judged_placed at (Negate' _ inner) all =
          stand_both P (row_judged inner).1 _ (row_stands inner all.1) (wanted_placed Int (row_judged inner).0 (row_place (List (Diagnostic Cause)) [] (expr_diagnostics_step symbols scope) inner all.1))
      judged_placed at (Binary' operator _ left _ right) all =
          let one = in_front P (row_placed left).1 (row_placed right).1 all.1 in
          let two = behind P (row_placed left).1 (row_placed right).1 all.1 in
          stand_both P ((row_judged left).1 ++ (row_judged right).1) _ (stand_both P (row_judged left).1 (row_judged right).1 (row_stands left one) (row_stands right two))
          (sides_placed (side_kind_of operator) (row_judged left).0 (row_judged right).0
          (row_place (List (Diagnostic Cause)) [] (expr_diagnostics_step symbols scope) left one) (row_place (List (Diagnostic Cause)) [] (expr_diagnostics_step symbols scope) right two))

      row_stands : {m : _} (row : Row_of-RawExpr m) → Places P (row_placed row).1 → Stand P (row_judged row).1
      row_stands end_of-RawExpr all = tt
      row_stands (more_of-RawExpr at what rest) all = judged_placed at what all

    pub expr_placed : (raw : RawExpr) → Places P (expr_places raw) → Stand P (expr_diagnostics symbols scope raw)
    unfolding expr_places expr_diagnostics
    expr_placed raw all = judged_placed raw.at raw.what all

    pub typed_placed : (wanted : Kind) (raw : RawExpr) → Places P (expr_places raw) → Stand P (typed_diagnostics symbols scope wanted raw)
    typed_placed wanted raw all = stand_both P (expr_diagnostics symbols scope raw) _ (expr_placed raw all) (wanted_placed wanted raw (first_of raw all))
