-- Recursion over an expression as it is written that computes: what an expression gives at its place, by its parts, each
-- with what it gives.
use Rattle.std.specs.Prelude.{true}
use Rattle.aerie_base.specs.declared.places.Place.{Place}
use Rattle.model_reader.specs.declared.raw.expressions.RawExpr.{RawExpr}
use Rattle.model_reader.specs.declared.raw.expressions.RawExprKind.{RawExprKind, Literal, Read, Not', Negate', Binary', Row_of-RawExpr, end_of-RawExpr, more_of-RawExpr}
use Rattle.model_reader.specs.declared.raw.expressions.RawExprKind.TheOpen.{RawExprKind-F}
use Rattle.model_reader.specs.declared.raw.literals.RawLiteralKind.TheVariants as literal

-- one level of an expression: its parts, each with what it gives
abbrev pub RawLevel : Type 0 → Type 0
RawLevel A = RawExprKind-F A (RawExpr × A)

-- what is never used: a part that is not there
abbrev pub no_part : RawExpr
no_part = record { at = record { line = 0; column = 0 }; what = Literal (literal.Truth true) }

abbrev mutual
  -- what an expression at a place gives, by a step over one level; `none` is for a part that is not there, which never comes
  pub raw_gives : (A : Type 0) → A → (Place → RawLevel A → A) → Place → RawExprKind → A
  raw_gives A none step at (Literal literal) = step at (RawExprKind-F.Literal literal)
  raw_gives A none step at (Read read) = step at (RawExprKind-F.Read read)
  raw_gives A none step at (Not' _ inner) = step at (RawExprKind-F.Not (raw_row_gives A none step inner))
  raw_gives A none step at (Negate' _ inner) = step at (RawExprKind-F.Negate (raw_row_gives A none step inner))
  raw_gives A none step at (Binary' operator _ left _ right) =
      step at (RawExprKind-F.Binary operator (raw_row_gives A none step left) (raw_row_gives A none step right))

  -- the same of the one part in a row of one
  pub raw_row_gives : (A : Type 0) → A → (Place → RawLevel A → A) → {m : _} → Row_of-RawExpr m → RawExpr × A
  raw_row_gives A none step end_of-RawExpr = (no_part, none)
  raw_row_gives A none step (more_of-RawExpr at what rest) = (record { at = at; what = what }, raw_gives A none step at what)
