-- Whether the last statement is a `return`, told by that statement.
use Rattle.std.proofs.Common.{◌≡◌, ℕ, suc, ◌-◌, Bool, false, List, [], ◌∷◌, Option, Some, None, length, slice_get, refl, sym, ap, ◌∙◌, arith}
use Rattle.model_reader.specs.declared.raw.statements.RawStmt.{RawStmt}
use Rattle.model_check.specs.ModelDiagnostics.{is_return_kind, returns_at_end}

abbrev pub is_return_there : Option RawStmt → Bool
is_return_there None = false
is_return_there (Some stmt) = is_return_kind stmt.what

pub returns_by_last : (body : List RawStmt) → returns_at_end body ≡ is_return_there (slice_get body (length body - 1))
returns_by_last [] = refl
returns_by_last (stmt ∷ []) = refl
returns_by_last (stmt ∷ next ∷ rest) =
    let e : length (stmt ∷ next ∷ rest) - 1 ≡ suc (length (next ∷ rest) - 1) = omega arith in
    returns_by_last (next ∷ rest) ∙ ap (λ (i : ℕ). is_return_there (slice_get (stmt ∷ next ∷ rest) i)) (sym e)
