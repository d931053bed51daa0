-- Steps through a text.
use Rattle.std.proofs.Common.{◌≡◌, ℕ, List, [], ◌∷◌, refl}
use Rattle.explain.specs.Lines.{behind_lines}

-- behind no line feed stands the text
pub no_lines : (text : List ℕ) → behind_lines 0 text ≡ text
no_lines [] = refl
no_lines (byte ∷ rest) = refl
