-- The first line of an explanation: what is refused, and where.
use Rattle.std.specs.Prelude.{◌≡◌, ℕ, List, ◌++◌, Option, None, Some, codes, refl}
use Rattle.std.specs.Fmt.{decimal, digits}
use Rattle.explain.specs.declared.spots.Spot.{Spot}

abbrev pub headline : List ℕ → Option Spot → List ℕ
headline name None = codes "refused: " ++ name ++ codes "\n"
headline name (Some spot) =
    codes "refused: " ++ name ++ codes " at line " ++ decimal spot.line ++ codes ", column " ++ decimal spot.column ++ codes "\n"

-- ---- worked cases

pub with_a_place : headline (codes "Syntax") (Some (record { line = 7; column = 11 })) ≡ codes "refused: Syntax at line 7, column 11\n"
unfolding digits
with_a_place = refl
