-- The spot of a text that an explanation points to: its line and its column.
use Rattle.std.specs.Prelude.{◌≡◌, ℕ, ◌+◌, ◌-◌, ◌==◌, List, [], ◌∷◌, length, take, codes, if◌then◌else◌, refl}
use Rattle.aerie_base.specs.declared.places.Place.{Place}
use Rattle.explain.specs.Lines.{behind_characters, behind_lines}
use Rattle.explain.specs.Shown.{goes_on}
use Rattle.explain.specs.declared.spots.Spot.{Spot}

-- the spot behind one more byte
abbrev pub spot_behind : ℕ → Spot → Spot
spot_behind byte spot =
    if byte == 10 then record { line = spot.line + 1; column = 1 }
    else if goes_on byte then spot
    else record { line = spot.line; column = spot.column + 1 }

-- the spot behind these bytes more
abbrev pub spot_after : List ℕ → Spot → Spot
spot_after [] spot = spot
spot_after (byte ∷ rest) spot = spot_after rest (spot_behind byte spot)

-- the spot of a byte, by its number
abbrev pub spot_at : List ℕ → ℕ → Spot
spot_at bytes at = spot_after (take at bytes) (record { line = 1; column = 1 })

-- the spot of a place
abbrev pub spot_of_place : Place → Spot
spot_of_place place = record { line = place.line; column = place.column }

-- what stands from the spot on
abbrev pub rest_at : List ℕ → Spot → List ℕ
rest_at bytes spot = behind_characters (spot.column - 1) (behind_lines (spot.line - 1) bytes)

-- the number of the byte at the spot
abbrev pub offset_at : List ℕ → Spot → ℕ
offset_at bytes spot = length bytes - length (rest_at bytes spot)

-- ---- worked cases

pub on_the_second_line : spot_at (codes "ab\ncd") 4 ≡ record { line = 2; column = 2 }
on_the_second_line = refl

pub and_back : offset_at (codes "ab\ncd") (record { line = 2; column = 2 }) ≡ 4
and_back = refl
