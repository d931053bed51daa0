-- What a series says at a time.
use Rattle.std.specs.Prelude.{ℕ, ◌≡◌, ℤ, pos, Bool, true, false, nat_lt, if◌then◌else◌, List, [], ◌∷◌, map, Option, Some, None, refl}
use Rattle.windows.specs.Begun.{last_begun}
use Rattle.windows.specs.declared.segments.Segment.{Segment}
use Rattle.windows.specs.Linear.{segments_value}
use Rattle.dataset_in.specs.declared.series.Series.{Series}
use Rattle.dataset_in.specs.declared.series.Series.TheVariants.{Truth, Whole, Linear}
use Rattle.dataset_in.specs.declared.series.Level.{Level}
use Rattle.dataset_in.specs.declared.series.Level.TheVariants as level

-- a whole number that stays until the next segment
abbrev pub constant : ℕ × ℤ → Segment
constant entry = record { from = entry.0; value = entry.1; rate = pos 0 }

-- the segments of a series of numbers
abbrev pub segments_of : Series → List Segment
segments_of (Truth entries) = []
segments_of (Whole entries) = map constant entries
segments_of (Linear segments) = segments

abbrev pub truth_of : Option (ℕ × Bool) → Bool
truth_of None = false
truth_of (Some entry) = entry.1

-- the value at a time
abbrev pub level_at : Series → ℕ → Level
level_at (Truth entries) t = level.Truth (truth_of (last_begun (λ entry. entry.0) entries t))
level_at (Whole entries) t = level.Sum (segments_value (map constant entries) t)
level_at (Linear segments) t = level.Sum (segments_value segments t)

-- the segments that begin before the reach
abbrev pub before : ℕ → List Segment → List Segment
before reach [] = []
before reach (segment ∷ rest) = if nat_lt segment.from reach then segment ∷ before reach rest else []

-- ---- worked cases

abbrev steps : Series
steps = Whole ((0, pos 5) ∷ (10, pos 7) ∷ [])

pub the_first_segment : level_at steps 9 ≡ level.Sum (pos 5)
the_first_segment = refl

pub the_last_segment_never_ends : level_at steps 1_000_000 ≡ level.Sum (pos 7)
the_last_segment_never_ends = refl

pub a_slope : level_at (Linear ((record { from = 0; value = pos 100; rate = pos 2 }) ∷ [])) 7 ≡ level.Sum (pos 114)
a_slope = refl

pub lit_until_dark : level_at (Truth ((0, true) ∷ (40, false) ∷ [])) 40 ≡ level.Truth false
lit_until_dark = refl
