-- Whether the segments of a dataset are as reading one leaves them.
use Rattle.std.specs.Prelude.{ℕ, Bool, true, false, ◌&&◌, List, [], ◌∷◌, map, nat_eq, nat_lt}
use Rattle.std.specs.List.{list_all}
use Rattle.aerie_base.specs.Ranges.{is_number, is_rate}
use Rattle.dataset_in.specs.declared.series.Series.{Series}
use Rattle.dataset_in.specs.declared.series.Series.TheVariants.{Truth, Whole, Linear}

-- each time is after the one before it
abbrev pub are_rising : ℕ → List ℕ → Bool
are_rising last [] = true
are_rising last (next ∷ rest) = nat_lt last next && are_rising next rest

-- one at least, the first at 0, and each later one after the one before it
abbrev pub are_starts : List ℕ → Bool
are_starts [] = false
are_starts (first ∷ rest) = nat_eq first 0 && are_rising first rest

-- numbers and rates in their ranges, from 0 on
abbrev pub is_series : Series → Bool
is_series (Truth entries) = are_starts (map (λ entry. entry.0) entries)
is_series (Whole entries) = are_starts (map (λ entry. entry.0) entries) && list_all (λ entry. is_number entry.1) entries
is_series (Linear segments) =
    are_starts (map (λ segment. segment.from) segments)
    && list_all (λ segment. is_number segment.value && is_rate segment.rate) segments
