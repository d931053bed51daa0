-- Which series a dataset may be.
use Rattle.std.specs.Prelude.{ℕ, ◌≡◌, List, [], ◌∷◌, map}
use Rattle.std.specs.List.{All}
use Rattle.aerie_base.specs.Ranges.{IsNumber, IsRate}
use Rattle.windows.specs.Begun.{StartsRise}
use Rattle.dataset_in.specs.declared.series.Series.{Series}
use Rattle.dataset_in.specs.declared.series.Series.TheVariants.{Truth, Whole, Linear}

-- where segments begin: there is one at least, the first begins at 0, and each later one after the one before it
abbrev pub AreStarts : List ℕ → Type 0
AreStarts [] = ⊥
AreStarts (first ∷ rest) = (first ≡ 0) × StartsRise first rest

-- numbers and rates in their ranges, from 0 on
abbrev pub IsSeries : Series → Type 0
IsSeries (Truth entries) = AreStarts (map (λ entry. entry.0) entries)
IsSeries (Whole entries) = AreStarts (map (λ entry. entry.0) entries) × All (λ entry. IsNumber entry.1) entries
IsSeries (Linear segments) =
    AreStarts (map (λ segment. segment.from) segments) × All (λ segment. IsNumber segment.value × IsRate segment.rate) segments

-- it has numbers and no truths
abbrev pub IsOfNumbers : Series → Type 0
IsOfNumbers (Truth entries) = ⊥
IsOfNumbers (Whole entries) = Unit {0}
IsOfNumbers (Linear segments) = Unit {0}
