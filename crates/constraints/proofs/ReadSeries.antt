-- The test of a dataset's segments is true of those that reading one leaves.
use Rattle.std.proofs.Common.{◌≡◌, ℕ, ℤ, Bool, true, false, ◌&&◌, List, [], ◌∷◌, map, All, IsTrue, refl, nat_eq, nat_lt}
use Rattle.std.specs.List.{list_all}
use Rattle.std.specs.Int.RustNames.{unsigned_abs}
use Rattle.std.proofs.lemmas.Bool.{le-leb, lt-ltb, eq-eqb}
use Rattle.std.proofs.lemmas.List.Elements.{All-head, All-tail}
use Rattle.aerie_base.specs.Ranges.{is_number, is_rate, IsNumber, IsRate}
use Rattle.windows.specs.declared.segments.Segment.{Segment}
use Rattle.dataset_in.specs.declared.series.Series.{Series}
use Rattle.dataset_in.specs.declared.series.Series.TheVariants.{Truth, Whole, Linear}
use Rattle.windows.specs.Begun.{StartsRise}
use Rattle.dataset_in.specs.Series.{AreStarts, IsSeries}
use Rattle.constraints.specs.GivenSeries.{are_rising, are_starts, is_series}

both : (a b : Bool) → a ≡ true → b ≡ true → (a && b) ≡ true
both true b one other = other
both false b one other = one

risen : (last : ℕ) (times : List ℕ) → StartsRise last times → are_rising last times ≡ true
risen last [] rise = refl
risen last (next ∷ rest) rise = both (nat_lt last next) (are_rising next rest) (lt-ltb last next rise.0) (risen next rest rise.1)

begun : (times : List ℕ) → AreStarts times → are_starts times ≡ true
begun [] starts = absurd starts
begun (first ∷ rest) starts = both (nat_eq first 0) (are_rising first rest) (eq-eqb first 0 starts.0) (risen first rest starts.1)

number_is : (number : ℤ) → IsNumber number → is_number number ≡ true
number_is number small = le-leb (unsigned_abs number) 1_000_000_000_000_000_000 small

rate_is : (rate : ℤ) → IsRate rate → is_rate rate ≡ true
rate_is rate small = le-leb (unsigned_abs rate) 1_000_000_000_000 small

numbers_are : (entries : List (ℕ × ℤ)) → All (λ (entry : ℕ × ℤ). IsNumber entry.1) entries → list_all (λ (entry : ℕ × ℤ). is_number entry.1) entries ≡ true
numbers_are [] all = refl
numbers_are (entry ∷ rest) all =
    both (is_number entry.1) (list_all (λ (entry : ℕ × ℤ). is_number entry.1) rest)
    (number_is entry.1 (All-head (λ (entry : ℕ × ℤ). IsNumber entry.1) entry rest all))
    (numbers_are rest (All-tail (λ (entry : ℕ × ℤ). IsNumber entry.1) entry rest all))

abbrev IsPiece : Segment → Type 0
IsPiece segment = IsNumber segment.value × IsRate segment.rate

abbrev is_piece : Segment → Bool
is_piece segment = is_number segment.value && is_rate segment.rate

pieces_are : (segments : List Segment) → All IsPiece segments → list_all is_piece segments ≡ true
pieces_are [] all = refl
pieces_are (segment ∷ rest) all =
    let first = All-head IsPiece segment rest all in
    both (is_piece segment) (list_all is_piece rest)
    (both (is_number segment.value) (is_rate segment.rate) (number_is segment.value first.0) (rate_is segment.rate first.1))
    (pieces_are rest (All-tail IsPiece segment rest all))

pub read_series_is : (series : Series) → IsSeries series → IsTrue (is_series series)
read_series_is (Truth entries) is = begun (map (λ entry. entry.0) entries) is
read_series_is (Whole entries) is =
    both (are_starts (map (λ entry. entry.0) entries)) (list_all (λ entry. is_number entry.1) entries) (begun (map (λ entry. entry.0) entries) is.0) (numbers_are entries is.1)
read_series_is (Linear segments) is =
    both (are_starts (map (λ segment. segment.from) segments)) (list_all is_piece segments) (begun (map (λ segment. segment.from) segments) is.0) (pieces_are segments is.1)
