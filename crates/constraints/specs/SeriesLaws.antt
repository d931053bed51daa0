-- A file of lemmas: what it proves need not be read to trust a clause.
--
-- The test of a dataset's segments is true exactly of those that reading one leaves.
use Rattle.std.proofs.Common.{◌≡◌, ℕ, ℤ, Bool, true, false, ◌&&◌, List, [], ◌∷◌, map, All, refl, arith, nat_eq, nat_lt}
use Rattle.std.specs.List.{list_all}
use Rattle.std.specs.Int.RustNames.{unsigned_abs}
use Rattle.std.proofs.lemmas.Bool.{leb-true}
use Rattle.std.proofs.lemmas.List.Elements.{All-nil, All-cons}
use Rattle.aerie_base.specs.Ranges.{is_number, is_rate, IsNumber, IsRate}
use Rattle.windows.specs.declared.segments.Segment.{Segment}
use Rattle.dataset_in.specs.declared.series.Series.{Series}
use Rattle.dataset_in.specs.declared.series.Series.TheVariants.{Truth, Whole, Linear}
use Rattle.windows.specs.Begun.{StartsRise}
use Rattle.dataset_in.specs.Series.{AreStarts, IsSeries}
use Rattle.constraints.specs.GivenSeries.{are_rising, are_starts, is_series}

left_true : (a b : Bool) → (a && b) ≡ true → a ≡ true
left_true true b e = refl
left_true false b e = e

right_true : (a b : Bool) → (a && b) ≡ true → b ≡ true
right_true true b e = e
right_true false true e = refl
right_true false false e = e

rise : (last : ℕ) (times : List ℕ) → are_rising last times ≡ true → StartsRise last times
rise last [] is = tt
rise last (next ∷ rest) is =
    let first = left_true (nat_lt last next) (are_rising next rest) is in
    ((grind arith), rise next rest (right_true (nat_lt last next) (are_rising next rest) is))

begin : (times : List ℕ) → are_starts times ≡ true → AreStarts times
begin [] is = absurd (grind arith)
begin (first ∷ rest) is =
    let zero_is = left_true (nat_eq first 0) (are_rising first rest) is in
    ((grind arith), rise first rest (right_true (nat_eq first 0) (are_rising first rest) is))

numbers : (entries : List (ℕ × ℤ)) → list_all (λ entry. is_number entry.1) entries ≡ true → All (λ (entry : ℕ × ℤ). IsNumber entry.1) entries
numbers [] is = All-nil (λ (entry : ℕ × ℤ). IsNumber entry.1)
numbers (entry ∷ rest) is =
    All-cons (λ (entry : ℕ × ℤ). IsNumber entry.1) entry rest
    (leb-true (unsigned_abs entry.1) 1_000_000_000_000_000_000 (left_true (is_number entry.1) (list_all (λ entry. is_number entry.1) rest) is))
    (numbers rest (right_true (is_number entry.1) (list_all (λ entry. is_number entry.1) rest) is))

pieces : (segments : List Segment) → list_all (λ segment. is_number segment.value && is_rate segment.rate) segments ≡ true → All (λ (segment : Segment). IsNumber segment.value × IsRate segment.rate) segments
pieces [] is = All-nil (λ (segment : Segment). IsNumber segment.value × IsRate segment.rate)
pieces (segment ∷ rest) is =
    All-cons (λ (segment : Segment). IsNumber segment.value × IsRate segment.rate) segment rest (
      leb-true (unsigned_abs segment.value) 1_000_000_000_000_000_000 (left_true (is_number segment.value) (is_rate segment.rate) both),
      leb-true (unsigned_abs segment.rate) 1_000_000_000_000 (right_true (is_number segment.value) (is_rate segment.rate) both),
    )
    (pieces rest (right_true (is_number segment.value && is_rate segment.rate) (list_all (λ segment. is_number segment.value && is_rate segment.rate) rest) is))
  where
    both : (is_number segment.value && is_rate segment.rate) ≡ true
    both = left_true (is_number segment.value && is_rate segment.rate) (list_all (λ segment. is_number segment.value && is_rate segment.rate) rest) is

pub series_is : (series : Series) → is_series series ≡ true → IsSeries series
series_is (Truth entries) is = begin (map (λ entry. entry.0) entries) is
series_is (Whole entries) is = (
  begin (map (λ entry. entry.0) entries) (left_true (are_starts (map (λ entry. entry.0) entries)) (list_all (λ entry. is_number entry.1) entries) is),
  numbers entries (right_true (are_starts (map (λ entry. entry.0) entries)) (list_all (λ entry. is_number entry.1) entries) is),
)
series_is (Linear segments) is = (
  begin (map (λ segment. segment.from) segments) (left_true (are_starts (map (λ segment. segment.from) segments)) (list_all (λ segment. is_number segment.value && is_rate segment.rate) segments) is),
  pieces segments (right_true (are_starts (map (λ segment. segment.from) segments)) (list_all (λ segment. is_number segment.value && is_rate segment.rate) segments) is),
)
