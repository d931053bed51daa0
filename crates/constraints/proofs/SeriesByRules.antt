-- What rules read of datasets.
use Rattle.std.proofs.Common.{◌≡◌, ℕ, ◌-◌, ◌<◌, ◌≤◌, ℤ, pos, Bool, true, false, cond, List, [], ◌∷◌, map, All, IsTrue, refl, sym, ap, subst, ◌∙◌, arith, unsigned_abs, nat_le, true≢false, if◌then◌else◌}
use Rattle.std.specs.Prelude.{option_map, unwrap_or, Some, None}
use Rattle.std.proofs.lemmas.Int.{ints, unsigned_abs-mul}
use Rattle.std.proofs.lemmas.Nat.{mul-le}
use Rattle.std.proofs.lemmas.List.Elements.{All-head, All-tail}
use Rattle.aerie_base.specs.Ranges.{IsNumber, IsRate, IsTime}
use Rattle.aerie_base.specs.declared.values.Value.{Value}
use Rattle.aerie_base.specs.declared.values.Value.TheVariants as value
use Rattle.aerie_base.specs.declared.values.Kind.{Kind}
use Rattle.aerie_base.specs.declared.values.Kind.TheVariants as kind
use Rattle.aerie_base.specs.declared.models.model.Parts.{Parts}
use Rattle.aerie_base.specs.expressions.Arithmetic.{number_in, same_value}
use Rattle.run_data.specs.declared.runs.Run.{Run}
use Rattle.windows.specs.Begun.{StartsRise, last_begun}
use Rattle.windows.specs.declared.segments.Segment.{Segment}
use Rattle.windows.specs.Linear.{AreSegments, segment_value, segments_value}
use Rattle.windows.specs.Times.{TimeSet, AreIntervals}
use Rattle.dataset_in.specs.declared.series.Series.{Series}
use Rattle.dataset_in.specs.declared.series.Series.TheVariants.{Truth, Whole, Linear}
use Rattle.dataset_in.specs.Levels.{constant, level_at, segments_of, truth_of}
use Rattle.dataset_in.specs.Series.{AreStarts, IsSeries, IsOfNumbers}
use Rattle.constraints.specs.declared.types.Reading.TheVariants as read
use Rattle.constraints.specs.Following.{FollowsReading, AreTimesEqual}
use Rattle.constraints.specs.GivenSeries.{is_series}
use Rattle.constraints.specs.Holding.{equals_or_not, level_value}
use Rattle.constraints.specs.OfModel.{is_of_kind, may_equal, reading_kind, series_kind}
use Rattle.constraints.specs.SeriesLaws.{series_is}
use Rattle.constraints.specs.Steps.{Step, AreSteps, step_value, truth_step}
use Rattle.constraints.proofs.SpanTimes.{same_times}

-- ---- truths

truth_value : (entry : ℕ × Bool) (rest : List (ℕ × Bool)) (t : ℕ) → step_value (map truth_step (entry ∷ rest)) t ≡ value.Truth (truth_of (last_begun (λ entry. entry.0) (entry ∷ rest) t))
truth_value entry [] t = refl
truth_value entry (next ∷ rest) t = go (truth_value next rest t) (nat_le next.0 t)
  where
    go : step_value (map truth_step (next ∷ rest)) t ≡ value.Truth (truth_of (last_begun (λ entry. entry.0) (next ∷ rest) t)) → (b : Bool) →
        unwrap_or (option_map (λ (s : Step). s.1) (cond b (last_begun (λ (s : Step). s.0) (map truth_step (next ∷ rest)) t) (Some (truth_step entry)))) (value.Int (pos 0))
        ≡ value.Truth (truth_of (cond b (last_begun (λ (e : ℕ × Bool). e.0) (next ∷ rest) t) (Some entry)))
    go there true = there
    go there false = refl

rise : (last : ℕ) (entries : List (ℕ × Bool)) → StartsRise last (map (λ entry. entry.0) entries) → StartsRise last (map (λ step. step.0) (map truth_step entries))
rise last [] are = tt
rise last (entry ∷ rest) are = (are.0, rise entry.0 rest are.1)

pub truth_steps_are : (reach : ℕ) (entries : List (ℕ × Bool)) → AreStarts (map (λ entry. entry.0) entries) → AreSteps reach (map truth_step entries)
truth_steps_are reach [] are = absurd are
truth_steps_are reach (entry ∷ rest) are = ((are.0, rise entry.0 rest are.1), λ some. omega arith)

truth_is : (entries : List (ℕ × Bool)) (t : ℕ) → AreStarts (map (λ entry. entry.0) entries) → step_value (map truth_step entries) t ≡ level_value (level_at (Truth entries) t)
truth_is [] t are = absurd are
truth_is (entry ∷ rest) t are = truth_value entry rest t

-- ---- what a rule may read

-- a dataset that is read is one
pub series_given : (model : Parts) (of : Kind) (name : List ℕ) (series : Series) → IsTrue (is_of_kind of (reading_kind model (read.Series name series))) → IsSeries series
series_given model of name series typed = go (is_series series) refl typed
  where
    go : (b : Bool) → is_series series ≡ b → IsTrue (is_of_kind of (if b then Some (series_kind series) else None)) → IsSeries series
    go true e typed = series_is series e
    go false e typed = absurd (true≢false (sym typed))

pub series_equal : (model : Parts) (v : Value) (name : List ℕ) (series : Series) → IsTrue (may_equal model v (reading_kind model (read.Series name series))) → IsSeries series
series_equal model v name series typed = go (is_series series) refl typed
  where
    go : (b : Bool) → is_series series ≡ b → IsTrue (may_equal model v (if b then Some (series_kind series) else None)) → IsSeries series
    go true e typed = series_is series e
    go false e typed = absurd (true≢false (sym typed))

-- no numbers are compared with a value
pub whole_apart : (model : Parts) (v : Value) (name : List ℕ) (entries : List (ℕ × ℤ)) → IsTrue (may_equal model v (reading_kind model (read.Series name (Whole entries)))) → ⊥
whole_apart model v name entries typed = go (is_series (Whole entries)) typed
  where
    go : (b : Bool) → IsTrue (may_equal model v (if b then Some kind.Int else None)) → ⊥
    go true typed = true≢false (sym typed)
    go false typed = true≢false (sym typed)

pub linear_apart : (model : Parts) (v : Value) (name : List ℕ) (segments : List Segment) → IsTrue (may_equal model v (reading_kind model (read.Series name (Linear segments)))) → ⊥
linear_apart model v name segments typed = go (is_series (Linear segments)) typed
  where
    go : (b : Bool) → IsTrue (may_equal model v (if b then Some kind.Int else None)) → ⊥
    go true typed = true≢false (sym typed)
    go false typed = true≢false (sym typed)

-- truths are no numbers
pub numbers_given : (model : Parts) (name : List ℕ) (series : Series) → IsTrue (is_of_kind kind.Int (reading_kind model (read.Series name series))) → IsOfNumbers series
numbers_given model name (Whole entries) typed = tt
numbers_given model name (Linear segments) typed = tt
numbers_given model name (Truth entries) typed = absurd (go (is_series (Truth entries)) typed)
  where
    go : (b : Bool) → IsTrue (is_of_kind kind.Int (if b then Some kind.Truth else None)) → ⊥
    go true typed = true≢false (sym typed)
    go false typed = true≢false (sym typed)

pub truth_times_are : (model : Parts) (run : Run) (name : List ℕ) (v : Value) (equal : Bool) (entries : List (ℕ × Bool)) (steps : List Step) (made : TimeSet) → AreStarts (map (λ entry. entry.0) entries) → steps ≡ map truth_step entries →
    made.reach ≡ run.reach → AreIntervals made.reach (λ t. equals_or_not equal (same_value (step_value steps t) v)) made.intervals → AreTimesEqual model run (read.Series name (Truth entries)) v equal made
truth_times_are model run name v equal entries steps made starts steps_are reach times = record {
  reach_is = reach;
  times = same_times made.reach _ _ made.intervals
      (λ t below. ap (λ (x : Value). equals_or_not equal (same_value x v)) (ap (λ (l : List Step). step_value l t) steps_are ∙ truth_is entries t starts)) times;
}

-- ---- numbers

-- values and rates in their ranges
abbrev pub InRanges : List Segment → Type 0
InRanges [] = Unit {0}
InRanges (segment ∷ rest) = (IsNumber segment.value × IsRate segment.rate) × InRanges rest

one_small : (segment : Segment) (t : ℕ) → IsNumber segment.value → IsRate segment.rate → IsTime t → unsigned_abs (segment_value segment t) ≤ 2_000_000_000_000_000_000_000_000_000
one_small segment t value rate time =
    let product = unsigned_abs-mul segment.rate (pos (t - segment.from)) in
    let most = mul-le (unsigned_abs segment.rate) (t - segment.from) 1_000_000_000_000 1_000_000_000_000_000 rate (omega (arith, time)) in
    omega (arith, ints, value, product, most)

pieces_small : (segments : List Segment) (t : ℕ) → InRanges segments → IsTime t → unsigned_abs (segments_value segments t) ≤ 2_000_000_000_000_000_000_000_000_000
pieces_small [] t ranges time = omega arith
pieces_small (segment ∷ []) t ranges time = one_small segment t ranges.0.0 ranges.0.1 time
pieces_small (segment ∷ next ∷ rest) t ranges time = go (pieces_small (next ∷ rest) t ranges.1 time) (nat_le next.from t)
  where
    go : unsigned_abs (segments_value (next ∷ rest) t) ≤ 2_000_000_000_000_000_000_000_000_000 → (b : Bool) →
        unsigned_abs (cond b (segments_value (next ∷ rest) t) (segment_value segment t)) ≤ 2_000_000_000_000_000_000_000_000_000
    go there true = there
    go there false = one_small segment t ranges.0.0 ranges.0.1 time

constants_in : (entries : List (ℕ × ℤ)) → All (λ (entry : ℕ × ℤ). IsNumber entry.1) entries → InRanges (map constant entries)
constants_in [] all = tt
constants_in (entry ∷ rest) all = ((All-head (λ (entry : ℕ × ℤ). IsNumber entry.1) entry rest all, omega arith), constants_in rest (All-tail (λ (entry : ℕ × ℤ). IsNumber entry.1) entry rest all))

segments_in : (segments : List Segment) → All (λ (segment : Segment). IsNumber segment.value × IsRate segment.rate) segments → InRanges segments
segments_in [] all = tt
segments_in (segment ∷ rest) all =
    (All-head (λ (segment : Segment). IsNumber segment.value × IsRate segment.rate) segment rest all, segments_in rest (All-tail (λ (segment : Segment). IsNumber segment.value × IsRate segment.rate) segment rest all))

series_small : (series : Series) (t : ℕ) → IsSeries series → IsTime t → unsigned_abs (segments_value (segments_of series) t) ≤ 2_000_000_000_000_000_000_000_000_000
series_small (Truth entries) t is time = omega arith
series_small (Whole entries) t is time = pieces_small (map constant entries) t (constants_in entries is.1) time
series_small (Linear segments) t is time = pieces_small segments t (segments_in segments is.1) time

series_value : (series : Series) (t : ℕ) → IsOfNumbers series → segments_value (segments_of series) t ≡ number_in (level_value (level_at series t))
series_value (Truth entries) t numbers = absurd numbers
series_value (Whole entries) t numbers = refl
series_value (Linear segments) t numbers = refl

pub series_pieces : (model : Parts) (run : Run) (name : List ℕ) (series : Series) (made : List Segment) → IsTrue (is_of_kind kind.Int (reading_kind model (read.Series name series))) → IsTime run.reach → AreSegments run.reach made →
    ((t : ℕ) → t < run.reach → segments_value made t ≡ segments_value (segments_of series) t) → FollowsReading model run (read.Series name series) made
series_pieces model run name series made typed time form values = record {
  form = form;
  values = λ t below. values t below ∙ series_value series t (numbers_given model name series typed);
  small = λ t below.
      subst (λ (z : ℤ). unsigned_abs z ≤ 2_000_000_000_000_000_000_000_000_000) (sym (values t below)) (series_small series t (series_given model kind.Int name series typed) (omega (arith, below, time)));
}
