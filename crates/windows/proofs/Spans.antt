-- Spans by the order of their starts, put together one after another.
use Rattle.std.proofs.Common.{◌≡◌, ℕ, ◌+◌, ◌<◌, ◌≤◌, min, Bool, ◌||◌, List, [], ◌∷◌, length, drop, get_or, sym, ap, ◌∙◌, arith}
use Rattle.std.proofs.lemmas.Grind.{common_steps}
use Rattle.std.specs.List.Sorted.{IsNonDecreasingBy, IsPermutation}
use Rattle.std.proofs.lemmas.List.Sorted.{IsNonDecreasingBy-drop, list_any-IsPermutation}
use Rattle.std.proofs.lemmas.List.{drop_all}
use Rattle.windows.specs.Times.{Interval, covers, contains, AreIntervals}
use Rattle.windows.specs.Joining.{last_start, Joins}
use Rattle.windows.proofs.Both.{cut_at}
use Rattle.windows.proofs.Builds.{Builds, builds_none, builds_more, builds_all}

abbrev pub BeginsBy : ℕ → List Interval → Type 0
BeginsBy from [] = Unit {0}
BeginsBy from (first ∷ rest) = from ≤ first.0

pub record Covers (reach : ℕ) (made rest : List Interval) (whole : ℕ → Bool) : Type 0 where
  pub builds : Builds reach made (contains rest) whole
  pub sorted : IsNonDecreasingBy (λ (span : Interval). span.0) rest
  pub begins : BeginsBy (last_start made) rest

begins_none : (rest : List Interval) → BeginsBy 0 rest
begins_none [] = tt
begins_none (first ∷ rest) = omega arith

pub covers_none : (reach : ℕ) (whole : List Interval) → IsNonDecreasingBy (λ (span : Interval). span.0) whole → Covers reach [] whole (λ t. contains whole t)
covers_none reach whole sorted = record { builds = builds_none reach (contains whole); sorted = sorted; begins = begins_none whole }

begins_more : (from : ℕ) (first : Interval) (rest : List Interval) → IsNonDecreasingBy (λ (span : Interval). span.0) (first ∷ rest) → from ≤ first.0 → BeginsBy from rest
begins_more from first [] sorted begins = tt
begins_more from first (next ∷ rest) sorted begins = let later : first.0 ≤ next.0 = sorted 0 1 first (omega arith) (omega arith) in omega arith

split : (reach : ℕ) (first : Interval) (rest : List Interval) (t : ℕ) → t < reach → contains (first ∷ rest) t ≡ (covers (first.0, min first.1 reach) t || contains rest t)
split reach first rest t below = grind (arith, common_steps)

-- the next one may be put in
pub covers_next : (reach i : ℕ) (made whole : List Interval) (first : Interval) (times : ℕ → Bool) → i < length whole → first ≡ get_or whole i first → Covers reach made (drop i whole) times → last_start made ≤ first.0
covers_next reach i made whole first times within is before =
    let begins : BeginsBy (last_start made) (first ∷ drop (i + 1) whole) = rw (cut_at whole i first within is) at before.begins in begins

pub covers_more : (reach i : ℕ) (made new whole : List Interval) (first : Interval) (times : ℕ → Bool) → i < length whole → first ≡ get_or whole i first →
    Covers reach made (drop i whole) times → Joins made first.0 (min first.1 reach) new → Covers reach new (drop (i + 1) whole) times
covers_more reach i made new whole first times within is before joins =
    let cut = cut_at whole i first within is in
    let sorted : IsNonDecreasingBy (λ (span : Interval). span.0) (first ∷ drop (i + 1) whole) = rw cut at before.sorted in
    record {
      builds = builds_more reach made new (contains (drop i whole)) (contains (drop (i + 1) whole)) times first.0 (min first.1 reach) before.builds joins (omega arith)
          (λ t below. ap (λ (l : List Interval). contains l t) cut ∙ split reach first (drop (i + 1) whole) t below);
      sorted = IsNonDecreasingBy-drop (λ (span : Interval). span.0) 1 (first ∷ drop (i + 1) whole) sorted;
      begins = begins_more (last_start new) first (drop (i + 1) whole) sorted joins.start;
    }

-- all spans are put in, and their order does not matter
pub covers_all : (reach i : ℕ) (made spans sorted : List Interval) → length sorted ≤ i → IsPermutation spans sorted →
    Covers reach made (drop i sorted) (λ t. contains sorted t) → AreIntervals reach (λ t. contains spans t) made
covers_all reach i made spans sorted past same before =
    let whole : AreIntervals reach (λ t. contains sorted t) made = builds_all reach made (contains (drop i sorted)) (λ t. contains sorted t) before.builds (λ t below. ap (λ (l : List Interval). contains l t) (drop_all i sorted past)) in
    record {
      in_order = whole.in_order;
      times = λ t below. whole.times t below ∙ sym (list_any-IsPermutation (λ span. covers span t) spans sorted same);
    }
