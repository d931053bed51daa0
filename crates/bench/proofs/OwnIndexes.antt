-- Indexes that are gone past, since they are among some.
use Rattle.std.proofs.Common.{◌≡◌, ℕ, ◌+◌, ◌<◌, ◌≤◌, ◌⊎◌, inl, inr, List, length, slice_index_or, ◌∙◌, arith}
use Rattle.std.specs.List.{Contains}
use Rattle.std.proofs.lemmas.Bool.{cases_lt}
use Rattle.std.proofs.lemmas.List.{get_or_default}

-- each index from one to another is among these
abbrev pub IsPassed : List ℕ → ℕ → ℕ → Type 0
IsPassed own from to = (index : ℕ) → from ≤ index → index < to → Contains own index

pub none_passed : (own : List ℕ) (from : ℕ) → IsPassed own from from
none_passed own from index le lt = absurd (omega (arith, le, lt))

pub same_passed : (own : List ℕ) (from next to : ℕ) → IsPassed own from next → to ≡ next → IsPassed own from to
same_passed own from next to passed is index le lt = passed index le (omega (arith, is, lt))

pub one_passed : (own : List ℕ) (from next at to : ℕ) → IsPassed own from next → at < length own → slice_index_or own at 0 ≡ next → to ≤ next + 1 → IsPassed own from to
one_passed own from next at to passed within is few index le lt = by (cases_lt index next)
  where
    by : (index < next) ⊎ (next ≤ index) → Contains own index
    by (inl before) = passed index le before
    by (inr behind) =
        let same : slice_index_or own at 0 ≡ index = omega (arith, is, few, lt, behind) in
        (at, within, get_or_default own at index 0 within ∙ same)
