-- How items with keys are linked: each to the last before it in its bucket.
use Rattle.std.specs.Prelude.{◌≡◌, ℕ, ◌<◌, ◌≤◌, ◌-◌, ◌^◌, List, map, length, Option, Some, take, slice_get}
use Rattle.std.specs.Int.RustNames.{bit_and}
use Rattle.record_book.specs.KeyedItems.{last_with}
use Rattle.record_book.specs.declared.keyed_items.Keyed.{Keyed}

-- the bucket of a key, of so many
abbrev pub bucket : ℕ → ℕ → ℕ
bucket count key = bit_and key (count - 1)

-- an item with its bucket
abbrev pub in_bucket : {T : Type 0} → ℕ → ℕ × T → ℕ × (ℕ × T)
in_bucket count item = (bucket count item.0, item)

-- the position of the last item in a bucket
abbrev pub last_in_bucket : {T : Type 0} → ℕ → ℕ → List (ℕ × T) → Option ℕ
last_in_bucket count at items = last_with at (map (in_bucket count) items)

-- the position of the last item in the bucket of a key
abbrev pub last_beside : {T : Type 0} → ℕ → ℕ → List (ℕ × T) → Option ℕ
last_beside count key items = last_in_bucket count (bucket count key) items

-- an item with its key
abbrev pub with_key : {T : Type 0} → Keyed T → ℕ × T
with_key keyed = (keyed.key, keyed.item)

-- items with their keys
abbrev pub with_keys : {T : Type 0} → List (Keyed T) → List (ℕ × T)
with_keys items = map with_key items

-- of each bucket the last of the first items is known, and each of these is linked to the last before it in its bucket
pub record AreInBuckets {T : Type 0} (count first : ℕ) (items : List (Keyed T)) (newest : List (Option ℕ)) : Type 0 where
  pub newest_ : (at : ℕ) → at < count → slice_get newest at ≡ Some (last_in_bucket count at (take first (map with_key items)))
  pub older_ : (at : ℕ) (keyed : Keyed T) → at < first → slice_get items at ≡ Some keyed →
      keyed.older ≡ last_in_bucket count (bucket count keyed.key) (take at (map with_key items))

-- all items are linked, in as many buckets as there are items or more
pub record AreChained {T : Type 0} (items : List (Keyed T)) (newest : List (Option ℕ)) : Type 0 where
  pub linked : AreInBuckets (length newest) (length items) items newest
  pub room : length items ≤ length newest
  pub few : length items ≤ 2 ^ 32
