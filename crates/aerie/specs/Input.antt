-- What the program reads from its source.
use Rattle.std.specs.Prelude.{◌≡◌, ℕ, ◌≤◌, ◌<◌, List, ◌++◌, length, Option, Result, IfOk, ◌⊎◌}
use Rattle.std.specs.Io.KnownBytes.{Consumes, IsAtEnd}

-- the most bytes that are read: one more than the longest session has
abbrev pub most_read : ℕ
most_read = 16_777_217

-- these bytes were read, in order, and no more than the most
pub record HasRead (before after : Option (List ℕ)) (bytes : List ℕ) : Type 0 where
  pub taken : Consumes before after bytes
  pub most : length bytes ≤ most_read

-- the same, and reading went on to the end of the input, or to the most bytes
pub record HasReadAll (before after : Option (List ℕ)) (bytes : List ℕ) : Type 0 where
  pub read : HasRead before after bytes
  pub ended : IsAtEnd after ⊎ (length bytes ≡ most_read)

-- one read took these bytes, at most as many as there is room for; where it succeeded they came behind the others and
-- their number is answered, 0 for a room that is not empty only at the end of the input
pub record ReadsMore {E : Type 0} (before after : Option (List ℕ)) (room : ℕ) (old new : List ℕ) (result : Result ℕ E) : Type 0 where
  pub part : List ℕ
  pub taken : Consumes before after part
  pub most : length part ≤ room
  pub behind : IfOk result (λ count. (new ≡ old ++ part) × (count ≡ length part) × (count ≡ 0 → 0 < room → IsAtEnd after))
