-- What two runs have in common at their beginnings and at their ends.
use Rattle.std.specs.Prelude.{◌≡◌, ◌≤◌, ℕ, List, ◌++◌, length, take}
use Rattle.run_data.specs.declared.runs.Instant.{Instant}

-- so many of the first instants are the same, and so many of the last
pub record SharesEnds (old instants : List Instant) (many_first many_last : ℕ) : Type 0 where
  pub front : List Instant
  pub between : List Instant
  pub old_between : List Instant
  pub back : List Instant
  pub is : instants ≡ front ++ (between ++ back)
  pub is_old : old ≡ front ++ (old_between ++ back)
  pub first : length front ≡ many_first
  pub last : length back ≡ many_last

-- so many of the first instants of both are the same
pub record ShareFirst (instants others : List Instant) (many : ℕ) : Type 0 where
  pub within : many ≤ length instants
  pub old_within : many ≤ length others
  pub same : take many instants ≡ take many others
