-- What a bookmark comes to in a simulation that is alike with its own from an earlier place on.
use Rattle.std.specs.Prelude.{◌≡◌, ℕ, ◌+◌, ◌≤◌, List, ◌++◌, length, drop}
use Rattle.run_data.specs.declared.runs.Instant.{Instant}

-- these are some instants, and behind them what others have behind so many
pub record ComeBehind (instants others : List Instant) (many : ℕ) (all : List Instant) : Type 0 where
  pub enough : many ≤ length others
  pub is : all ≡ instants ++ drop many others

-- as much was spent since: in the old simulation from one sum to a later one, in the new one from this sum on
pub record IsSpentThere (later old_spent spent bound whole : ℕ) : Type 0 where
  pub since : whole + old_spent ≡ spent + later
  pub within : whole ≤ bound
