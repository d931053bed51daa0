-- States of cells with the times at which they were settled, since when each goes on by itself.
use Rattle.std.specs.Prelude.{◌≡◌, ℕ, ◌-◌, true, List, [], ◌∷◌, map, nat_le, slice_set, if◌then◌else◌}
use Rattle.std.specs.List.{All}
use Rattle.effect_cells.specs.declared.effects.CellState.{CellState}
use Rattle.effect_cells.specs.States.{is_in_range, state_after}
use Rattle.run_data.specs.declared.runs.Instant.{Instant}

-- when a cell was settled, and its state then
abbrev pub SettledState : Type 0
SettledState = ℕ × CellState

-- all settled at time 0
abbrev pub settled_at_start : List CellState → List SettledState
settled_at_start cells = map (λ state. (0, state)) cells

-- with those that changed at a time
abbrev pub with_settled : ℕ → List SettledState → List (ℕ × CellState) → List SettledState
with_settled time states [] = states
with_settled time states (changed ∷ rest) = with_settled time (slice_set states changed.0 (time, changed.1)) rest

-- with what the instants until t changed, the first that is later and those behind it left out
abbrev pub settled_until : ℕ → List SettledState → List Instant → List SettledState
settled_until t states [] = states
settled_until t states (instant ∷ rest) =
    if nat_le instant.time t then settled_until t (with_settled instant.time states instant.changed) rest else states

-- the states at time t
abbrev pub states_then : ℕ → List SettledState → List CellState
states_then t states = map (λ settled. state_after (t - settled.0) settled.1) states

abbrev pub AreAllInRange : List SettledState → Type 0
AreAllInRange states = All (λ settled. is_in_range settled.1 ≡ true) states
