-- The last change of each cell, which tells its state ever after.
use Rattle.std.specs.Prelude.{◌≡◌, ℕ, ◌<◌, nat_eq, List, [], ◌∷◌, length, Option, Some, None, option_map, slice_get, if◌then◌else◌}
use Rattle.aerie_base.specs.declared.models.model.Parts.{Parts}
use Rattle.aerie_base.specs.declared.plans.Plan.{Plan}
use Rattle.effect_cells.specs.declared.effects.CellState.{CellState}
use Rattle.run_data.specs.declared.runs.Instant.{Instant}
use Rattle.run_data.specs.Fresh.{SimulationState, IsReached}
use Rattle.run_data.specs.Transitions.{more}
use Rattle.run_data.specs.laws.SettledInstants.{IsSettled}
use Rattle.resimulate.specs.AlikeByFrames.{instants_with}

-- when a cell changed, and to which state
abbrev pub CellChange : Type 0
CellChange = ℕ × CellState

-- the last change of a cell, if any, where these cells changed at a time, and this was the last one before
abbrev pub changed_at_time : ℕ → ℕ → List (ℕ × CellState) → Option CellChange → Option CellChange
changed_at_time cell time [] last = last
changed_at_time cell time (changed ∷ rest) last =
    changed_at_time cell time rest (if nat_eq changed.0 cell then Some (time, changed.1) else last)

-- the same behind some instants
abbrev pub last_change : ℕ → List Instant → Option CellChange → Option CellChange
last_change cell [] last = last
last_change cell (instant ∷ rest) last = last_change cell rest (changed_at_time cell instant.time instant.changed last)

-- the last change of each of so many cells is the same in two runs
abbrev pub SameLastChanges : ℕ → List Instant → List Instant → Type 0
SameLastChanges cells instants others = (cell : ℕ) → cell < cells → last_change cell instants None ≡ last_change cell others None

-- settled states of simulations of one model at one time have the same cells where the last changes of each cell are the same
abbrev pub LastChangesTellCells : Type 0
LastChangesTellCells =
    (model : Parts) (plan old_plan : Plan) (bound old_bound : ℕ) (at other : SimulationState) →
    IsReached model plan bound (more at) → IsReached model old_plan old_bound (more other) → IsSettled at → IsSettled other → at.time ≡ other.time →
    SameLastChanges (length model.cells) (instants_with at) (instants_with other) → at.cells ≡ other.cells

-- ---- all cells at once

-- the last change of each of some cells, before and behind those that changed at a time
abbrev pub ChangeAtTime : ℕ → List (ℕ × CellState) → List (Option CellChange) → List (Option CellChange) → Type 0
ChangeAtTime time changed before after =
    (cell : ℕ) → slice_get after cell ≡ option_map (changed_at_time cell time changed) (slice_get before cell)

-- and before and behind some instants
abbrev pub ChangeInInstants : List Instant → List (Option CellChange) → List (Option CellChange) → Type 0
ChangeInInstants instants before after = (cell : ℕ) → slice_get after cell ≡ option_map (last_change cell instants) (slice_get before cell)
