-- What a discrete resource shows, from instant to instant.
use Rattle.std.specs.Prelude.{ℕ, ◌-◌, Some, unwrap_or}
use Rattle.aerie_base.specs.declared.models.model.Parts.{Parts}
use Rattle.aerie_base.specs.declared.operands.CellRead.{CellRead}
use Rattle.aerie_base.specs.expressions.Readings.{cell_of}
use Rattle.effect_cells.specs.declared.effects.CellState.{CellState}
use Rattle.effect_cells.specs.Cells.{initial}
use Rattle.effect_cells.specs.Reads.{state_value}
use Rattle.effect_cells.specs.States.{state_after}
use Rattle.run_data.specs.declared.runs.Instant.{Instant}
use Rattle.profiles.specs.declared.discrete.Showing.{Showing}
use Rattle.profiles.specs.States.{state_on, changed_state}

abbrev pub showing_of : ℕ → CellRead → CellState → Showing
showing_of time read state = record { time = time; state = state; value = state_value read (Some state) }

abbrev pub first_showing : Parts → CellRead → Showing
first_showing model read = showing_of 0 read (state_on (initial model) read)

abbrev pub next_showing : Showing → CellRead → Instant → Showing
next_showing showing read instant =
    showing_of instant.time read (unwrap_or (changed_state instant.changed (cell_of read)) (state_after (instant.time - showing.time) showing.state))
