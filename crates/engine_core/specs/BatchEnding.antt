-- How a batch ends whose frames are in order and have not faulted.
use Rattle.std.specs.Prelude.{◌≡◌, ℕ, List, Option, Some, None}
use Rattle.aerie_base.specs.declared.faults.Fault.TheVariants.{Range}
use Rattle.effect_cells.specs.declared.effects.CellState.{CellState}
use Rattle.effect_cells.specs.declared.trees.Tree.{Tree}
use Rattle.effect_cells.specs.Cells.{committed_cells, first_out}
use Rattle.run_data.specs.TaskFrames.{Frame}
use Rattle.run_data.specs.declared.runs.Who.TheVariants as who
use Rattle.run_data.specs.Batches.{Batch, failed, committed, touched_from}
use Rattle.engine_core.specs.declared.batch_ends.BatchEnd.{BatchEnd}
use Rattle.engine_core.specs.declared.batch_ends.BatchEnd.TheVariants.{Limit, Failed, Committed}

abbrev pub unless_cell_out : Option ℕ → List CellState → List ℕ → List Frame → Batch
unless_cell_out None next touched frames = committed next touched frames
unless_cell_out (Some cell) next touched frames = failed (who.Cell cell) Range

-- frames with this tree are committed, unless a cell would leave its range
abbrev pub committed_by : Tree → List CellState → List Frame → Batch
committed_by tree cells frames =
    let next = committed_cells cells tree in unless_cell_out (first_out next) next (touched_from 0 tree cells) frames

-- where it is committed, these are the frames and this is spent
abbrev pub IsCommittedWith : List Frame → ℕ → BatchEnd → Type 0
IsCommittedWith frames spent Limit = Unit {0}
IsCommittedWith frames spent (Failed who fault) = Unit {0}
IsCommittedWith frames spent (Committed these touched now) = (these ≡ frames) × (now ≡ spent)

-- where it is committed, these are the frames
abbrev pub HasFrames : List Frame → BatchEnd → Type 0
HasFrames frames Limit = Unit {0}
HasFrames frames (Failed who fault) = Unit {0}
HasFrames frames (Committed these touched now) = these ≡ frames
