-- The cells as a step sees them.
use Rattle.std.specs.Prelude.{List}
use Rattle.effect_cells.specs.declared.effects.CellState.{CellState}
use Rattle.task_step.specs.declared.sight.Sight.{Sight}
use Rattle.task_step.specs.Overlays.{overlaid}

-- those of its view, with the states of those that it wrote
abbrev pub seen_in : Sight → List CellState
seen_in sight = overlaid sight.view.now sight.written
