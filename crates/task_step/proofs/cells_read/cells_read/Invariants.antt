use Rattle.std.proofs.Common.{◌≡◌, ◌++◌, ◌<◌, ◌≤◌, ◌-◌, true, false, length, get_or}
use Rattle.run_data.specs.Frames.{read_from}
use Rattle.task_step.proofs.CellsRead.{rest_from}
use Rattle.task_step.proofs.cells_read.cells_read.Given as goal

-- the reads so far, and those from the next cell on that was read, are all reads
abbrev pub invariant-loop-cell : goal.invariant-loop-cell
invariant-loop-cell l = record {
  within : l.cell ≤ length l.sight.read_flags;
  is_read : l.cell < length l.sight.read_flags → get_or l.sight.read_flags l.cell false ≡ true;
  all : l.reads ++ rest_from l.sight.read_flags l.sight.view.now l.cell ≡ read_from 0 l.sight.read_flags l.sight.view.now;
}

abbrev pub decreases-loop-cell : goal.decreases-loop-cell
decreases-loop-cell l = length l.sight.read_flags - l.cell
