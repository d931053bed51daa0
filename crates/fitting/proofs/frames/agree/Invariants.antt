use Rattle.std.proofs.Common.{take}
use Rattle.run_data.specs.Records.{Agrees}
use Rattle.fitting.proofs.frames.agree.Given as goal

-- the view agrees with those that were looked at
abbrev pub invariant-loop-cell : goal.invariant-loop-cell
invariant-loop-cell l = Agrees l.view (take l.cell-index l.reads)
