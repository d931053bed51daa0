use Rattle.std.proofs.Common.{take}
use Rattle.run_data.specs.laws.TracedTasks.{timed}
use Rattle.resimulate.specs.Origins.{is_asked}
use Rattle.resimulate.specs.Traces.{TakesIn}
use Rattle.resimulate.proofs.traces.note_batch.Given as goal

-- the frames before this one are taken in
abbrev pub invariant-loop-frame : goal.invariant-loop-frame
invariant-loop-frame l = TakesIn (is_asked l.all l.roots.keys) (timed l.time (take l.frame-index l.batch)) l.initial.traces.entries l.traces.entries
