use Rattle.std.proofs.Common.{take}
use Rattle.run_data.specs.laws.TracedTasks.{timed_batches}
use Rattle.resimulate.specs.Origins.{is_asked}
use Rattle.resimulate.specs.Traces.{TakesIn}
use Rattle.resimulate.proofs.traces.note_batches.Given as goal

-- the batches before this one are taken in
abbrev pub invariant-loop-batch : goal.invariant-loop-batch
invariant-loop-batch l = TakesIn (is_asked l.all l.roots.keys) (timed_batches l.time (take l.batch-index l.batches)) l.initial.traces.entries l.traces.entries
