use Rattle.std.proofs.Common.{take}
use Rattle.run_data.specs.laws.TracedTasks.{timed_instants}
use Rattle.resimulate.specs.Origins.{is_asked}
use Rattle.resimulate.specs.Traces.{TakesIn}
use Rattle.resimulate.proofs.traces.note_instants.Given as goal

-- the instants before this one are taken in
abbrev pub invariant-loop-instant : goal.invariant-loop-instant
invariant-loop-instant l = TakesIn (is_asked l.all l.roots.keys) (timed_instants (take l.instant-index l.instants)) l.initial.traces.entries l.traces.entries
