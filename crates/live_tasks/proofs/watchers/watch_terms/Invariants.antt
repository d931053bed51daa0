use Rattle.std.proofs.Common.{take}
use Rattle.effect_cells.specs.ReadCells.{reads_terms}
use Rattle.live_tasks.specs.Watchers.{WatchesToo}
use Rattle.live_tasks.proofs.watchers.watch_terms.Given as goal

abbrev pub invariant-loop-term : goal.invariant-loop-term
invariant-loop-term l = WatchesToo (reads_terms (take l.term-index l.term-items)) l.watcher l.initial.watchers l.watchers
