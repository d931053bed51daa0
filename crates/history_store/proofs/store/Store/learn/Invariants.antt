use Rattle.std.proofs.Common.{◌≤◌}
use Rattle.history_store.specs.Learning.{HasLearnt}
use Rattle.history_store.proofs.store.Store.learn.Given as goal

abbrev pub invariant-loop-index : goal.invariant-loop-index
invariant-loop-index l = (l.from ≤ l.next) × HasLearnt l.initial.book l.book
