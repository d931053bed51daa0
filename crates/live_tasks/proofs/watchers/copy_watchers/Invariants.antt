use Rattle.std.proofs.Common.{◌≡◌, take}
use Rattle.live_tasks.proofs.watchers.copy_watchers.Given as goal

abbrev pub invariant-loop-some : goal.invariant-loop-some
invariant-loop-some l = l.all ≡ take l.some-index l.some-items
