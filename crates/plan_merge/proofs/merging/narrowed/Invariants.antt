-- Those so far.
use Rattle.std.proofs.Common.{◌≡◌, take}
use Rattle.plan_merge.proofs.merging.narrowed.Given as goal

abbrev pub invariant-loop-at : goal.invariant-loop-at
invariant-loop-at l = l.narrow ≡ take l.at l.fn.directives
