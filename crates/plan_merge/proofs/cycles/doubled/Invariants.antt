-- What is reached from those so far.
use Rattle.std.proofs.Common.{◌≡◌, map, take}
use Rattle.plan_merge.specs.Reached.{reached_from}
use Rattle.plan_merge.proofs.cycles.doubled.Given as goal

abbrev pub invariant-loop-one : goal.invariant-loop-one
invariant-loop-one g l = l.doubled.items ≡ map (reached_from (g.D.HasIds.as_directives l.directives) l.reached) (take l.one-index l.reached)
