use Rattle.std.proofs.Common.{◌≡◌, map, take, sum}
use Rattle.measure.proofs.counting.count_all.Given as goal

abbrev pub invariant-loop-one : goal.invariant-loop-one
invariant-loop-one g l = l.count ≡ sum (map g.T.HasParts.parts (take l.one-index l.all))
