use Rattle.std.proofs.Common.{◌≡◌, ◌++◌, map, take, drop}
use Rattle.profiles.specs.Watching.{advanced}
use Rattle.profiles.proofs.watching.advance.Given as goal

-- those before this one are at the next instant, the others as they were
abbrev pub invariant-loop-each : goal.invariant-loop-each
invariant-loop-each l = l.watched ≡ map (advanced l.dt l.changed) (take l.each-index l.initial.watched) ++ drop l.each-index l.initial.watched
