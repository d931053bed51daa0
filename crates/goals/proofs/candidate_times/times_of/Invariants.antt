-- The times so far and those that are left are all of them.
use Rattle.std.proofs.Common.{◌≤◌, ◌*◌, ◌+◌}
use Rattle.std.specs.Int.RustNames.{unsigned_abs}
use Rattle.goals.specs.Tries.{spread_times}
use Rattle.goals.proofs.Spreading.{AreSoFar}
use Rattle.goals.proofs.candidate_times.times_of.Given as goal

abbrev pub invariant-loop : goal.invariant-loop
invariant-loop l = record {
  so_far : AreSoFar l.spread.bound l.spread.step l.counter l.time l.times.items (spread_times l.spread.bound l.spread.first l.spread.step);
  small : unsigned_abs l.time ≤ 100_000_000_000_000_000_000 * (l.counter + 1);
}
