-- The free times so far, and those behind.
use Rattle.std.proofs.Common.{◌≡◌, ◌++◌, drop}
use Rattle.goals.specs.Candidates.{free_times as free_by}
use Rattle.goals.proofs.candidate_times.free_times.Given as goal

abbrev pub invariant-loop-time : goal.invariant-loop-time
invariant-loop-time l = l.times.items ++ free_by l.duration l.starts (drop l.time-index l.tried) ≡ free_by l.duration l.starts l.tried
