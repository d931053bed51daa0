-- What is counted, with what is left, is what all come to.
use Rattle.std.proofs.Common.{◌≡◌, ◌+◌, ◌≤◌, min, drop}
use Rattle.run_data.specs.Waves.{last_count}
use Rattle.session_run.specs.summary.Summaries.{placed_count}
use Rattle.session_run.proofs.summary.counting.placed_count.Given as goal

abbrev pub invariant-loop-goal : goal.invariant-loop-goal
invariant-loop-goal l = record {
  whole : min (l.count + placed_count (drop l.goal-index l.goals)) last_count ≡ min (placed_count l.goals) last_count;
  fits : l.count ≤ last_count;
}
