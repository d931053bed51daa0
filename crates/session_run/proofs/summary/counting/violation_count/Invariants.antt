-- What is counted, with what is left, is what all come to.
use Rattle.std.proofs.Common.{◌≡◌, ◌+◌, ◌≤◌, min, drop}
use Rattle.run_data.specs.Waves.{last_count}
use Rattle.session_run.specs.summary.Summaries.{violation_count}
use Rattle.session_run.proofs.summary.counting.violation_count.Given as goal

abbrev pub invariant-loop-constraint : goal.invariant-loop-constraint
invariant-loop-constraint l = record {
  whole :
      min (l.count + violation_count l.model l.run (drop l.constraint-index l.constraints)) last_count
      ≡ min (violation_count l.model l.run l.constraints) last_count;
  fits : l.count ≤ last_count;
}
