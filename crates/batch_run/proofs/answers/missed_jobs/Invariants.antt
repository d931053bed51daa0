use Rattle.std.proofs.Common.{◌≡◌, ◌++◌, drop}
use Rattle.batch_run.specs.Answers.{missed}
use Rattle.batch_run.proofs.answers.missed_jobs.Given as goal

-- the missed jobs so far, with those among the jobs that are left, are all that are missed
abbrev pub invariant-loop-at : goal.invariant-loop-at
invariant-loop-at l = l.rest ++ missed (drop l.at l.jobs) (drop l.at l.answers) ≡ missed l.jobs l.answers
