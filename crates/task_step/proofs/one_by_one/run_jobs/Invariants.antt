use Rattle.std.proofs.Common.{◌≡◌, ◌+◌, drop}
use Rattle.run_data.specs.Batches.{cost_of}
use Rattle.run_data.specs.Waves.{frames_of}
use Rattle.task_step.proofs.OneByOne.{in_front}
use Rattle.task_step.proofs.one_by_one.run_jobs.Given as goal

-- the frames so far, and those of the jobs that are left, are those of all jobs; they cost what is missing of the fuel
abbrev pub invariant-loop-job : goal.invariant-loop-job
invariant-loop-job l = record {
  whole : in_front l.frames (frames_of l.model l.fuel (drop l.job-index l.jobs)) ≡ frames_of l.model l.fuel l.jobs;
  costs : l.left + cost_of l.frames ≡ l.fuel;
}
