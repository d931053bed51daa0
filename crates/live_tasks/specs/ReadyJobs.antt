-- The tasks of ready jobs.
use Rattle.std.specs.Prelude.{ℕ}
use Rattle.run_data.specs.declared.jobs.Job.{Job}
use Rattle.live_tasks.specs.declared.ready_jobs.Root.{Root}

-- the task of a job
abbrev pub root_of : ℕ × Job → Root
root_of job = record { path = job.1.path; made = job.0 }
