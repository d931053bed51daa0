use Rattle.run_data.proofs.ChildJobs.{children_are_jobs, within_is_job}
use Rattle.run_data.proofs.DueJobs.{dues_are_jobs}
use Rattle.run_data.proofs.SmallActs.{steps_are_small}
use Rattle.run_data.proofs.laws.steps.steps_are_small.Goals as goal

pub returns : goal.returns
returns c = record { small = steps_are_small; children = children_are_jobs; generation = dues_are_jobs; jobs = within_is_job }
