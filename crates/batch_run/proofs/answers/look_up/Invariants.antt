use Rattle.std.proofs.Common.{◌≤◌, ◌+◌, ◌*◌, ◌++◌, List, Option, drop}
use Rattle.run_data.specs.TaskFrames.{Frame}
use Rattle.batch_run.specs.Answers.{AreAnswers, stored_by}
use Rattle.batch_run.proofs.answers.look_up.Given as goal

-- the answers so far, with those to the jobs that are left, are answers to all jobs
abbrev pub invariant-loop-job : goal.invariant-loop-job
invariant-loop-job g l = record {
  answers : (rest : List (Option Frame)) → AreAnswers l.book.model (stored_by l.book l.kept) (drop l.job-index l.jobs) rest →
      AreAnswers l.book.model (stored_by l.book l.kept) l.jobs (l.answers ++ rest);
  looks : l.initial.looks ≤ l.looks;
  few : l.looks ≤ l.initial.looks + 2 * l.job-index;
}
