use Rattle.std.proofs.Common.{arith}
use Rattle.batch_run.specs.Answers.{stored_by}
use Rattle.batch_run.proofs.Weaving.{all_answered}
use Rattle.batch_run.proofs.answers.look_up.Goals as goal

pub returns-clause-answers : goal.returns-clause-answers
returns-clause-answers g c =
    all_answered c.args.book.now.model (stored_by c.args.book.now c.args.kept.now) c.args.jobs.now c.loop-job.job-index c.loop-job.answers (omega (arith, c.loop-job-test.false))
    c.loop-job.invariant.answers
