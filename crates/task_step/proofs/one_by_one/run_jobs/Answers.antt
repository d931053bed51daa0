-- Each job more has the frame that it has with the whole fuel, or passes what is left and so the fuel.
use Rattle.std.proofs.Common.{◌≤◌, ◌∙◌, ap, arith}
use Rattle.run_data.specs.Frames.{job_frame}
use Rattle.task_step.specs.FreshWaves.{UncountedWave}
use Rattle.task_step.proofs.OneByOne.{added, none_added, cost_more, cost_within, one_more, is_spent}
use Rattle.task_step.proofs.one_by_one.run_jobs.Goals as goal

pub overflow_sub-left : goal.overflow_sub-left
overflow_sub-left c =
    let new = added (job_frame c.args.model.now c.loop-job.left c.job-item.result) c.in_ok-cost.field-0 c.in-Some.cost c.loop-job.frames c.run_job.new.frames c.in_ok-cost.ensures c.in-Some.is in
    let within =
    cost_within c.budget_decides_the_end_alone.ensures.within c.budget_decides_the_end_alone.ensures.same c.args.model.now c.args.fuel c.loop-job.left c.job-item.result new.0
    (omega (arith, c.loop-job.invariant.costs)) new.1
    in
    let cost = new.2 in
    omega (arith, within, cost)

pub returns-in-None : goal.returns-in-None
returns-in-None c =
    ap (λ (fresh : UncountedWave). fresh.wave) c.new.ensures
    ∙ is_spent c.budget_decides_the_end_alone.ensures.within c.budget_decides_the_end_alone.ensures.same c.args.model.now c.args.fuel c.loop-job.left c.loop-job.job-index c.args.jobs.now
    c.job-item.result c.loop-job.frames c.loop-job-test.true c.job-item.is c.loop-job.invariant.costs
    (none_added (job_frame c.args.model.now c.loop-job.left c.job-item.result) c.in_ok-cost.field-0 c.loop-job.frames c.run_job.new.frames c.in_ok-cost.ensures c.in-None.is) c.loop-job.invariant.whole

pub loop-job-preserved : goal.loop-job-preserved
loop-job-preserved c =
    let new = added (job_frame c.args.model.now c.loop-job.left c.job-item.result) c.in_ok-cost.field-0 c.in-Some.cost c.loop-job.frames c.run_job.new.frames c.in_ok-cost.ensures c.in-Some.is in
    let is = new.1 in
    let cost = new.2 in
    let pushed = new.3 in
    let less : c.loop-job.left ≤ c.args.fuel = omega (arith, c.loop-job.invariant.costs) in
    let costs = cost_more c.loop-job.frames new.0 in
    let within =
    cost_within c.budget_decides_the_end_alone.ensures.within c.budget_decides_the_end_alone.ensures.same c.args.model.now c.args.fuel c.loop-job.left c.job-item.result new.0 less is
    in
    record {
      whole =
          rw pushed
          (one_more c.budget_decides_the_end_alone.ensures.within c.budget_decides_the_end_alone.ensures.same c.args.model.now c.args.fuel c.loop-job.left c.loop-job.job-index c.args.jobs.now
          c.job-item.result c.loop-job.frames new.0 _ c.loop-job-test.true c.job-item.is less is c.loop-job.invariant.whole);
      costs = rw pushed (omega (arith, costs, within, cost, c.loop-job.invariant.costs));
    }
