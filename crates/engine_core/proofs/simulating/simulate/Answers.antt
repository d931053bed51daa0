use Rattle.std.proofs.Common.{◌∙◌, ap, refl, sym}
use Rattle.run_data.specs.Counts.{rose_not}
use Rattle.engine_core.specs.BatchRuns.{ran_on}
use Rattle.engine_core.specs.EnginePoints.{ran_not}
use Rattle.engine_core.specs.Simulations.{engine_state_of}
use Rattle.engine_core.specs.declared.simulation.Request.{Request}
use Rattle.engine_core.proofs.CountedRuns.{counted_first, counted_on, counted_less, run_pays, run_looks, run_fresh, none_left, some_left}
use Rattle.engine_core.proofs.EngineSteps.{is_fresh}
use Rattle.engine_core.proofs.Transitions.{on_course_first, leads_first, stands_there}
use Rattle.engine_core.proofs.simulating.simulate.Goals as goal

pub returns-in_err-simulation-clause-opened : goal.returns-in_err-simulation-clause-opened
returns-in_err-simulation-clause-opened g c = rose_not (g.S.Stepper.opened c.args.stepper.now) c.args.steps.now (g.S.Stepper.counted c.args.stepper.now)

pub to_next_job-requires : goal.to_next_job-requires
to_next_job-requires g c = on_course_first c.args.model.now c.args.plan.now c.args.bound c.in_ok-simulation.simulation c.in_ok-simulation.ensures c.requires.plan c.requires.bound

pub returns-in_err-to_next_job-clause-opened : goal.returns-in_err-to_next_job-clause-opened
returns-in_err-to_next_job-clause-opened g c = rose_not (g.S.Stepper.opened c.args.stepper.now) c.args.steps.now (g.S.Stepper.counted c.args.stepper.now)

pub loop-alloc-init : goal.loop-alloc-init
loop-alloc-init g c =
    let before = c.in_ok-to_next_job.ensures.before in
    let request = c.in_ok-to_next_job.ensures.request ∙ c.in_ok-simulation.ensures.request in
    record {
      before = before;
      counted =
          counted_first c.args.model.now c.args.plan.now c.args.bound (g.S.Stepper.records c.args.stepper.now) c.args.steps.now c.args.looks.now
          (engine_state_of c.args.model.now c.to_next_job.new.self) (stands_there c.args.model.now c.to_next_job.new.self before.course before.has_job) refl
          (ap (λ (r : Request). r.plan) request) (ap (λ (r : Request). r.bound) request)
          (leads_first c.args.model.now c.args.plan.now c.args.bound c.in_ok-simulation.simulation c.in_ok-simulation.ensures _ c.in_ok-to_next_job.ensures.leads);
      ran =
          ran_not (g.S.Stepper.is_of c.args.stepper.now) (g.S.Stepper.records c.args.stepper.now) (g.S.Stepper.address c.args.stepper.now) (g.S.Stepper.opened c.args.stepper.now)
          c.args.steps.now c.args.looks.now (g.S.Stepper.counted c.args.stepper.now);
    }

pub step-requires-clause-before : goal.step-requires-clause-before
step-requires-clause-before g c = c.loop-alloc.invariant.before

pub step-requires-clause-job : goal.step-requires-clause-job
step-requires-clause-job g c = some_left c.loop-alloc.jobs c.len.result c.len.ensures c.loop-alloc-test.true

pub returns-in_err-step-clause-opened : goal.returns-in_err-step-clause-opened
returns-in_err-step-clause-opened g c =
    (ran_on c.loop-alloc.invariant.ran (record {
      models = c.step.ensures.same_models;
      records = c.step.ensures.same_records;
      same_address = c.step.ensures.address;
      rose = c.step.ensures.opened;
      looked = c.step.ensures.looks;
    })).rose

pub loop-alloc-preserved : goal.loop-alloc-preserved
loop-alloc-preserved g c =
    let before = c.loop-alloc.invariant.before in
    let after = c.in_ok-step.ensures.before in
    let request = c.in_ok-step.ensures.request in
    record {
      before = after;
      counted =
          counted_on c.args.model.now c.args.plan.now c.args.bound (g.S.Stepper.records c.args.stepper.now) c.args.steps.now c.args.looks.now
          (engine_state_of c.args.model.now c.loop-alloc.simulation) c.loop-alloc.steps c.loop-alloc.looks c.loop-alloc.invariant.counted
          (λ none. some_left c.loop-alloc.jobs c.len.result c.len.ensures c.loop-alloc-test.true (before.ready ∙ none))
          (engine_state_of c.args.model.now c.step.new.self) c.in_ok-step.ensures.next refl (ap (λ (r : Request). r.plan) request) (ap (λ (r : Request). r.bound) request)
          (stands_there c.args.model.now c.step.new.self after.course after.has_job) (g.S.Stepper.records c.loop-alloc.stepper) c.loop-alloc.invariant.ran.records
          c.step.new.steps c.step.new.looks c.in_ok-step.ensures.frugal c.in_ok-step.ensures.few_looks;
      ran =
          ran_on c.loop-alloc.invariant.ran (record {
            models = c.step.ensures.same_models;
            records = c.step.ensures.same_records;
            same_address = c.step.ensures.address;
            rose = c.step.ensures.opened;
            looked = c.step.ensures.looks;
          });
    }

pub loop-alloc-smaller : goal.loop-alloc-smaller
loop-alloc-smaller g c =
    let before = c.loop-alloc.invariant.before in
    let request = c.in_ok-step.ensures.request in
    counted_less c.args.model.now c.args.plan.now c.args.bound (g.S.Stepper.records c.args.stepper.now) c.args.steps.now c.args.looks.now
    (engine_state_of c.args.model.now c.loop-alloc.simulation) c.loop-alloc.steps c.loop-alloc.looks c.loop-alloc.invariant.counted
    (λ none. some_left c.loop-alloc.jobs c.len.result c.len.ensures c.loop-alloc-test.true (before.ready ∙ none))
    (engine_state_of c.args.model.now c.step.new.self) c.in_ok-step.ensures.next refl (ap (λ (r : Request). r.plan) request) (ap (λ (r : Request). r.bound) request)
    c.what_has_ended_may_be_left_out.ensures.step c.reached_states_are_of_the_model.ensures c.weight_falls.ensures.falls c.cells.ensures.valid

pub into_run-requires-clause-none : goal.into_run-requires-clause-none
into_run-requires-clause-none g c = sym c.loop-alloc.invariant.before.ready ∙ none_left c.loop-alloc.jobs c.len.result c.len.ensures c.loop-alloc-test.false

pub into_run-requires-clause-job : goal.into_run-requires-clause-job
into_run-requires-clause-job g c = c.loop-alloc.invariant.before.has_job

pub returns-clause-fresh : goal.returns-clause-fresh
returns-clause-fresh g c =
    let before = c.loop-alloc.invariant.before in
    run_fresh c.args.model.now c.args.plan.now c.args.bound (g.S.Stepper.records c.args.stepper.now) c.args.steps.now c.args.looks.now
    (engine_state_of c.args.model.now c.loop-alloc.simulation) c.loop-alloc.steps c.loop-alloc.looks c.loop-alloc.invariant.counted c.into_run.result c.into_run.ensures
    (is_fresh (engine_state_of c.args.model.now c.loop-alloc.simulation) (engine_state_of c.args.model.now c.loop-alloc.simulation) c.into_run.result refl
    (stands_there c.args.model.now c.loop-alloc.simulation before.course before.has_job) c.into_run.ensures)

pub returns-clause-frugal : goal.returns-clause-frugal
returns-clause-frugal g c =
    run_pays c.args.model.now c.args.plan.now c.args.bound (g.S.Stepper.records c.args.stepper.now) c.args.steps.now c.args.looks.now
    (engine_state_of c.args.model.now c.loop-alloc.simulation) c.loop-alloc.steps c.loop-alloc.looks c.loop-alloc.invariant.counted c.into_run.result c.into_run.ensures

pub returns-clause-few_looks : goal.returns-clause-few_looks
returns-clause-few_looks g c =
    run_looks c.args.model.now c.args.plan.now c.args.bound (g.S.Stepper.records c.args.stepper.now) c.args.steps.now c.args.looks.now
    (engine_state_of c.args.model.now c.loop-alloc.simulation) c.loop-alloc.steps c.loop-alloc.looks c.loop-alloc.invariant.counted c.into_run.result c.into_run.ensures
