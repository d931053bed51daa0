use Rattle.std.proofs.Common.{◌∙◌, IsTrue, sym, subst}
use Rattle.std.proofs.lemmas.Bool.{eqb-false, eqb-true}
use Rattle.aerie_base.specs.declared.models.model.Parts.{Parts}
use Rattle.aerie_base.specs.models.ValidModel.{valid_model}
use Rattle.run_data.specs.Counts.{rose_not}
use Rattle.engine_core.specs.BatchRuns.{ran_on}
use Rattle.engine_core.specs.EngineStates.{jobs_in}
use Rattle.engine_core.specs.EnginePoints.{no_job, some_job, ran_not}
use Rattle.resimulate.specs.Bookmarks.{IsEngineOf, IsMarked}
use Rattle.resimulate.proofs.MarkLists.{engine_in}
use Rattle.resimulate.proofs.NothingOld.{no_instants, alone_on, alone_less, alone_pays, alone_looks}
use Rattle.resimulate.proofs.Looping.{beside_first}
use Rattle.resimulate.proofs.alone.simulate_with_bookmarks.Goals as goal

pub returns-in_err-engine-clause-opened : goal.returns-in_err-engine-clause-opened
returns-in_err-engine-clause-opened g c = rose_not (g.S.Stepper.opened c.args.stepper.now) c.args.steps.now (g.S.Stepper.counted c.args.stepper.now)

pub loop-alloc-init : goal.loop-alloc-init
loop-alloc-init g c = record {
  alone =
      beside_first c.args.model.now c.args.plan.now c.args.bound (no_instants c.args.plan.now) (g.S.Stepper.records c.args.stepper.now) c.args.steps.now c.args.looks.now c.in_ok-engine.field-0.engine
      (subst (λ (m : Parts). IsEngineOf m c.args.plan.now c.args.bound c.in_ok-engine.field-0.engine) c.get-2.ensures c.in_ok-engine.ensures.engine);
  marks = subst (λ (m : Parts). IsMarked m c.args.plan.now c.args.bound c.in_ok-engine.field-0.marks) c.get-2.ensures c.in_ok-engine.ensures.marks;
  ran =
      ran_not (g.S.Stepper.is_of c.args.stepper.now) (g.S.Stepper.records c.args.stepper.now) (g.S.Stepper.address c.args.stepper.now) (g.S.Stepper.opened c.args.stepper.now)
      c.args.steps.now c.args.looks.now (g.S.Stepper.counted c.args.stepper.now);
}

pub note_if_paid_for-requires-clause-of : goal.note_if_paid_for-requires-clause-of
note_if_paid_for-requires-clause-of g c =
    engine_in c.args.model.now c.args.plan.now c.args.bound c.loop-alloc.marks c.loop-alloc.engine c.loop-alloc.invariant.marks c.loop-alloc.invariant.alone.same_model
    c.loop-alloc.invariant.alone.same_plan c.loop-alloc.invariant.alone.same_bound

pub finish-requires : goal.finish-requires
finish-requires g c = no_job (jobs_in c.loop-alloc.engine.point) c.ready.result.now c.ready.ensures.jobs (eqb-true _ 0 (sym c.is_empty.ensures ∙ c.loop-alloc-test.false))

pub returns-in_err-engine-2-clause-same_models : goal.returns-in_err-engine-2-clause-same_models
returns-in_err-engine-2-clause-same_models g c =
    (ran_on c.loop-alloc.invariant.ran (record {
      models = c.step.ensures.same_models;
      records = c.step.ensures.same_records;
      same_address = c.step.ensures.address;
      rose = c.step.ensures.opened;
      looked = c.step.ensures.looks;
    })).models

pub step-requires-clause-stepper : goal.step-requires-clause-stepper
step-requires-clause-stepper g c =
    subst (g.S.Stepper.is_of c.loop-alloc.stepper) (sym c.loop-alloc.invariant.alone.same_model) ((c.loop-alloc.invariant.ran.models c.args.model.now).0 c.requires.stepper)

pub returns-in_err-engine-2-clause-opened : goal.returns-in_err-engine-2-clause-opened
returns-in_err-engine-2-clause-opened g c =
    (ran_on c.loop-alloc.invariant.ran (record {
      models = c.step.ensures.same_models;
      records = c.step.ensures.same_records;
      same_address = c.step.ensures.address;
      rose = c.step.ensures.opened;
      looked = c.step.ensures.looks;
    })).rose

pub loop-alloc-preserved : goal.loop-alloc-preserved
loop-alloc-preserved g c =
    let some = some_job (jobs_in c.loop-alloc.engine.point) c.ready.result.now c.ready.ensures.jobs (eqb-false _ 0 (sym c.is_empty.ensures ∙ c.loop-alloc-test.true)) in
    let after = c.in_ok-engine-2.ensures in
    record {
      alone =
          alone_on c.args.model.now c.args.plan.now c.args.bound (g.S.Stepper.records c.args.stepper.now) c.args.steps.now c.args.looks.now c.loop-alloc.engine c.loop-alloc.steps
          c.loop-alloc.looks c.loop-alloc.invariant.alone some c.in_ok-engine-2.engine after.model after.plan after.bound after.stands after.next (g.S.Stepper.records c.loop-alloc.stepper)
          c.loop-alloc.invariant.ran.records c.step.new.steps c.step.new.looks after.frugal after.few_looks;
      marks = c.note_if_paid_for.ensures ∙ c.loop-alloc.invariant.marks;
      ran =
          ran_on c.loop-alloc.invariant.ran (record {
            models = c.step.ensures.same_models;
            records = c.step.ensures.same_records;
            same_address = c.step.ensures.address;
            rose = c.step.ensures.opened;
            looked = c.step.ensures.looks;
          });
    }

pub loop-alloc-smaller : goal.loop-alloc-smaller
loop-alloc-smaller g c =
    let some = some_job (jobs_in c.loop-alloc.engine.point) c.ready.result.now c.ready.ensures.jobs (eqb-false _ 0 (sym c.is_empty.ensures ∙ c.loop-alloc-test.true)) in
    let after = c.in_ok-engine-2.ensures in
    alone_less c.args.model.now c.args.plan.now c.args.bound (g.S.Stepper.records c.args.stepper.now) c.args.steps.now c.args.looks.now c.loop-alloc.engine c.loop-alloc.steps
    c.loop-alloc.looks c.loop-alloc.invariant.alone some c.in_ok-engine-2.engine after.model after.plan after.bound after.stands after.next (g.S.Stepper.records c.loop-alloc.stepper)
    c.loop-alloc.invariant.ran.records c.step.new.steps c.step.new.looks after.frugal after.few_looks
    c.what_has_ended_may_be_left_out.ensures.step c.reached_states_are_of_the_model.ensures c.weight_falls.ensures.falls
    (subst (λ (m : Parts). IsTrue (valid_model m)) c.get.ensures c.cells.ensures.valid)

pub returns-clause-frugal : goal.returns-clause-frugal
returns-clause-frugal g c =
    alone_pays c.args.model.now c.args.plan.now c.args.bound (g.S.Stepper.records c.args.stepper.now) c.args.steps.now c.args.looks.now c.loop-alloc.engine c.loop-alloc.steps
    c.loop-alloc.looks c.loop-alloc.invariant.alone c.finish.result c.finish.ensures.point

pub returns-clause-few_looks : goal.returns-clause-few_looks
returns-clause-few_looks g c =
    alone_looks c.args.model.now c.args.plan.now c.args.bound (g.S.Stepper.records c.args.stepper.now) c.args.steps.now c.args.looks.now c.loop-alloc.engine c.loop-alloc.steps
    c.loop-alloc.looks c.loop-alloc.invariant.alone c.finish.result c.finish.ensures.point
