use Rattle.std.proofs.Common.{◌≡◌, ◌∙◌, List, [], ◌++◌, IfSome, length, sym, ap, subst}
use Rattle.std.proofs.lemmas.Bool.{eqb-false}
use Rattle.aerie_base.specs.declared.models.model.Parts.{Parts}
use Rattle.aerie_base.specs.declared.plans.Plan.{Plan}
use Rattle.aerie_base.specs.plans.OfModel.{IsPlanOf}
use Rattle.run_data.specs.TaskFrames.{Frame}
use Rattle.run_data.specs.declared.runs.Instant.{Instant}
use Rattle.run_data.specs.declared.runs.Run.{Run}
use Rattle.run_data.specs.Counts.{rose_not}
use Rattle.run_data.specs.Fresh.{IsFresh}
use Rattle.run_data.specs.laws.Rising.{RiseFromStart}
use Rattle.engine_core.specs.EngineStates.{batches_in, instants_in, jobs_in}
use Rattle.fitting.specs.Fitting.{IsOldBatch}
use Rattle.resimulate.specs.OldBatches.{batch_at, batch_of, instant_at_time}
use Rattle.engine_core.specs.BatchRuns.{ran_on}
use Rattle.engine_core.specs.EnginePoints.{some_job, ran_not}
use Rattle.resimulate.specs.Bookmarks.{IsMarked}
use Rattle.resimulate.specs.EarlyEnds.{IsRest}
use Rattle.resimulate.specs.Partings.{AreSameOutside, PartsBy}
use Rattle.resimulate.specs.SharedEnds.{SharesEnds}
use Rattle.resimulate.proofs.CommonDirectives.{same_outside}
use Rattle.resimulate.proofs.EarlyEnds.{ended_fresh, ended_pays, ended_looks}
use Rattle.resimulate.proofs.EndsInCommon.{shares_nothing}
use Rattle.resimulate.proofs.Looping.{beside_first, beside_on, beside_less}
use Rattle.resimulate.proofs.OldBatches.{old_batches_are, beside_is}
use Rattle.resimulate.proofs.walk.resimulate_sharing.Goals as goal

pub returns-in_err-engine-clause-opened : goal.returns-in_err-engine-clause-opened
returns-in_err-engine-clause-opened g c = rose_not (g.S.Stepper.opened c.args.stepper.now) c.args.steps.now (g.S.Stepper.counted c.args.stepper.now)

pub loop-run-init : goal.loop-run-init
loop-run-init g c = record {
  beside =
      beside_first c.args.model.now c.args.plan.now c.args.bound c.args.old.now.run (g.S.Stepper.records c.args.stepper.now) c.args.steps.now c.args.looks.now c.in_ok-engine.field-0.engine
      c.in_ok-engine.ensures.engine;
  marks = c.spread.ensures ∙ c.in_ok-engine.ensures.marks;
  late = subst (λ (r : Run). IfSome c.in_ok-engine.field-0.late (IsMarked c.args.model.now r.plan r.bound)) c.run-run.ensures.value c.in_ok-engine.ensures.late;
  cursor = c.new-cursor.ensures ∙ c.as_slice-instants.ensures ∙ ap (λ (r : Run). r.instants) c.run-run.ensures.value;
  ran =
      ran_not (g.S.Stepper.is_of c.args.stepper.now) (g.S.Stepper.records c.args.stepper.now) (g.S.Stepper.address c.args.stepper.now) (g.S.Stepper.opened c.args.stepper.now)
      c.args.steps.now c.args.looks.now (g.S.Stepper.counted c.args.stepper.now);
}

pub go_to-requires : goal.go_to-requires
go_to-requires g c =
    let old = c.args.old.now.run in
    subst RiseFromStart (sym c.loop-run.invariant.cursor) (c.instants_rise.ensures.rise c.args.old.now.model old.plan old.bound old c.run-run.ensures.fresh)

pub next_batch-requires-clause-old : goal.next_batch-requires-clause-old
next_batch-requires-clause-old g c =
    let old = c.args.old.now.run in
    let place = length c.batches.result.now in
    let here = c.go_to.ensures.here ∙ ap (instant_at_time c.time.result) c.loop-run.invariant.cursor in
    beside_is (λ frames. frames.now) (IsOldBatch c.args.model.now) c.batch-beside.result (batch_at c.time.result place old.instants) (c.batch-beside.ensures ∙ ap (batch_of place) here)
    (λ frames there.
    subst (λ (m : Parts). IsOldBatch m frames) c.requires.old
    (old_batches_are c.fresh_runs.ensures.frames c.fresh_runs.ensures.batches c.args.old.now.model old.plan old.bound old c.run-run.ensures.fresh c.time.result place frames there))

pub returns-in_err-engine-2-clause-opened : goal.returns-in_err-engine-2-clause-opened
returns-in_err-engine-2-clause-opened g c = (ran_on c.loop-run.invariant.ran c.next_batch.ensures.ran).rose

pub loop-run-preserved : goal.loop-run-preserved
loop-run-preserved g c =
    let old = c.args.old.now.run in
    let here = c.go_to.ensures.here ∙ ap (instant_at_time c.time.result) c.loop-run.invariant.cursor in
    let rise = c.instants_rise.ensures.rise c.args.old.now.model old.plan old.bound old c.run-run.ensures.fresh in
    let many = ap (λ (l : List (List Frame)). length l) c.batches.ensures in
    let some = some_job (jobs_in c.loop-run.engine.point) c.ready.result.now c.ready.ensures.jobs (eqb-false _ 0 (sym c.is_empty.ensures ∙ c.loop-run-test.true)) in
    record {
      beside =
          beside_on c.args.model.now c.args.plan.now c.args.bound old (g.S.Stepper.records c.args.stepper.now) c.args.steps.now c.args.looks.now c.loop-run.engine c.loop-run.steps c.loop-run.looks
          c.loop-run.invariant.beside some c.in_ok-engine-2.engine _ (g.S.Stepper.records c.loop-run.stepper) c.loop-run.invariant.ran.records c.next_batch.new.steps c.next_batch.new.looks
          c.in_ok-engine-2.ensures.goes_on rise (c.batch-beside.ensures ∙ ap (batch_of (length c.batches.result.now)) here ∙ (λ i. batch_at (c.time.ensures i) (many i) old.instants));
      marks = c.note.ensures ∙ c.loop-run.invariant.marks;
      late = c.loop-run.invariant.late;
      cursor = c.go_to.ensures.instants ∙ c.loop-run.invariant.cursor;
      ran = ran_on c.loop-run.invariant.ran c.next_batch.ensures.ran;
    }

pub loop-run-smaller : goal.loop-run-smaller
loop-run-smaller g c =
    let some = some_job (jobs_in c.loop-run.engine.point) c.ready.result.now c.ready.ensures.jobs (eqb-false _ 0 (sym c.is_empty.ensures ∙ c.loop-run-test.true)) in
    beside_less c.args.model.now c.args.plan.now c.args.bound c.args.old.now.run (g.S.Stepper.records c.args.stepper.now) c.args.steps.now c.args.looks.now c.loop-run.engine c.loop-run.steps
    c.loop-run.looks c.loop-run.invariant.beside some c.in_ok-engine-2.engine _ (g.S.Stepper.records c.loop-run.stepper) c.loop-run.invariant.ran.records c.next_batch.new.steps
    c.next_batch.new.looks c.in_ok-engine-2.ensures.goes_on
    c.what_has_ended_may_be_left_out.ensures.step c.reached_states_are_of_the_model.ensures c.weight_falls.ensures.falls c.cells.ensures.valid

-- ---- the rest of the old run

pub rest_if_due-requires-clause-plan : goal.rest_if_due-requires-clause-plan
rest_if_due-requires-clause-plan g c = c.loop-run.invariant.beside.same_plan ∙ sym c.get-planned.ensures

pub rest_if_due-requires-clause-fresh : goal.rest_if_due-requires-clause-fresh
rest_if_due-requires-clause-fresh g c =
    let old = c.args.old.now.run in
    subst (λ (r : Run). IsFresh c.args.model.now r.plan r.bound r) (sym c.run-run.ensures.value)
    (subst (λ (m : Parts). IsFresh m old.plan old.bound old) c.requires.old c.run-run.ensures.fresh)

pub rest_if_due-requires-clause-old_plan : goal.rest_if_due-requires-clause-old_plan
rest_if_due-requires-clause-old_plan g c =
    subst (λ (r : Run). IsPlanOf c.args.model.now r.plan) (sym c.run-run.ensures.value)
    (subst (λ (m : Parts). IsPlanOf m c.args.old.now.run.plan) c.requires.old c.run-run.ensures.plan)

pub rest_if_due-requires-clause-may : goal.rest_if_due-requires-clause-may
rest_if_due-requires-clause-may g c = c.may_end_from-may_end.ensures

pub may_end_from-may_end-requires-clause-parting : goal.may_end_from-may_end-requires-clause-parting
may_end_from-may_end-requires-clause-parting g c =
    subst (λ (p : Plan). PartsBy c.get-planned.result.now p c.parting_of-parting.result) c.get.ensures c.parting_of-parting.ensures

pub rest_if_due-requires-clause-outside : goal.rest_if_due-requires-clause-outside
rest_if_due-requires-clause-outside g c =
    subst (λ (p : Plan). AreSameOutside c.get-planned.result.now p c.parting_of-parting.result) c.get.ensures
    (same_outside c.get-planned.result.now c.get.result.now c.parting_of-parting.result c.parting_of-parting.ensures)

pub may_end_from-may_end-requires-clause-plan : goal.may_end_from-may_end-requires-clause-plan
may_end_from-may_end-requires-clause-plan g c = subst (IsPlanOf c.args.model.now) (sym c.get-planned.ensures) c.requires.plan

pub may_end_from-may_end-requires-clause-fresh : goal.may_end_from-may_end-requires-clause-fresh
may_end_from-may_end-requires-clause-fresh g c =
    let old = c.args.old.now.run in
    subst (λ (r : Run). IsFresh c.args.model.now r.plan r.bound r) (sym c.run-run.ensures.value)
    (subst (λ (m : Parts). IsFresh m old.plan old.bound old) c.requires.old c.run-run.ensures.fresh)

pub may_end_from-may_end-requires-clause-old_plan : goal.may_end_from-may_end-requires-clause-old_plan
may_end_from-may_end-requires-clause-old_plan g c =
    subst (λ (r : Run). IsPlanOf c.args.model.now r.plan) (sym c.run-run.ensures.value)
    (subst (λ (m : Parts). IsPlanOf m c.args.old.now.run.plan) c.requires.old c.run-run.ensures.plan)

pub returns-in_err-ending-clause-opened : goal.returns-in_err-ending-clause-opened
returns-in_err-ending-clause-opened g c = c.loop-run.invariant.ran.rose

pub returns-in_err-ended-clause-opened : goal.returns-in_err-ended-clause-opened
returns-in_err-ended-clause-opened g c = c.loop-run.invariant.ran.rose

pub returns-in-Some-clause-fresh : goal.returns-in-Some-clause-fresh
returns-in-Some-clause-fresh g c =
    ended_fresh c.args.model.now c.args.plan.now c.args.bound c.args.old.now.run (g.S.Stepper.records c.args.stepper.now) c.args.steps.now c.args.looks.now c.loop-run.engine c.loop-run.steps
    c.loop-run.looks c.loop-run.invariant.beside c.in-Some.ending.rest.now c.in_ok-ended.ended c.in_ok-ended.ensures
    (subst (λ (p : Plan). IsRest c.args.model.now p c.args.bound c.loop-run.engine c.in-Some.ending.rest.now) c.get-planned.ensures (subst (λ found. IfSome found (λ it. IsRest c.args.model.now c.get-planned.result.now c.args.bound c.loop-run.engine it.rest.now)) c.in-Some.is c.in_ok-ending.ensures.rest))

pub returns-in-Some-clause-frugal : goal.returns-in-Some-clause-frugal
returns-in-Some-clause-frugal g c =
    let some = some_job (jobs_in c.loop-run.engine.point) c.ready.result.now c.ready.ensures.jobs (eqb-false _ 0 (sym c.is_empty.ensures ∙ c.loop-run-test.true)) in
    ended_pays c.args.model.now c.args.plan.now c.args.bound c.args.old.now.run (g.S.Stepper.records c.args.stepper.now) c.args.steps.now c.args.looks.now c.loop-run.engine c.loop-run.steps
    c.loop-run.looks c.loop-run.invariant.beside c.in-Some.ending.rest.now c.in_ok-ended.ended c.in_ok-ended.ensures some (subst (λ found. IfSome found (λ it. batches_in c.loop-run.engine.point ≡ [])) c.in-Some.is c.in_ok-ending.ensures.begins)

pub returns-in-Some-clause-few_looks : goal.returns-in-Some-clause-few_looks
returns-in-Some-clause-few_looks g c =
    let some = some_job (jobs_in c.loop-run.engine.point) c.ready.result.now c.ready.ensures.jobs (eqb-false _ 0 (sym c.is_empty.ensures ∙ c.loop-run-test.true)) in
    ended_looks c.args.model.now c.args.plan.now c.args.bound c.args.old.now.run (g.S.Stepper.records c.args.stepper.now) c.args.steps.now c.args.looks.now c.loop-run.engine c.loop-run.steps
    c.loop-run.looks c.loop-run.invariant.beside c.in-Some.ending.rest.now c.in_ok-ended.ended c.in_ok-ended.ensures some (subst (λ found. IfSome found (λ it. batches_in c.loop-run.engine.point ≡ [])) c.in-Some.is c.in_ok-ending.ensures.begins)

-- ---- what both have in common

pub returns-in-Some-clause-shares : goal.returns-in-Some-clause-shares
returns-in-Some-clause-shares g c =
    let old = c.args.old.now.run in
    let rest = c.in-Some.ending.rest.now in
    let first = c.in-Some.ending.first in
    let ended = c.in_ok-ended.ended in
    let whole = instants_in c.loop-run.engine.point ++ rest in
    let shares : SharesEnds c.run-run.result.now.instants whole first (length rest) =
    subst (λ found. IfSome found (λ it. SharesEnds c.run-run.result.now.instants (instants_in c.loop-run.engine.point ++ it.rest.now) it.first (length it.rest.now))) c.in-Some.is
    c.in_ok-ending.ensures.shares in
    subst (λ (l : List Instant). SharesEnds old.instants l first (length rest)) (sym (ap (λ (r : Run). r.instants) c.in_ok-ended.ensures))
    (subst (λ (r : Run). SharesEnds r.instants whole first (length rest)) c.run-run.ensures.value shares)

pub returns-clause-shares : goal.returns-clause-shares
returns-clause-shares g c = shares_nothing c.args.old.now.run.instants c.finish-made.result.instants

-- ---- the bookmarks of the old run

pub follow-requires-clause-late : goal.follow-requires-clause-late
follow-requires-clause-late g c =
    let old = c.args.old.now.run in
    subst (λ (r : Run). IsMarked c.args.model.now r.plan r.bound c.in-Some-take.late) (sym c.run-run.ensures.value)
    (subst (λ found. IfSome found (IsMarked c.args.model.now old.plan old.bound)) c.in-Some-take.is
    (subst (λ found. IfSome found (IsMarked c.args.model.now old.plan old.bound)) (sym c.take.ensures.value) c.loop-run.invariant.late))

-- ---- the stepper

pub returns-in_err-engine-2-clause-same_models : goal.returns-in_err-engine-2-clause-same_models
returns-in_err-engine-2-clause-same_models g c = (ran_on c.loop-run.invariant.ran c.next_batch.ensures.ran).models
