use Rattle.std.proofs.Common.{◌<◌, ◌-◌, ◌∙◌, sym, ap, arith, ◌≢◌, length, subst}
use Rattle.std.proofs.lemmas.Result.{IfOk-weaker}
use Rattle.aerie_base.specs.statements.Places.{left}
use Rattle.run_data.specs.declared.tasks.TaskState.{TaskState}
use Rattle.run_data.specs.StepStates.{starting}
use Rattle.run_data.specs.Steps.{steps}
use Rattle.run_data.specs.TaskStates.{body_of}
use Rattle.run_data.specs.Typed.{AreLeft}
use Rattle.task_step.specs.Ways.{TakesWay}
use Rattle.task_step.proofs.Landing.{over, spent, ends, goes_on, works}
use Rattle.task_step.proofs.Places.{few_cells, room, state_place}
use Rattle.task_step.proofs.Starting.{starts}
use Rattle.task_step.proofs.running.step.Goals as goal

pub start-so_far-requires-clause-few : goal.start-so_far-requires-clause-few
start-so_far-requires-clause-few c = omega (arith, few_cells c.args.model.now c.cells-cells.ensures.valid, ap length c.cells-cells.ensures.value)

pub places-init : goal.places-init
places-init c =
    let first = starts c.args.model.now c.args.job.now c.args.fuel _ c.statements_are_typed.ensures.begins c.cells-cells.ensures.valid c.requires.job (c.start-so_far.ensures ∙ (λ i. starting (c.get.ensures i) ((c.in_ok-locals.ensures ∙ ap (λ (s : TaskState). s.locals) c.get-state.ensures) i))) in
    let kind = c.args.job.now.state.kind in
    record {
      place = subst (λ (s : TaskState). s.at < length c.args.code.now) (sym c.get-state.ensures)
          (state_place c.args.model.now c.args.job.now.state c.args.code.now c.states_stand_in_bodies.ensures.places c.requires.job.state c.requires.code);
      same = first.same
          ∙ ap (λ (s : TaskState). steps kind (c.args.fuel - c.start-so_far.result.cost) (left (body_of c.args.model.now kind) s.at) c.start-so_far.result) (sym c.get-state.ensures);
      paid = first.paid;
      few = first.few;
      left_there = subst (λ (s : TaskState). AreLeft c.args.model.now kind (left (body_of c.args.model.now kind) s.at) c.start-so_far.result.locals) (sym c.get-state.ensures) first.left_there;
      cells = first.cells;
    }

pub returns-then-is_end-clause-frame : goal.returns-then-is_end-clause-frame
returns-then-is_end-clause-frame c =
    IfOk-weaker c.finish.result _ _
    (λ frame is. over c.args.model.now c.args.code.now c.args.job.now _ _ _ _ c.requires.code c.places.invariant.same (rw c.get-state.ensures at c.land-here.ensures.left) frame (sym c.is_end.ensures ∙ c.if-is_end.true) is)
    c.finish.ensures.frame

pub returns-then-cost-fuel-clause-fuel : goal.returns-then-cost-fuel-clause-fuel
returns-then-cost-fuel-clause-fuel c =
    λ _. spent c.args.model.now c.args.code.now c.args.job.now _ _ _ _ c.requires.code c.places.invariant.same (rw c.get-state.ensures at c.land-here.ensures.left) c.land-here.ensures.place c.land-here.ensures.solid (sym c.is_end.ensures ∙ c.if-is_end.false) (sym c.cost.ensures ∙ c.if-cost-fuel.true)

pub take-requires-clause-room : goal.take-requires-clause-room
take-requires-clause-room c = room c.args.model.now c.args.job.now.state.kind c.args.code.now c.states_stand_in_bodies.ensures.few c.cells-cells.ensures.valid c.requires.code

pub take-requires-clause-works : goal.take-requires-clause-works
take-requires-clause-works c = works _ _ c.land-here.ensures.place c.land-here.ensures.solid (sym c.is_end.ensures ∙ c.if-is_end.false)

pub places-preserved : goal.places-preserved
places-preserved c =
    let g = rw c.get-state.ensures at (subst (λ way. TakesWay c.args.model.now c.args.code.now c.get-state.result.now.kind c.land-here.result c.places.so_far way c.take.new.so_far) c.in-Onward.is c.in_ok-to.ensures) in
    let i = c.places.invariant in
    let ne : c.places.so_far.cost ≢ c.args.fuel = omega (arith, c.cost.ensures, c.if-cost-fuel.false) in
    record {
      place = g.place;
      same = goes_on c.args.model.now c.args.code.now c.args.job.now _ _ _ _ c.requires.code i.same (rw c.get-state.ensures at c.land-here.ensures.left) _ _ i.paid ne g;
      paid = omega (arith, i.paid, g.cost, ne);
      few = omega (arith, i.few, g.cost, g.items);
      left_there = g.left_there;
      cells = g.cells;
    }

pub returns-in-Ended-clause-frame : goal.returns-in-Ended-clause-frame
returns-in-Ended-clause-frame c =
    let g = rw c.get-state.ensures at (subst (λ way. TakesWay c.args.model.now c.args.code.now c.get-state.result.now.kind c.land-here.result c.places.so_far way c.take.new.so_far) c.in-Ended.is c.in_ok-to.ensures) in
    let i = c.places.invariant in
    let ne : c.places.so_far.cost ≢ c.args.fuel = omega (arith, c.cost.ensures, c.if-cost-fuel.false) in
    IfOk-weaker c.finish-in-Ended.result _ _
    (λ frame is. ends c.args.model.now c.args.code.now c.args.job.now _ _ _ _ c.requires.code i.same (rw c.get-state.ensures at c.land-here.ensures.left) frame _ _ i.paid ne g is)
    c.finish-in-Ended.ensures.frame
