use Rattle.std.proofs.Common.{◌∙◌, ap, sym, subst}
use Rattle.std.proofs.Common.{Option, ℕ, OnOk}
use Rattle.run_data.specs.Fresh.{moved, below, least_due}
use Rattle.run_data.specs.laws.PrunedStates.{pruned_point}
use Rattle.live_tasks.specs.InStep.{table_in}
use Rattle.live_tasks.specs.Waking.{AreFound}
use Rattle.engine_core.specs.Passing.{GoesOnFrom}
use Rattle.engine_core.specs.Simulations.{state_of, StandsAt}
use Rattle.engine_core.proofs.simulation.Simulation.move_on.Goals as goal

pub next_time-requires-clause-in_step : goal.next_time-requires-clause-in_step
next_time-requires-clause-in_step c = c.requires.open.in_step

pub next_time-requires-clause-found : goal.next_time-requires-clause-found
next_time-requires-clause-found c =
    subst (λ end. AreFound c.args.self.now.present.time end c.args.self.now.present.cells c.args.self.now.present.tasks) (sym c.end-end.ensures) c.requires.open.found

pub move_to-requires-clause-next : goal.move_to-requires-clause-next
move_to-requires-clause-next c =
    let due = c.next_time.ensures ∙ ap (λ end. below end (least_due c.args.self.now.present.time end c.args.self.now.present.cells (table_in c.args.self.now.present.tasks))) c.end-end.ensures in
    sym c.in-Some.is ∙ due

pub move_to-requires-clause-onward : goal.move_to-requires-clause-onward
move_to-requires-clause-onward c =
    let due = c.next_time.ensures ∙ ap (λ end. below end (least_due c.args.self.now.present.time end c.args.self.now.present.cells (table_in c.args.self.now.present.tasks))) c.end-end.ensures in
    subst (λ (o : Option ℕ). GoesOnFrom c.args.self.now.present.time (pruned_point (moved c.args.model.now c.args.self.now.request.plan c.args.self.now.request.bound (state_of c.args.self.now.history c.args.self.now.present) o)))
    (sym due ∙ c.in-Some.is) c.requires.onward

pub returns-in-Some : goal.returns-in-Some
returns-in-Some c =
    let due = c.next_time.ensures ∙ ap (λ end. below end (least_due c.args.self.now.present.time end c.args.self.now.present.cells (table_in c.args.self.now.present.tasks))) c.end-end.ensures in
    subst (λ (o : Option ℕ). OnOk c.move_to.result (StandsAt c.args.self.now.request
    (pruned_point (moved c.args.model.now c.args.self.now.request.plan c.args.self.now.request.bound (state_of c.args.self.now.history c.args.self.now.present) o)) c.move_to.new.self))
    (sym c.in-Some.is ∙ due) c.move_to.ensures

pub returns-in-None : goal.returns-in-None
returns-in-None c =
    let due = c.next_time.ensures ∙ ap (λ end. below end (least_due c.args.self.now.present.time end c.args.self.now.present.cells (table_in c.args.self.now.present.tasks))) c.end-end.ensures in
    subst (λ (o : Option ℕ). OnOk c.move_to_end.result (StandsAt c.args.self.now.request
    (pruned_point (moved c.args.model.now c.args.self.now.request.plan c.args.self.now.request.bound (state_of c.args.self.now.history c.args.self.now.present) o)) c.move_to_end.new.self))
    (sym c.in-None.is ∙ due) c.move_to_end.ensures
