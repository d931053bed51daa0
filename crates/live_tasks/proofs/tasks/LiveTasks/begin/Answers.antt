use Rattle.std.proofs.Common.{◌≡◌, ◌∙◌, [], List, length, ap, sym, subst, arith}
use Rattle.aerie_base.specs.declared.models.Daemon.{Daemon}
use Rattle.aerie_base.specs.plans.OfModel.{Rise}
use Rattle.run_data.specs.Fresh.{start}
use Rattle.run_data.specs.Tasks.{with_directives, with_daemons, on_each, rested}
use Rattle.run_data.specs.Transitions.{begins}
use Rattle.run_data.specs.laws.LiveParts.{live}
use Rattle.live_tasks.specs.PlannedTasks.{ArePlanned}
use Rattle.live_tasks.specs.InStep.{table_in}
use Rattle.live_tasks.proofs.LiveItself.{live_itself}
use Rattle.live_tasks.proofs.PlannedAll.{none_there, none_planned, few_daemons, not_before_start, planned_table, planned_in_step}
use Rattle.live_tasks.proofs.tasks.LiveTasks.begin.Goals as goal

pub plan_daemons-requires-clause-few : goal.plan_daemons-requires-clause-few
plan_daemons-requires-clause-few c =
    let few = few_daemons c.args.model.now c.cells.ensures.valid in
    let same = ap (λ (l : List Daemon). length l) c.daemons.ensures.value in
    omega (arith, few, same)

pub plan_daemons-requires-clause-none : goal.plan_daemons-requires-clause-none
plan_daemons-requires-clause-none c = none_there c.in_ok-tasks.tasks c.in_ok-tasks.ensures.slots

pub plan_directives-requires-clause-ids : goal.plan_directives-requires-clause-ids
plan_directives-requires-clause-ids c = subst Rise (sym c.as_slice.ensures) (c.args.plan.now.next_id, c.requires.ids)

pub rest-requires-clause-in_step : goal.rest-requires-clause-in_step
rest-requires-clause-in_step c =
    let model = c.args.model.now in
    let plan = c.args.plan.now in
    let planned = c.in_ok-settle_plan.ensures.planned _ (c.in_ok-plan_directives.ensures.planned _ (c.in_ok-plan_daemons.ensures.planned [] (none_planned c.in_ok-tasks.tasks c.in_ok-tasks.ensures.slots c.in_ok-tasks.ensures.listed))) in
    let whole = subst (λ t. ArePlanned t c.settle_plan.new.self) (λ i. with_directives model (c.as_slice.ensures i) (with_daemons 0 (c.daemons.ensures.value i) [])) planned in
    planned_in_step (with_directives model plan.directives (with_daemons 0 model.daemons [])) c.settle_plan.new.self whole (c.reached_states_are_quiet.ensures model plan 0 (start model plan) c.requires begins)
    c.in_ok-settle_plan.ensures.by_id
    (c.in_ok-settle_plan.ensures.listed
    (c.in_ok-plan_directives.ensures.planned _ (c.in_ok-plan_daemons.ensures.planned [] (none_planned c.in_ok-tasks.tasks c.in_ok-tasks.ensures.slots c.in_ok-tasks.ensures.listed))).listed)

pub rest-requires-clause-due : goal.rest-requires-clause-due
rest-requires-clause-due c = not_before_start c.zero.result c.zero.ensures _

pub returns-clause-table : goal.returns-clause-table
returns-clause-table c =
    let model = c.args.model.now in
    let plan = c.args.plan.now in
    let planned = c.in_ok-settle_plan.ensures.planned _ (c.in_ok-plan_directives.ensures.planned _ (c.in_ok-plan_daemons.ensures.planned [] (none_planned c.in_ok-tasks.tasks c.in_ok-tasks.ensures.slots c.in_ok-tasks.ensures.listed))) in
    let whole = subst (λ t. ArePlanned t c.settle_plan.new.self) (λ i. with_directives model (c.as_slice.ensures i) (with_daemons 0 (c.daemons.ensures.value i) [])) planned in
    let is =
    planned_table (with_directives model plan.directives (with_daemons 0 model.daemons [])) c.settle_plan.new.self whole (c.reached_states_are_quiet.ensures model plan 0 (start model plan) c.requires begins) in
    let same : table_in c.rest.new.self ≡ (start model plan).table = c.in_ok-rest.ensures.table ∙ (λ i. on_each (rested (c.zero.ensures i)) (is i)) in
    sym (live_itself (table_in c.rest.new.self) c.rest.new.self.tables.slots.slots c.in_ok-rest.ensures.in_step.live_) ∙ ap live same

pub returns-clause-kept : goal.returns-clause-kept
returns-clause-kept c = λ horizon cells long.
    c.in_ok-rest.ensures.waits 0 horizon cells
    (c.in_ok-settle_plan.ensures.waits 0 horizon cells
    (c.in_ok-plan_directives.ensures.waits 0 horizon cells
    (c.in_ok-plan_daemons.ensures.waits 0 horizon cells
    (c.in_ok-tasks.ensures.waits 0 horizon cells (long ∙ sym (ap length c.cells.ensures.value))))))
