use Rattle.std.proofs.Common.{List, ℕ, ◌∙◌, inl, sym, ap, subst}
use Rattle.run_data.specs.TaskStates.{activity_begun}
use Rattle.run_data.specs.Tasks.{Task}
use Rattle.live_tasks.specs.PlannedTasks.{directive_task, IsPlannedBy, Plans}
use Rattle.live_tasks.proofs.PlannedOne.{planned_by}
use Rattle.live_tasks.proofs.PlannedAll.{directive_is}
use Rattle.live_tasks.proofs.tasks.LiveTasks.plan_directive.Goals as goal

pub plan-requires-clause-path : goal.plan-requires-clause-path
plan-requires-clause-path c = inl (c.args.directive.now.id, c.in_ok-path.ensures)

pub plan-requires-clause-begun : goal.plan-requires-clause-begun
plan-requires-clause-begun c = ap (λ (t : Task). t.begun) c.planned.ensures

pub plan-requires-clause-phase : goal.plan-requires-clause-phase
plan-requires-clause-phase c =
    subst (λ (t : Task). IsPlannedBy c.args.directive.now.anchor t.phase) (sym c.planned.ensures) (planned_by c.args.directive.now.anchor c.args.directive.now.start c.in_ok-state.state)

pub returns-clause-planned : goal.returns-clause-planned
returns-clause-planned c =
    subst (λ (p : List ℕ). Plans p (directive_task c.args.model.now c.args.directive.now) c.args.self.now c.plan.new.self) c.in_ok-path.ensures
    (subst (λ (t : Task). Plans c.in_ok-path.path t c.args.self.now c.plan.new.self)
    (directive_is c.args.model.now c.args.directive.now c.in_ok-state.state c.planned.result (c.in_ok-state.ensures ∙ ap (activity_begun c.args.model.now c.args.directive.now.kind) c.as_slice.ensures) c.planned.ensures)
    c.in_ok-plan.ensures.planned)
