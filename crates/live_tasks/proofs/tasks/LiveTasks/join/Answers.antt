use Rattle.std.proofs.Common.{inl, refl, sym, ap, subst, None}
use Rattle.run_data.specs.TaskStates.{activity_begun}
use Rattle.live_tasks.specs.declared.slots.Slot.{Slot}
use Rattle.live_tasks.specs.declared.tasks.LiveTasks.{LiveTasks}
use Rattle.live_tasks.specs.Joining.{IsJoinedBy}
use Rattle.live_tasks.specs.PlannedTasks.{IsPlannedBy}
use Rattle.live_tasks.specs.Slots.{IsRoot}
use Rattle.live_tasks.proofs.JoinedTasks.{alone_by, joins_one}
use Rattle.live_tasks.proofs.tasks.LiveTasks.join.Goals as goal

pub returns-clause-joined : goal.returns-clause-joined
returns-clause-joined c =
    let after : LiveTasks = record c.args.self.now { tables = c.insert.new.self } in
    let directive = c.args.directive.now in
    subst (λ (s : Slot). IsJoinedBy s.path s.task c.args.self.now after) c.in_ok-slot.ensures
    (joins_one c.args.self.now after c.in_ok-insert.field-0 c.in_ok-slot.slot
    (subst (λ (s : Slot). IsRoot s.path) (sym c.in_ok-slot.ensures) (inl (directive.id, refl)))
    (ap (λ (s : Slot). s.parent) c.in_ok-slot.ensures) (ap (λ (s : Slot). s.live_below) c.in_ok-slot.ensures)
    (subst (λ (s : Slot). IsPlannedBy None s.task.phase) (sym c.in_ok-slot.ensures)
    (alone_by directive.anchor directive.start (activity_begun c.args.model.now directive.kind directive.arguments) c.requires))
    c.in_ok-insert.ensures.is c.in_ok-insert.ensures.vacant refl c.in_ok-insert.ensures.listed)
