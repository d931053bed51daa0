use Rattle.std.proofs.Common.{refl, sym, subst}
use Rattle.live_tasks.specs.declared.slots.Slot.{Slot}
use Rattle.live_tasks.specs.declared.tasks.LiveTasks.{LiveTasks}
use Rattle.live_tasks.specs.PlannedTasks.{IsUnbegun, IsPlannedBy, Plans}
use Rattle.live_tasks.proofs.PlannedOne.{plans_one}
use Rattle.live_tasks.proofs.tasks.LiveTasks.plan.Goals as goal

pub returns-clause-planned : goal.returns-clause-planned
returns-clause-planned c =
    let after : LiveTasks = record c.args.self.now { tables = c.insert.new.self; followers = c.follow.new.followers } in
    subst (λ (s : Slot). Plans s.path s.task c.args.self.now after) c.in_ok-slot.ensures
    (plans_one c.args.self.now after c.in_ok-number.number c.in_ok-slot.slot c.args.anchor
    (subst IsUnbegun (sym c.in_ok-slot.ensures) (record { path = c.requires.path; parent = refl; below = refl; begun = c.requires.begun; phase = (c.args.anchor, c.requires.phase) }))
    (subst (λ (s : Slot). IsPlannedBy c.args.anchor s.task.phase) (sym c.in_ok-slot.ensures) c.requires.phase)
    c.in_ok-number.ensures.is c.in_ok-number.ensures.vacant c.in_ok-follow.ensures c.in_ok-number.ensures.listed)
