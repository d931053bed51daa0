use Rattle.std.proofs.Common.{List, ℕ, ◌∙◌, inr, ap, subst}
use Rattle.aerie_base.specs.Paths.{daemon_root}
use Rattle.run_data.specs.Tasks.{Task}
use Rattle.live_tasks.specs.PlannedTasks.{daemon_task, Plans}
use Rattle.live_tasks.proofs.PlannedAll.{daemon_is}
use Rattle.live_tasks.proofs.tasks.LiveTasks.plan_daemon.Goals as goal

pub plan-requires-clause-path : goal.plan-requires-clause-path
plan-requires-clause-path c = inr (c.args.number, c.in_ok-path.ensures ∙ ap daemon_root c.from.ensures)

pub plan-requires-clause-begun : goal.plan-requires-clause-begun
plan-requires-clause-begun c = ap (λ (t : Task). t.begun) c.new.ensures

pub plan-requires-clause-phase : goal.plan-requires-clause-phase
plan-requires-clause-phase c = (0, c.in_ok-state.state, ap (λ (t : Task). t.phase) c.new.ensures)

pub returns-clause-planned : goal.returns-clause-planned
returns-clause-planned c =
    subst (λ (p : List ℕ). Plans p (daemon_task c.args.number c.args.daemon.now) c.args.self.now c.plan.new.self) (c.in_ok-path.ensures ∙ ap daemon_root c.from.ensures)
    (subst (λ (t : Task). Plans c.in_ok-path.path t c.args.self.now c.plan.new.self)
    (daemon_is c.args.number c.args.daemon.now c.in_ok-state.state c.new.result c.in_ok-state.ensures c.new.ensures) c.in_ok-plan.ensures.planned)
