use Rattle.std.proofs.Common.{◌+◌, refl, ap, subst, arith}
use Rattle.aerie_base.specs.Paths.{daemon_root}
use Rattle.live_tasks.specs.PlannedTasks.{daemon_task, Plans}
use Rattle.live_tasks.proofs.Coming.{beyond}
use Rattle.live_tasks.proofs.KeepsWaits.{keeps_same, keeps_then}
use Rattle.live_tasks.proofs.PlannedAll.{no_daemons, one_daemon, all_daemons}
use Rattle.live_tasks.proofs.tasks.LiveTasks.plan_daemons.Goals as goal

pub loop-daemon-init : goal.loop-daemon-init
loop-daemon-init c = (refl, no_daemons c.args.daemons.now c.args.self.now c.requires.none, keeps_same c.args.self.now.tables)

pub overflow_add-number : goal.overflow_add-number
overflow_add-number c =
    let same = c.loop-daemon.invariant.0 in
    let less = c.loop-daemon-test.true in
    let few = c.requires.few in
    omega (arith, same, less, few)

pub loop-daemon-preserved : goal.loop-daemon-preserved
loop-daemon-preserved c = (
  ap (λ n. n + 1) c.loop-daemon.invariant.0,
  one_daemon c.args.daemons.now c.loop-daemon.daemon-index c.args.self.now c.loop-daemon.self c.plan_daemon.new.self c.daemon-item.result c.loop-daemon-test.true c.daemon-item.is c.loop-daemon.invariant.1
      (subst (λ n. Plans (daemon_root n) (daemon_task n c.daemon-item.result) c.loop-daemon.self c.plan_daemon.new.self) c.loop-daemon.invariant.0 c.in_ok-plan_daemon.ensures.planned),
  keeps_then c.args.self.now.tables c.loop-daemon.self.tables c.plan_daemon.new.self.tables c.loop-daemon.invariant.2 c.in_ok-plan_daemon.ensures.waits,
)

pub returns-clause-planned : goal.returns-clause-planned
returns-clause-planned c =
    all_daemons c.args.daemons.now c.loop-daemon.daemon-index c.args.self.now c.loop-daemon.self (beyond c.args.daemons.now c.loop-daemon.daemon-index c.loop-daemon-test.false) c.loop-daemon.invariant.1

pub returns-clause-none : goal.returns-clause-none
returns-clause-none c = c.loop-daemon.invariant.1.none_root
