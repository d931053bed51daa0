use Rattle.live_tasks.proofs.Coming.{beyond}
use Rattle.live_tasks.proofs.KeepsWaits.{keeps_same, keeps_then}
use Rattle.live_tasks.proofs.PlannedAll.{no_directives, one_directive, all_directives}
use Rattle.live_tasks.proofs.tasks.LiveTasks.plan_directives.Goals as goal

pub loop-directive-init : goal.loop-directive-init
loop-directive-init c = (no_directives c.args.model.now c.args.directives.now c.args.self.now c.requires.ids c.requires.none, keeps_same c.args.self.now.tables)

pub loop-directive-preserved : goal.loop-directive-preserved
loop-directive-preserved c = (
  one_directive c.args.model.now c.args.directives.now c.loop-directive.directive-index c.args.self.now c.loop-directive.self c.plan_directive.new.self c.directive-item.result c.loop-directive-test.true
      c.directive-item.is c.loop-directive.invariant.0 c.in_ok-plan_directive.ensures.planned,
  keeps_then c.args.self.now.tables c.loop-directive.self.tables c.plan_directive.new.self.tables c.loop-directive.invariant.1 c.in_ok-plan_directive.ensures.waits,
)

pub returns-clause-planned : goal.returns-clause-planned
returns-clause-planned c =
    all_directives c.args.model.now c.args.directives.now c.loop-directive.directive-index c.args.self.now c.loop-directive.self
    (beyond c.args.directives.now c.loop-directive.directive-index c.loop-directive-test.false) c.loop-directive.invariant.0
