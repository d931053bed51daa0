use Rattle.parting.specs.IdRanges.{is_id_between}
use Rattle.live_tasks.proofs.Coming.{beyond}
use Rattle.live_tasks.proofs.JoinedAll.{none_joined, stands_alone, next_joined, all_joined}
use Rattle.live_tasks.proofs.KeepsWaits.{keeps_same, keeps_then}
use Rattle.live_tasks.proofs.tasks.LiveTasks.join_all.Goals as goal

pub loop-directive-init : goal.loop-directive-init
loop-directive-init c = (
  none_joined (is_id_between c.args.first c.args.past) c.args.model.now c.args.directives.now c.args.self.now c.requires.ids c.requires.alone c.requires.none,
  keeps_same c.args.self.now.tables,
)

pub join_if-requires : goal.join_if-requires
join_if-requires c =
    stands_alone (is_id_between c.args.first c.args.past) c.args.model.now c.args.directives.now c.loop-directive.directive-index c.args.self.now c.loop-directive.self c.directive-item.result
    c.loop-directive-test.true c.directive-item.is c.loop-directive.invariant.0

pub loop-directive-preserved : goal.loop-directive-preserved
loop-directive-preserved c = (
  next_joined (is_id_between c.args.first c.args.past) c.args.model.now c.args.directives.now c.loop-directive.directive-index c.args.self.now c.loop-directive.self c.directive-item.result
      c.loop-directive-test.true c.directive-item.is c.loop-directive.invariant.0 c.join_if.new.self c.in_ok-join_if.ensures.joined c.in_ok-join_if.ensures.same,
  keeps_then c.args.self.now.tables c.loop-directive.self.tables c.join_if.new.self.tables c.loop-directive.invariant.1 c.in_ok-join_if.ensures.waits,
)

pub returns-clause-joined : goal.returns-clause-joined
returns-clause-joined c =
    all_joined (is_id_between c.args.first c.args.past) c.args.model.now c.args.directives.now c.loop-directive.directive-index c.args.self.now c.loop-directive.self
    (beyond c.args.directives.now c.loop-directive.directive-index c.loop-directive-test.false) c.loop-directive.invariant.0
