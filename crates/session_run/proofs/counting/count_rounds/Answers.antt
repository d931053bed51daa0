use Rattle.std.proofs.Common.{arith}
use Rattle.session_run.proofs.Counted.{nothing_counted}
use Rattle.session_run.proofs.counting.count_rounds.Goals as goal

pub loop-number-init : goal.loop-number-init
loop-number-init g c = (
  nothing_counted c.args.workplace.now.mission.now c.args.clients.now c.args.pass.now c.new-summary.result c.new-summary.ensures,
  c.requires.workplace,
  omega arith,
  c.in_ok-benches.ensures,
)
