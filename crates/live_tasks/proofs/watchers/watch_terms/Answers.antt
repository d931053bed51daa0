use Rattle.live_tasks.proofs.Watching.{watched_term}
use Rattle.live_tasks.proofs.watchers.watch_terms.Goals as goal

pub loop-term-preserved : goal.loop-term-preserved
loop-term-preserved c =
    watched_term c.as_slice-term-items.result.now c.loop-term.term-index _ c.args.watcher c.args.watchers.now c.loop-term.watchers c.watch_operand.new.watchers c.loop-term-test.true c.loop-term.invariant
    c.in_ok-watch_operand.ensures
