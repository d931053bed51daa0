use Rattle.effect_cells.specs.Cells.{initial}
use Rattle.profiles.proofs.WatchedCells.{watched_more}
use Rattle.profiles.proofs.watching.watched_terms.Goals as goal

pub loop-term-preserved : goal.loop-term-preserved
loop-term-preserved c =
    watched_more (initial c.args.model.now) c.args.terms.now c.loop-term.term-index _ _ _ c.loop-term-test.true c.loop-term.invariant c.in_ok-watch.ensures
