-- Each term more is kept or left out.
use Rattle.task_step.proofs.Fillings.{one_kept}
use Rattle.task_step.proofs.filling.cell_terms.Goals as goal

pub loop-term-preserved : goal.loop-term-preserved
loop-term-preserved c =
    one_kept c.args.terms.now c.loop-term.term-index _ c.loop-term.kept _ _ c.loop-term-test.true c.in_ok-keep.ensures c.loop-term.invariant
