use Rattle.std.proofs.Common.{ap, sym, ◌∙◌}
use Rattle.constraints.specs.declared.types.Window.{Window, Shift, Longer}
use Rattle.constraints.proofs.Folds.{shift_held, longer_held}
use Rattle.constraints.proofs.evaluation.+holding_by_fold.Goals as goal

pub returns-in_ok-part-in-Shift-clause-times : goal.returns-in_ok-part-in-Shift-clause-times
returns-in_ok-part-in-Shift-clause-times t c =
    shift_held c.args.sources.now.model.now c.args.sources.now.run.now c.args.window.now c.args.bound.now c.get-in-Shift.result.now c.in-Shift.start c.in-Shift.end c.in_ok-part-in-Shift.part c.shifted.result
    (c.in-Shift.is ∙ ap (λ (w : Window). Shift w c.in-Shift.start c.in-Shift.end) (sym c.get-in-Shift.ensures)) c.requires.window c.in_ok-part-in-Shift.ensures.reach c.in_ok-part-in-Shift.ensures.times c.shifted.ensures.times

pub returns-in_ok-part-in-Longer-clause-times : goal.returns-in_ok-part-in-Longer-clause-times
returns-in_ok-part-in-Longer-clause-times t c =
    longer_held c.args.sources.now.model.now c.args.sources.now.run.now c.args.window.now c.args.bound.now c.get-in-Longer.result.now c.in-Longer.least c.in_ok-part-in-Longer.part c.longer.result
    (c.in-Longer.is ∙ ap (λ (w : Window). Longer w c.in-Longer.least) (sym c.get-in-Longer.ensures)) c.in_ok-part-in-Longer.ensures.reach c.in_ok-part-in-Longer.ensures.times c.longer.ensures.times
