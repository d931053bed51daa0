use Rattle.std.proofs.Common.{ℕ, Bool, IsTrue, IfOk, subst, sym}
use Rattle.windows.specs.Times.{AreIntervals}
use Rattle.constraints.proofs.Folds.{holds_is, window_is}
use Rattle.constraints.proofs.evaluation.holding.Goals as goal

pub holding_by_fold-requires-clause-window : goal.holding_by_fold-requires-clause-window
holding_by_fold-requires-clause-window c = subst IsTrue (window_is c.args.sources.now.model.now c.args.window.now) c.requires.window

pub returns-clause-times : goal.returns-clause-times
returns-clause-times c =
    subst (λ (f : ℕ → Bool). IfOk c.holding_by_fold.result (λ made. AreIntervals made.reach f made.intervals))
    (sym (holds_is c.args.sources.now.model.now c.args.sources.now.run.now c.args.window.now c.args.bound.now)) c.holding_by_fold.ensures.times
