use Rattle.std.proofs.Common.{IsTrue, sym, subst}
use Rattle.constraints.proofs.Folds.{window_is}
use Rattle.constraints.proofs.SpanParts.{silent_holds}
use Rattle.constraints.proofs.preparing.evaluated.Goals as goal

pub holding-requires-clause-window : goal.holding-requires-clause-window
holding-requires-clause-window c = subst IsTrue (sym (window_is c.args.sources.now.model.now c.args.window.now)) c.requires.window

pub returns-clause-holds : goal.returns-clause-holds
returns-clause-holds c = silent_holds c.args.sources.now c.args.window.now c.in_ok-times.times c.requires.silent c.in_ok-times.ensures.reach c.in_ok-times.ensures.times
