use Rattle.std.proofs.Common.{IsTrue, subst}
use Rattle.constraints.proofs.Folds.{window_is}
use Rattle.constraints.proofs.SpanParts.{as_window_result}
use Rattle.constraints.proofs.preparing.for_spans.Goals as goal

pub for_spans_by_fold-requires-clause-window : goal.for_spans_by_fold-requires-clause-window
for_spans_by_fold-requires-clause-window c = subst IsTrue (window_is c.args.sources.now.model.now c.args.window.now) c.requires.window

pub returns-clause-holds : goal.returns-clause-holds
returns-clause-holds c = as_window_result c.args.sources.now c.args.window.now c.for_spans_by_fold.result c.for_spans_by_fold.ensures.holds
