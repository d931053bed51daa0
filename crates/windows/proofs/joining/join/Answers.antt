-- The last interval was made longer, or stands as it was and the new one behind it.
use Rattle.std.proofs.Common.{◌∙◌, sym}
use Rattle.windows.specs.OrderLaws.{at_most, above}
use Rattle.windows.proofs.Joins.{joins_last, joins_behind}
use Rattle.windows.proofs.joining.join.Goals as goal

pub returns-then-is_by-2 : goal.returns-then-is_by-2
returns-then-is_by-2 c =
    rw (c.in_ok-push-2.ensures.pushed, c.later.ensures)
    (joins_last _ _ c.in-Some.last c.args.from c.args.to (sym c.intervals.view_is ∙ c.in-Some.ensures.items) c.requires.order
    (at_most _ _ (sym c.is_by-2.ensures ∙ c.if-is_by-2.true)) (above _ _ (sym c.is_by.ensures ∙ c.if-is_by.false)))

pub returns : goal.returns
returns c =
    let whole = sym c.intervals.view_is ∙ c.in-Some.ensures.items in
    rw (c.in_ok-push-4.ensures.pushed, c.in_ok-push-3.ensures.pushed, ← whole)
    (joins_behind _ _ c.in-Some.last c.args.from c.args.to whole (above _ _ (sym c.is_by-2.ensures ∙ c.if-is_by-2.false)) (above _ _ (sym c.is_by.ensures ∙ c.if-is_by.false)))
