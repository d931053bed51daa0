use Rattle.std.proofs.Common.{◌+◌, min, sym, ap, subst, ◌∙◌}
use Rattle.constraints.specs.SpanWindows.{IsMargin}
use Rattle.constraints.specs.declared.span_windows.SpanWindow.{SpanWindow, And, Or, Not, Shift, Longer}
use Rattle.constraints.proofs.SpanMargins.{and_margin, or_margin, not_margin, shift_margin, longer_margin}
use Rattle.constraints.proofs.near_spans.+margin.Goals as goal

pub returns-in-And-clause-margin : goal.returns-in-And-clause-margin
returns-in-And-clause-margin t c =
    subst (IsMargin c.args.reach c.args.window.now) (sym c.later.ensures)
    (and_margin c.args.reach c.args.window.now c.get.result.now c.get-in-And.result.now c.margin-one.result c.margin-other.result
    (c.in-And.is ∙ (λ i. And (sym c.get.ensures i) (sym c.get-in-And.ensures i))) c.margin-one.ensures.margin c.margin-other.ensures.margin)

pub returns-in-Or-clause-margin : goal.returns-in-Or-clause-margin
returns-in-Or-clause-margin t c =
    subst (IsMargin c.args.reach c.args.window.now) (sym c.later-in-Or.ensures)
    (or_margin c.args.reach c.args.window.now c.get-in-Or.result.now c.get-in-Or-2.result.now c.margin-one-in-Or.result c.margin-other-in-Or.result
    (c.in-Or.is ∙ (λ i. Or (sym c.get-in-Or.ensures i) (sym c.get-in-Or-2.ensures i))) c.margin-one-in-Or.ensures.margin c.margin-other-in-Or.ensures.margin)

pub returns-in-Not-clause-margin : goal.returns-in-Not-clause-margin
returns-in-Not-clause-margin t c =
    not_margin c.args.reach c.args.window.now c.get-in-Not.result.now c.margin.result (c.in-Not.is ∙ ap (λ (w : SpanWindow). Not w) (sym c.get-in-Not.ensures)) c.margin.ensures.margin

pub returns-in-Shift-clause-margin : goal.returns-in-Shift-clause-margin
returns-in-Shift-clause-margin t c =
    subst (IsMargin c.args.reach c.args.window.now) (sym (c.later_by.ensures ∙ ap (λ far. min c.args.reach (c.margin-inner.result + far)) c.farther-far.ensures))
    (shift_margin c.args.reach c.args.window.now c.get-in-Shift.result.now c.in-Shift.start c.in-Shift.end c.margin-inner.result
    (c.in-Shift.is ∙ ap (λ (w : SpanWindow). Shift w c.in-Shift.start c.in-Shift.end) (sym c.get-in-Shift.ensures)) c.margin-inner.ensures.margin)

pub returns-in-Longer-clause-margin : goal.returns-in-Longer-clause-margin
returns-in-Longer-clause-margin t c =
    subst (IsMargin c.args.reach c.args.window.now) (sym c.later_by-in-Longer.ensures)
    (longer_margin c.args.reach c.args.window.now c.get-in-Longer.result.now c.in-Longer.least c.margin-inner-in-Longer.result
    (c.in-Longer.is ∙ ap (λ (w : SpanWindow). Longer w c.in-Longer.least) (sym c.get-in-Longer.ensures)) c.margin-inner-in-Longer.ensures.margin)
