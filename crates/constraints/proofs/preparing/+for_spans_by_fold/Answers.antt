use Rattle.std.proofs.Common.{sym, ap, subst, ◌∙◌}
use Rattle.constraints.specs.declared.types.Window.{Window, And, Or, Not, Shift, Longer}
use Rattle.constraints.specs.declared.span_windows.SpanWindow.{SpanWindow}
use Rattle.constraints.specs.OverSources.{HoldsAsFolded}
use Rattle.constraints.proofs.Folds.{shift_handed}
use Rattle.constraints.proofs.SpanParts.{and_holds, or_holds, not_holds, shift_holds, longer_holds}
use Rattle.constraints.proofs.preparing.+for_spans_by_fold.Goals as goal

pub returns-in_ok-other-in-And-clause-holds : goal.returns-in_ok-other-in-And-clause-holds
returns-in_ok-other-in-And-clause-holds t c =
    and_holds c.args.sources.now c.args.window.now c.get.result.now c.get-in-And.result.now c.in_ok-one-in-And.one c.in_ok-other-in-And.other
    (c.in-And.is ∙ (λ i. And (sym c.get.ensures i) (sym c.get-in-And.ensures i)))
    (subst (HoldsAsFolded c.args.sources.now c.get.result.now) (sym c.in_ok-one-in-And.ensures) c.in_ok-left-in-And.ensures.holds)
    (subst (HoldsAsFolded c.args.sources.now c.get-in-And.result.now) (sym c.in_ok-other-in-And.ensures) c.in_ok-right-in-And.ensures.holds)

pub returns-in_ok-other-in-Or-clause-holds : goal.returns-in_ok-other-in-Or-clause-holds
returns-in_ok-other-in-Or-clause-holds t c =
    or_holds c.args.sources.now c.args.window.now c.get-in-Or.result.now c.get-in-Or-2.result.now c.in_ok-one-in-Or.one c.in_ok-other-in-Or.other
    (c.in-Or.is ∙ (λ i. Or (sym c.get-in-Or.ensures i) (sym c.get-in-Or-2.ensures i)))
    (subst (HoldsAsFolded c.args.sources.now c.get-in-Or.result.now) (sym c.in_ok-one-in-Or.ensures) c.in_ok-left-in-Or.ensures.holds)
    (subst (HoldsAsFolded c.args.sources.now c.get-in-Or-2.result.now) (sym c.in_ok-other-in-Or.ensures) c.in_ok-right-in-Or.ensures.holds)

pub returns-in_ok-inner-in-Not-clause-holds : goal.returns-in_ok-inner-in-Not-clause-holds
returns-in_ok-inner-in-Not-clause-holds t c =
    not_holds c.args.sources.now c.args.window.now c.get-in-Not.result.now c.in_ok-inner-in-Not.inner (c.in-Not.is ∙ ap (λ (w : Window). Not w) (sym c.get-in-Not.ensures))
    (subst (HoldsAsFolded c.args.sources.now c.get-in-Not.result.now) (sym c.in_ok-inner-in-Not.ensures) c.in_ok-part-in-Not.ensures.holds)

pub returns-in_ok-inner-in-Shift-clause-holds : goal.returns-in_ok-inner-in-Shift-clause-holds
returns-in_ok-inner-in-Shift-clause-holds t c =
    let is = c.in-Shift.is ∙ ap (λ (w : Window). Shift w c.in-Shift.start c.in-Shift.end) (sym c.get-in-Shift.ensures) in
    let handed = shift_handed c.args.sources.now.model.now c.args.window.now c.get-in-Shift.result.now c.in-Shift.start c.in-Shift.end is c.requires.window in
    shift_holds c.args.sources.now c.args.window.now c.get-in-Shift.result.now c.in_ok-inner-in-Shift.inner c.in-Shift.start c.in-Shift.end c.new-first.result c.new-last.result is
    (c.new-first.ensures ∙ handed.0) (c.new-last.ensures ∙ handed.1)
    (subst (HoldsAsFolded c.args.sources.now c.get-in-Shift.result.now) (sym c.in_ok-inner-in-Shift.ensures) c.in_ok-part-in-Shift.ensures.holds)

pub returns-in_ok-inner-in-Longer-clause-holds : goal.returns-in_ok-inner-in-Longer-clause-holds
returns-in_ok-inner-in-Longer-clause-holds t c =
    longer_holds c.args.sources.now c.args.window.now c.get-in-Longer.result.now c.in_ok-inner-in-Longer.inner c.in-Longer.least
    (c.in-Longer.is ∙ ap (λ (w : Window). Longer w c.in-Longer.least) (sym c.get-in-Longer.ensures))
    (subst (HoldsAsFolded c.args.sources.now c.get-in-Longer.result.now) (sym c.in_ok-inner-in-Longer.ensures) c.in_ok-part-in-Longer.ensures.holds)
