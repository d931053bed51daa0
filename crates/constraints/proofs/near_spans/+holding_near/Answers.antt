use Rattle.std.proofs.Common.{Some, sym, ap, ◌∙◌}
use Rattle.constraints.specs.declared.span_windows.SpanWindow.{SpanWindow, And, Or, Not, Shift, Longer}
use Rattle.constraints.proofs.SpanMargins.{times_near, lasting_near, and_near, or_near, not_near, shift_near, longer_near}
use Rattle.constraints.proofs.near_spans.+holding_near.Goals as goal

pub returns-in_ok-other-in-And-clause-times : goal.returns-in_ok-other-in-And-clause-times
returns-in_ok-other-in-And-clause-times t c =
    and_near c.args.reach c.args.from c.args.to c.args.window.now (Some c.args.span.now) c.get.result.now c.get-in-And.result.now c.in_ok-one-in-And.one c.in_ok-other-in-And.other c.and.result
    (c.in-And.is ∙ (λ i. And (sym c.get.ensures i) (sym c.get-in-And.ensures i))) c.requires.within c.in_ok-one-in-And.ensures.reach c.in_ok-one-in-And.ensures.times c.in_ok-other-in-And.ensures.times c.and.ensures.reach c.and.ensures.times

pub returns-in_ok-other-in-Or-clause-times : goal.returns-in_ok-other-in-Or-clause-times
returns-in_ok-other-in-Or-clause-times t c =
    or_near c.args.reach c.args.from c.args.to c.args.window.now (Some c.args.span.now) c.get-in-Or.result.now c.get-in-Or-2.result.now c.in_ok-one-in-Or.one c.in_ok-other-in-Or.other c.or.result
    (c.in-Or.is ∙ (λ i. Or (sym c.get-in-Or.ensures i) (sym c.get-in-Or-2.ensures i))) c.requires.within c.in_ok-one-in-Or.ensures.reach c.in_ok-one-in-Or.ensures.times c.in_ok-other-in-Or.ensures.times c.or.ensures.reach c.or.ensures.times

pub returns-in_ok-inner-in-Not-clause-times : goal.returns-in_ok-inner-in-Not-clause-times
returns-in_ok-inner-in-Not-clause-times t c =
    not_near c.args.reach c.args.from c.args.to c.args.window.now (Some c.args.span.now) c.get-in-Not.result.now c.in_ok-inner-in-Not.inner c.not.result
    (c.in-Not.is ∙ ap (λ (w : SpanWindow). Not w) (sym c.get-in-Not.ensures)) c.requires.within c.in_ok-inner-in-Not.ensures.reach c.in_ok-inner-in-Not.ensures.times c.not.ensures.reach c.not.ensures.times

pub returns-in_ok-inner-in-Shift-clause-times : goal.returns-in_ok-inner-in-Shift-clause-times
returns-in_ok-inner-in-Shift-clause-times t c =
    shift_near c.args.reach c.args.from c.args.to c.args.window.now (Some c.args.span.now) c.get-in-Shift.result.now c.in-Shift.start c.in-Shift.end c.farther-far.result c.earlier_by-first.result c.later_by-last.result c.in_ok-inner-in-Shift.inner c.shifted.result
    (c.in-Shift.is ∙ ap (λ (w : SpanWindow). Shift w c.in-Shift.start c.in-Shift.end) (sym c.get-in-Shift.ensures)) c.in_ok-inner-in-Shift.ensures.reach c.farther-far.ensures c.earlier_by-first.ensures c.later_by-last.ensures
    c.in_ok-inner-in-Shift.ensures.times c.shifted.ensures.times

pub returns-in_ok-inner-in-Longer-clause-times : goal.returns-in_ok-inner-in-Longer-clause-times
returns-in_ok-inner-in-Longer-clause-times t c =
    longer_near c.args.reach c.args.from c.args.to c.args.window.now (Some c.args.span.now) c.get-in-Longer.result.now c.in-Longer.least c.earlier_by-first-in-Longer.result c.later_by-last-in-Longer.result c.in_ok-inner-in-Longer.inner c.longer.result
    (c.in-Longer.is ∙ ap (λ (w : SpanWindow). Longer w c.in-Longer.least) (sym c.get-in-Longer.ensures)) c.in_ok-inner-in-Longer.ensures.reach c.earlier_by-first-in-Longer.ensures c.later_by-last-in-Longer.ensures
    c.in_ok-inner-in-Longer.ensures.times c.longer.ensures.times

pub returns-in-Times-clause-times : goal.returns-in-Times-clause-times
returns-in-Times-clause-times t c =
    times_near c.args.reach c.args.from c.args.to c.args.window.now (Some c.args.span.now) c.in-Times.set c.part_of.result c.in-Times.is c.part_of.ensures.times

pub returns-in-Lasting-clause-times : goal.returns-in-Lasting-clause-times
returns-in-Lasting-clause-times t c = lasting_near c.args.reach c.args.from c.args.to c.args.window.now c.args.span.now c.lasting.result c.in-Lasting.is c.requires.within c.lasting.ensures.times
