use Rattle.std.proofs.Common.{ℕ, Bool, List, subst, ◌∙◌}
use Rattle.windows.specs.Times.{Interval, InOrder, AreIntervals, shifted_contains}
use Rattle.constraints.proofs.Folds.{handed_shift}
use Rattle.constraints.proofs.SpanMargins.{shifted_kept}
use Rattle.constraints.proofs.near_spans.shifted.Goals as goal

pub returns-clause-times : goal.returns-clause-times
returns-clause-times c =
    let start_is = handed_shift c.get.result c.get.ensures.range ∙ c.get.ensures.value in
    let end_is = handed_shift c.get-2.result c.get-2.ensures.range ∙ c.get-2.ensures.value in
    shifted_kept c.args.start.now c.args.end.now c.args.from c.args.to c.args.part.now c.in_ok-made.made
    (subst (λ (l : List Interval). InOrder c.args.part.now.reach 0 l) c.intervals-in_order.ensures.value c.intervals-in_order.ensures.in_order) c.requires.within c.in_ok-made.ensures.reach
    (subst (λ (f : ℕ → Bool). AreIntervals c.in_ok-made.made.reach f c.in_ok-made.made.intervals) (λ i t. shifted_contains (start_is i) (end_is i) c.args.part.now.intervals t) c.in_ok-made.ensures.times)
