use Rattle.std.specs.Prelude.{IsPermutation}
use Rattle.std.proofs.Common.{subst, sym, ap, ◌∙◌}
use Rattle.goals.specs.Gaps.{coexistence_gap as least_without}
use Rattle.goals.specs.Merging.{Rises}
use Rattle.goals.proofs.SortedAnchors.{in_any_order}
use Rattle.goals.proofs.first_gaps.anchor_gap.Goals as goal

pub coexistence_gap-gap-requires-clause-anchors : goal.coexistence_gap-gap-requires-clause-anchors
coexistence_gap-gap-requires-clause-anchors c = subst Rises (sym c.as_slice.ensures.value) c.in_ok-anchors.ensures.rises

pub returns : goal.returns
returns c =
    c.coexistence_gap-gap.ensures
    ∙ ap (least_without c.args.range.now.from c.args.range.now.to c.args.starts.now) c.as_slice.ensures.value
    ∙ in_any_order c.args.range.now.from c.args.range.now.to c.args.starts.now _ _
    (subst (λ anchors. IsPermutation anchors c.in_ok-anchors.anchors.items) c.in_ok-found.ensures c.in_ok-anchors.ensures.permutation)
