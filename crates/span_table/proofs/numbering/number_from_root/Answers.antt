use Rattle.std.proofs.Common.{◌≡◌, ◌+◌, ◌∙◌, List, ℕ, subst}
use Rattle.aerie_base.specs.PathsAbove.{last_is, made_is, next_child, next_is, not_none, so_far}
use Rattle.span_table.specs.KnownTasks.{IsChild, Numbers}
use Rattle.span_table.proofs.NumberedPaths.{child_may, then_number}
use Rattle.span_table.proofs.numbering.number_from_root.Goals as goal

pub unreachable-requires : goal.unreachable-requires
unreachable-requires c =
    let items = c.children-number-items in
    not_none c.in_ok-below.field-0 (so_far c.args.path.now (c.loop-number.number-index + 1))
    (next_is c.args.path.now items.result.now c.loop-number.above c.loop-number.number-index c.in_ok-below.field-0 items.ensures.path items.ensures.children
    c.loop-number-test.true c.loop-number.invariant.above_is c.in_ok-below.ensures.child)
    c.in_default.is

pub loop-number-preserved : goal.loop-number-preserved
loop-number-preserved c =
    let items = c.children-number-items in
    let i = c.loop-number.number-index in
    let path = c.args.path.now in
    let next : c.in-Some.below ≡ so_far path (i + 1) =
    made_is path items.result.now c.loop-number.above c.in-Some.below i c.in_ok-below.field-0
    items.ensures.path items.ensures.children c.loop-number-test.true c.loop-number.invariant.above_is c.in_ok-below.ensures.child c.in-Some.is in
    let child : IsChild c.loop-number.above c.in-Some.below =
    (_, next ∙ next_child path items.result.now c.loop-number.above i items.ensures.children c.loop-number-test.true c.loop-number.invariant.above_is) in
    record {
      above_is = next;
      numbered = λ linked.
          let so_far_numbered = c.loop-number.invariant.numbered linked in
          then_number c.loop-number.above c.in-Some.below c.loop-number.at c.in_ok-at-2.at _ _ _ so_far_numbered
          (c.in_ok-at-2.ensures (child_may c.loop-number.above c.in-Some.below c.loop-number.at _ _ so_far_numbered child));
    }

pub returns : goal.returns
returns c = λ linked.
    let items = c.children-number-items in
    subst (λ (p : List ℕ). Numbers p c.loop-number.at c.args.tasks.now.entries c.loop-number.tasks.entries)
    (c.loop-number.invariant.above_is ∙ last_is c.args.path.now items.result.now c.loop-number.number-index items.ensures.children items.ensures.whole c.loop-number-test.false)
    (c.loop-number.invariant.numbered linked)
