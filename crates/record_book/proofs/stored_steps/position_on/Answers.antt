use Rattle.std.proofs.Common.{◌<◌, length, sym, subst, ◌∙◌}
use Rattle.std.specs.List.{All}
use Rattle.record_book.proofs.Indexing.{not_within, other_state}
use Rattle.record_book.proofs.Probing.{denied}
use Rattle.record_book.proofs.stored_steps.position_on.Goals as goal
use Rattle.record_book.proofs.stored_steps.position_on.Goals.{else-is_same-via-then-is_same+else-are_within, else-is_same-via-else-is_same}

pub returns-else-is_same-clause-none : goal.returns-else-is_same-clause-none
returns-else-is_same-clause-none c = elim c.else-is_same.branch [
  | else-is_same-via-then-is_same+else-are_within w ↦
      not_within _ c.args.ways.now c.args.steps.now c.requires.index c.args.state.now c.args.view.now c.args.way c.item-taken.result.now c.item-taken.ensures
      (λ all. denied w.are_within.result _ w.if-are_within.false w.are_within.ensures
      (subst (λ count. All (λ cell. cell < count) c.as_slice-cells.result.now) (sym c.requires.count)
      (subst (All (λ cell. cell < length c.args.view.now)) (sym c.as_slice-cells.ensures) all)))
  | else-is_same-via-else-is_same w ↦
      other_state _ c.args.ways.now c.args.steps.now c.requires.index c.args.state.now c.args.view.now c.args.way c.item-taken.result.now c.item-taken.ensures
      (λ same. denied c.is_same.result _ w.if-is_same.false c.is_same.ensures (c.get.ensures ∙ same))
]
