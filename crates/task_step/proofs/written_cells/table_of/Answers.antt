use Rattle.std.proofs.Common.{ℕ, ◌∙◌, ◌+◌, ap, arith, sym, length, subst, set}
use Rattle.std.proofs.lemmas.List.{length-replicate}
use Rattle.task_step.proofs.WrittenPlaces.{PlacedBefore, few, none_placed, one_placed, all_placed}
use Rattle.task_step.proofs.written_cells.table_of.Goals as goal

pub loop-place-init : goal.loop-place-init
loop-place-init c = none_placed c.args.cells.now c.in_ok-table.table.items (ap length (c.in_ok-table.ensures.items_if_clones_equal (λ y e. e)) ∙ length-replicate {A = ℕ} 256 0)

pub note_place-requires : goal.note_place-requires
note_place-requires c = omega (arith, few c.args.cells.now c.requires.0 c.requires.1, c.loop-place-test.true)

pub loop-place-preserved : goal.loop-place-preserved
loop-place-preserved c =
    let one = c.index-cells-place.result in
    subst (PlacedBefore (c.loop-place.place + 1) c.args.cells.now) (sym (c.note_place.ensures ∙ ap (λ p. set c.loop-place.table.items p.0 c.loop-place.place) (sym c.index-cells-place.is)))
    (one_placed c.loop-place.place c.args.cells.now c.loop-place.table.items one c.requires c.loop-place-test.true c.index-cells-place.is c.loop-place.invariant)

pub returns : goal.returns
returns c = all_placed c.loop-place.place c.args.cells.now c.loop-place.table.items c.loop-place-test.false c.loop-place.invariant
