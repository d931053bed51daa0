-- The walk from the back: an item at a time is put in front of what is gathered.
use Rattle.std.proofs.Common.{◌≡◌, ◌<◌, ◌-◌, arith, sym}
use Rattle.effect_cells.specs.Folded.{folded_magnitude, folded_part_magnitude}
use Rattle.effect_cells.specs.Cells.{accepts}
use Rattle.effect_cells.specs.declared.trees.Part.{size-Part}
use Rattle.effect_cells.specs.declared.trees.Tree.{size-Tree}
use Rattle.effect_cells.proofs.Totals.{part_fits, part_smaller}
use Rattle.effect_cells.proofs.GatheredEffects.{stays_ready}
use Rattle.effect_cells.proofs.GatheringSteps.{can_emit, emit_gathers, child_gathers, item_fits, item_gathers}
use Rattle.effect_cells.proofs.committing.+gather.Goals as goal

pub gather_part-gather-requires : goal.gather_part-gather-requires
gather_part-gather-requires t c =
    can_emit c.args.states.now c.args.part.now c.in-Emit.cell c.in-Emit.effect c.args.gathering.now c.in-Emit.is c.requires.kinds c.requires.ready c.requires.room

pub gather_part-returns-in-Emit : goal.gather_part-returns-in-Emit
gather_part-returns-in-Emit t c =
    emit_gathers c.args.states.now c.args.entered_at c.args.part.now c.in-Emit.cell c.in-Emit.effect c.args.gathering.now c.gather.new.self c.gather.result c.in-Emit.is c.requires.kinds
    c.gather.ensures

pub gather_part-returns-in-Child : goal.gather_part-returns-in-Child
gather_part-returns-in-Child t c =
    child_gathers c.args.states.now c.args.entered_at c.args.part.now c.in-Child.child c.args.gathering.now c.gather_tree.new.gathering c.gather_tree.result c.in-Child.is c.gather_tree.ensures

pub gather_tree-gather_part-requires : goal.gather_tree-gather_part-requires
gather_tree-gather_part-requires t c = (
  (let s : size-Part c.index-parts-left.result < size-Tree c.args.tree.now = part_smaller c.args.tree.now c.as_slice-parts.result.now _ c.index-parts-left.result c.as_slice-parts.ensures (omega (arith, c.loop-left.invariant.within)) c.index-parts-left.is in
      let d : size-Tree c.args.tree.now ≡ t = c.decreases in rw (← d) s),
  (
    item_fits (accepts c.args.states.now) c.args.tree.now c.as_slice-parts.result.now (c.loop-left.left - 1) c.index-parts-left.result c.as_slice-parts.ensures c.requires.kinds (omega (arith, c.loop-left.invariant.within)) c.index-parts-left.is,
    (
      (stays_ready c.args.states.now _ _ c.args.gathering.now c.loop-left.gathering c.loop-left.invariant.gathered).0,
      (stays_ready c.args.states.now _ _ c.args.gathering.now c.loop-left.gathering c.loop-left.invariant.gathered).1 (folded_part_magnitude c.index-parts-left.result)
          (folded_magnitude c.args.tree.now)
          (part_fits c.args.tree.now c.as_slice-parts.result.now c.loop-left.left c.index-parts-left.result c.as_slice-parts.ensures (omega arith) c.loop-left.invariant.within c.index-parts-left.is)
          c.requires.room,
    ),
  ),
)

pub gather_tree-loop-left-preserved : goal.gather_tree-loop-left-preserved
gather_tree-loop-left-preserved t c = record {
  within = omega (arith, c.loop-left.invariant.within);
  gathered =
      item_gathers c.args.states.now c.as_slice-parts.result.now c.loop-left.left c.index-parts-left.result c.args.gathering.now c.gather_part.new.gathering
      (omega arith) c.loop-left.invariant.within c.index-parts-left.is
      (c.in_ok-gather_part.ensures c.args.gathering.now _ _ (sym c.clock-entered_at.ensures) c.loop-left.invariant.gathered);
}
