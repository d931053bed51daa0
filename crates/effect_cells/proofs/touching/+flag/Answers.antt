use Rattle.std.proofs.Common.{◌≡◌, length, arith, ◌∙◌, sym}
use Rattle.effect_cells.proofs.Flags.{flags_of_emit, flags_of_child, starts_with_all, one_more_part, done_with_all}
use Rattle.effect_cells.proofs.touching.+flag.Goals as goal

pub flag_part-returns-in-Emit : goal.flag_part-returns-in-Emit
flag_part-returns-in-Emit t c =
    rw (c.flag.ensures, c.from.ensures) (sym (flags_of_emit c.args.part.now c.in-Emit.cell c.in-Emit.effect c.args.flags.now c.in-Emit.is))

pub flag_part-returns-in-Child : goal.flag_part-returns-in-Child
flag_part-returns-in-Child t c = c.flag_tree.ensures ∙ sym (flags_of_child c.args.part.now c.in-Child.child c.args.flags.now c.in-Child.is)

pub flag_tree-loop-part-init : goal.flag_tree-loop-part-init
flag_tree-loop-part-init t c = starts_with_all c.args.tree.now c.as_slice-part-items.result.now c.args.flags.now c.as_slice-part-items.ensures

pub flag_tree-loop-part-preserved : goal.flag_tree-loop-part-preserved
flag_tree-loop-part-preserved t c =
    rw c.flag_part.ensures
    (one_more_part c.as_slice-part-items.result.now c.loop-part.part-index c.part-item.result c.loop-part.flags _ c.loop-part-test.true c.part-item.is c.loop-part.invariant)

pub flag_tree-returns : goal.flag_tree-returns
flag_tree-returns t c =
    let last : c.loop-part.part-index ≡ length c.as_slice-part-items.result.now = omega arith in
    done_with_all c.as_slice-part-items.result.now c.loop-part.flags _ c.loop-part.part-index last c.loop-part.invariant
