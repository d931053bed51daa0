-- A task's effects are gathered item by item from the back, and a child's are those of its own frame.
use Rattle.std.proofs.Common.{◌≡◌, ◌≤◌, ◌+◌, ◌-◌, ◌∙◌, suc, OnOk, List, [], ◌∷◌, drop, length, refl, sym, ap, subst, arith}
use Rattle.aerie_base.specs.Paths.{child_path}
use Rattle.aerie_base.specs.Ranges.{step_limit}
use Rattle.effect_cells.specs.declared.trees.Part.{Part}
use Rattle.run_data.specs.TaskFrames.{Frame}
use Rattle.run_data.specs.declared.frames.Item.{Item}
use Rattle.run_data.specs.Frames.{room_of}
use Rattle.run_data.specs.laws.Trees.{parts_by}
use Rattle.engine_core.specs.BatchTrees.{parts_below, part_by, AreGathered, MayGather}
use Rattle.engine_core.proofs.ChildPositions.{its_path, finds_itself, none_found, parts_of_found}
use Rattle.engine_core.proofs.TreeParts.{of_found, child_is_below, child_is_less, none_below}
use Rattle.engine_core.proofs.GatheredFrames.{next_may, next_gathered, none_gathered, starts_gathered, emit_gathered, child_may, child_gathers, as_many_parts, all_taken, number_falls, number_is, item_first}
use Rattle.engine_core.proofs.batches.gathering.+gather.Goals as goal

pub gather_child-returns-then-children-ge-CHILD_LIMIT : goal.gather_child-returns-then-children-ge-CHILD_LIMIT
gather_child-returns-then-children-ge-CHILD_LIMIT t c =
    none_gathered c.effects_are_gathered.ensures.enters c.args.cells.now _ _ c.args.gathering.now c.requires.may
    (none_below c.args.frames.now c.args.path.now (child_path c.args.path.now c.args.number) (rw c.children.ensures.children at c.if-children-ge-CHILD_LIMIT.true))

pub gather_child-position_of_child-requires-clause-room : goal.gather_child-position_of_child-requires-clause-room
gather_child-position_of_child-requires-clause-room t c = rw c.children.ensures.children at c.if-children-ge-CHILD_LIMIT.false

pub gather_child-returns-in_default : goal.gather_child-returns-in_default
gather_child-returns-in_default t c =
    let child = child_path c.args.path.now c.args.number in
    let less = rw c.children.ensures.children at c.if-children-ge-CHILD_LIMIT.false in
    none_gathered c.effects_are_gathered.ensures.enters c.args.cells.now _ _ c.args.gathering.now c.requires.may
    (none_found c.args.frames.now (room_of child) 0 child (rw c.in_default.is at c.in_ok-at.ensures)
    ∙ child_is_below c.args.frames.now c.args.path.now child c.args.number c.children.ensures.path less refl)

pub gather_child-gather_task-requires : goal.gather_child-gather_task-requires
gather_child-gather_task-requires t c =
    let less = rw c.children.ensures.children at c.if-children-ge-CHILD_LIMIT.false in
    let position = rw c.in-Some.is at c.in_ok-at.ensures in
    let here = c.index-frames-at.result in
    let child = its_path c.args.frames.now (child_path c.args.path.now c.args.number) c.in-Some.at here position c.index-frames-at.is in
    let below = child_is_below c.args.frames.now c.args.path.now here.path c.args.number c.children.ensures.path less child in
    let room : room_of c.args.path.now ≡ suc (room_of here.path) = child_is_less c.args.path.now here.path c.args.number c.children.ensures.path less child in (
      omega (arith, c.decreases, room),
      (
        c.requires.order,
        (
          c.requires.few,
          (
            finds_itself c.args.frames.now (child_path c.args.path.now c.args.number) c.in-Some.at here position c.index-frames-at.is,
            (omega arith, subst (λ (parts : List Part). MayGather c.args.cells.now parts c.args.gathering.now) (sym below) c.requires.may),
          ),
        ),
      ),
    )

pub gather_child-returns : goal.gather_child-returns
gather_child-returns t c =
    let less = rw c.children.ensures.children at c.if-children-ge-CHILD_LIMIT.false in
    let position = rw c.in-Some.is at c.in_ok-at.ensures in
    let here = c.index-frames-at.result in
    let child = its_path c.args.frames.now (child_path c.args.path.now c.args.number) c.in-Some.at here position c.index-frames-at.is in
    let below = child_is_below c.args.frames.now c.args.path.now here.path c.args.number c.children.ensures.path less child in
    rw (← below) c.in_ok-gather_task.ensures

pub gather_item-gather_child-requires : goal.gather_item-gather_child-requires
gather_item-gather_child-requires t c =
    let child = subst (λ (one : Item). MayGather c.args.cells.now (part_by (parts_below c.args.frames.now (room_of c.args.path.now)) c.args.path.now c.args.number one ∷ []) c.args.gathering.now)
    c.in-Child.is c.requires.may in (
      omega (arith, c.decreases),
      (c.requires.order, (c.requires.few, child_may c.args.cells.now (parts_below c.args.frames.now (room_of c.args.path.now) (child_path c.args.path.now c.args.number)) c.args.gathering.now child)),
    )

pub gather_item-returns-in_ok-gather-in-Emit : goal.gather_item-returns-in_ok-gather-in-Emit
gather_item-returns-in_ok-gather-in-Emit t c =
    rw c.in-Emit.is
    (emit_gathered c.args.cells.now c.args.entered_at c.in-Emit.cell c.in-Emit.effect c.args.gathering.now c.gather.new.self
    (subst (λ (one : Item). MayGather c.args.cells.now (part_by (parts_below c.args.frames.now (room_of c.args.path.now)) c.args.path.now c.args.number one ∷ []) c.args.gathering.now)
    c.in-Emit.is c.requires.may) c.in_ok-gather-in-Emit.ensures)

pub gather_item-returns-in-Child : goal.gather_item-returns-in-Child
gather_item-returns-in-Child t c =
    rw c.in-Child.is
    (child_gathers c.effects_are_gathered.ensures.child c.args.cells.now c.args.entered_at (parts_below c.args.frames.now (room_of c.args.path.now) (child_path c.args.path.now c.args.number))
    c.args.gathering.now c.gather_child.new.gathering c.gather_child.result c.gather_child.ensures)

pub gather_task-gather_items-requires : goal.gather_task-gather_items-requires
gather_task-gather_items-requires t c =
    let few : length c.args.frame.now.items ≤ step_limit =
    of_found (λ (frame : Frame). length frame.items ≤ step_limit) c.args.frames.now c.args.frame.now.path c.args.frame.now c.requires.few c.requires.found in
    let long : length c.as_slice-items.result.now ≡ length c.args.frame.now.items = ap length (c.as_slice-items.ensures ∙ c.items.ensures) in
    let same : room_of c.path.result.now ≡ room_of c.args.frame.now.path = ap room_of c.path.ensures in
    let whole = parts_of_found c.args.frames.now c.args.frame.now c.args.number c.path.result.now c.as_slice-items.result.now c.requires.found c.path.ensures (c.as_slice-items.ensures ∙ c.items.ensures) in (
      omega (arith, c.decreases, same),
      (
        c.requires.order,
        (
          c.requires.few,
          (
            omega (arith, few, long),
            (c.requires.number, subst (λ (parts : List Part). MayGather c.args.cells.now parts c.args.gathering.now) whole c.requires.may),
          ),
        ),
      ),
    )

pub gather_task-returns : goal.gather_task-returns
gather_task-returns t c =
    let whole = parts_of_found c.args.frames.now c.args.frame.now c.args.number c.path.result.now c.as_slice-items.result.now c.requires.found c.path.ensures (c.as_slice-items.ensures ∙ c.items.ensures) in
    subst (λ (parts : List Part). OnOk c.gather_items.result (AreGathered c.args.cells.now parts c.args.gathering.now c.gather_items.new.gathering)) (sym whole) c.gather_items.ensures

pub gather_items-overflow_add-next : goal.gather_items-overflow_add-next
gather_items-overflow_add-next t c = omega (arith, c.requires.few_here, c.requires.number, c.children_among.ensures.few)

pub gather_items-loop-left-init : goal.gather_items-loop-left-init
gather_items-loop-left-init t c =
    let long = as_many_parts (parts_below c.args.frames.now (room_of c.args.path.now)) c.args.path.now c.args.items.now c.args.number in
    record {
      within = omega arith;
      next = ap (λ n. c.args.number + n) (c.children_among.ensures.value ∙ sym (all_taken c.args.items.now (length c.args.items.now) (omega arith)));
      gathered = starts_gathered c.effects_are_gathered.ensures.enters c.args.cells.now _ (length c.args.items.now) c.args.gathering.now (omega (arith, long)) c.requires.may;
    }

pub gather_items-overflow_sub-next : goal.gather_items-overflow_sub-next
gather_items-overflow_sub-next t c =
    number_falls (parts_below c.args.frames.now (room_of c.args.path.now)) c.args.path.now c.args.items.now c.args.number c.loop-left.left c.loop-left.next c.children_in-next.result
    c.index-items-left.result (omega arith) c.loop-left.invariant.within c.index-items-left.is c.loop-left.invariant.next c.children_in-next.ensures.value

pub gather_items-gather_item-requires : goal.gather_items-gather_item-requires
gather_items-gather_item-requires t c =
    let first = item_first (parts_below c.args.frames.now (room_of c.args.path.now)) c.args.path.now c.args.items.now c.args.number c.loop-left.left c.loop-left.next c.children_in-next.result
    c.index-items-left.result (omega arith) c.loop-left.invariant.within c.index-items-left.is c.loop-left.invariant.next c.children_in-next.ensures.value in (
      omega (arith, c.decreases),
      (
        c.requires.order,
        (
          c.requires.few,
          next_may c.effects_are_gathered.ensures.stays c.args.cells.now _ (c.loop-left.left - 1) c.loop-left.left _ c.args.gathering.now c.loop-left.gathering first c.requires.may
              c.loop-left.invariant.gathered,
        ),
      ),
    )

pub gather_items-loop-left-preserved : goal.gather_items-loop-left-preserved
gather_items-loop-left-preserved t c =
    let first = item_first (parts_below c.args.frames.now (room_of c.args.path.now)) c.args.path.now c.args.items.now c.args.number c.loop-left.left c.loop-left.next c.children_in-next.result
    c.index-items-left.result (omega arith) c.loop-left.invariant.within c.index-items-left.is c.loop-left.invariant.next c.children_in-next.ensures.value in
    record {
      within = omega (arith, c.loop-left.invariant.within);
      next =
          number_is (parts_below c.args.frames.now (room_of c.args.path.now)) c.args.path.now c.args.items.now c.args.number c.loop-left.left c.loop-left.next c.children_in-next.result
          c.index-items-left.result (omega arith) c.loop-left.invariant.within c.index-items-left.is c.loop-left.invariant.next c.children_in-next.ensures.value;
      gathered =
          next_gathered c.args.cells.now _ (c.loop-left.left - 1) c.loop-left.left _ c.args.gathering.now c.gather_item.new.gathering first
          (c.in_ok-behind.ensures
          (drop c.loop-left.left (parts_by (parts_below c.args.frames.now (room_of c.args.path.now)) c.args.path.now c.args.number c.args.items.now)) c.args.gathering.now (sym c.clock-entered_at.ensures) c.loop-left.invariant.gathered);
    }

pub gather_items-returns : goal.gather_items-returns
gather_items-returns t c = let none : c.loop-left.left ≡ 0 = omega arith in rw none at c.loop-left.invariant.gathered
