use Rattle.std.proofs.Common.{arith, ◌∙◌}
use Rattle.std.proofs.lemmas.Result.{on_ok_weaker}
use Rattle.body_code.proofs.Rooms.{room_first, room_second, room_last, room_body, room_body_end, first_less, second_less, body_less, iteration_room}
use Rattle.body_code.proofs.Patches.{if_done, while_done, simple_else, one_more, iteration_code}
use Rattle.body_code.proofs.emitting.+emit.Goals as goal

pub emit-emit_block-requires : goal.emit-emit_block-requires
emit-emit_block-requires t c = (
  first_less _ _ _ _ _ _ c.in-If.is c.as_slice.ensures c.decreases,
  room_first _ _ _ _ _ _ _ _ c.in-If.is c.requires c.in_ok-put-in-If.ensures c.as_slice.ensures,
)

pub emit-emit_block-requires-in-If : goal.emit-emit_block-requires-in-If
emit-emit_block-requires-in-If t c = (
  second_less _ _ _ _ _ _ c.in-If.is c.as_slice-in-If.ensures c.decreases,
  room_second _ _ _ _ _ _ _ _ _ _ _ c.in-If.is c.requires c.in_ok-put-in-If.ensures c.as_slice.ensures c.in_ok-emit_block-in-If.ensures c.in_ok-put-in-If-2.ensures c.as_slice-in-If.ensures,
)

pub emit-patch_if-requires-clause-room : goal.emit-patch_if-requires-clause-room
emit-patch_if-requires-clause-room t c =
    room_last _ _ _ _ (room_second _ _ _ _ _ _ _ _ _ _ _ c.in-If.is c.requires c.in_ok-put-in-If.ensures c.as_slice.ensures c.in_ok-emit_block-in-If.ensures c.in_ok-put-in-If-2.ensures c.as_slice-in-If.ensures) c.in_ok-emit_block-in-If-2.ensures

pub emit-emit_block-requires-in-While : goal.emit-emit_block-requires-in-While
emit-emit_block-requires-in-While t c = (
  body_less _ _ _ _ _ c.in-While.is c.as_slice-in-While.ensures c.decreases,
  omega (arith, room_body _ _ _ _ _ _ _ c.in-While.is c.requires c.in_ok-put-in-While.ensures c.as_slice-in-While.ensures),
)

pub emit-patch_while-requires-clause-room : goal.emit-patch_while-requires-clause-room
emit-patch_while-requires-clause-room t c =
    room_body_end _ _ _ _ _ _ (room_body _ _ _ _ _ _ _ c.in-While.is c.requires c.in_ok-put-in-While.ensures c.as_slice-in-While.ensures) c.in_ok-emit_block-in-While.ensures c.in_ok-put-in-While-2.ensures

pub emit_block-loop-stmt-preserved : goal.emit_block-loop-stmt-preserved
emit_block-loop-stmt-preserved t c = record {
  code = iteration_code _ _ c.stmt-item.result _ _ _ c.loop-stmt-test.true c.stmt-item.is c.in_ok-emit.ensures c.loop-stmt.invariant.code;
  room = iteration_room _ _ c.stmt-item.result _ _ _ c.loop-stmt-test.true c.stmt-item.is c.in_ok-emit.ensures c.loop-stmt.invariant.room;
}

pub emit-returns-in_ok-copy-in_default : goal.emit-returns-in_ok-copy-in_default
emit-returns-in_ok-copy-in_default t c =
    on_ok_weaker c.put-in_default.result (one_more _ _ _ _ (simple_else _ c.in_default.not-If c.in_default.not-While) c.in_ok-copy-in_default.ensures) c.put-in_default.ensures

pub emit-returns-in_ok-emit_block-in-If-2 : goal.emit-returns-in_ok-emit_block-in-If-2
emit-returns-in_ok-emit_block-in-If-2 t c =
    on_ok_weaker c.patch_if.result (if_done _ _ _ _ _ _ _ _ _ _ _ _ _ _ c.in-If.is (c.len-at.ensures ∙ c.args.code.now.ok.0) c.in_ok-put-in-If.ensures c.as_slice.ensures c.in_ok-emit_block-in-If.ensures (c.len-middle.ensures ∙ c.emit_block.new.code.ok.0) c.in_ok-put-in-If-2.ensures c.as_slice-in-If.ensures c.in_ok-emit_block-in-If-2.ensures) c.patch_if.ensures

pub emit-returns-in_ok-put-in-While-2 : goal.emit-returns-in_ok-put-in-While-2
emit-returns-in_ok-put-in-While-2 t c =
    on_ok_weaker c.patch_while.result (while_done _ _ _ _ _ _ _ _ _ _ c.in-While.is (c.len-at-in-While.ensures ∙ c.args.code.now.ok.0) c.in_ok-put-in-While.ensures c.as_slice-in-While.ensures c.in_ok-emit_block-in-While.ensures c.in_ok-put-in-While-2.ensures) c.patch_while.ensures
