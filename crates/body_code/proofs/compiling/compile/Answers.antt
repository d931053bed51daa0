use Rattle.std.proofs.Common.{◌∙◌}
use Rattle.body_code.proofs.Rooms.{room_all}
use Rattle.body_code.proofs.CodeOfBody.{is_code, flat_is}
use Rattle.body_code.proofs.compiling.compile.Goals as goal

pub emit_block-requires : goal.emit_block-requires
emit_block-requires c = room_all _ _ c.new-code.ensures.items c.requires.few

pub returns-clause-denotes : goal.returns-clause-denotes
returns-clause-denotes c = is_code _ _ (c.from_vec.ensures ∙ flat_is _ _ _ _ c.new-code.ensures.items c.in_ok-emit_block.ensures c.in_ok-put.ensures)

pub returns-clause-flat : goal.returns-clause-flat
returns-clause-flat c = c.from_vec.ensures ∙ flat_is _ _ _ _ c.new-code.ensures.items c.in_ok-emit_block.ensures c.in_ok-put.ensures
