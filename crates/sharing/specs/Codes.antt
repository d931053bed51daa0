-- A file of lemmas: what it proves need not be read to trust a clause.
--
-- Compiled bodies may be shared by threads.
use denote.Param.Send.{IsSend, IsSync, view_send, view_sync}
use denote.Param.SendFields.{as_row_send, as_row_sync, declared_send, declared_sync, variants_send, variants_sync}
use denote.Struct.Field
use Rattle.aerie_base.proofs.containers.list.List.TheSendSync as ListSent
use Rattle.body_code.specs.contracts.codes.Code as CodeRow
use Rattle.body_code.specs.contracts.codes.Code.TheInside as CodeInside
use Rattle.body_code.specs.contracts.instructions.Instruction as InstructionRow
use Rattle.sharing.specs.Models.{expr_send, expr_sync, stmt_send, stmt_sync}
use Rattle.sharing.specs.Tuples.{u32_send, u32_sync}

pub instruction_sync : IsSync InstructionRow.the_row
instruction_sync = variants_sync InstructionRow.enum (
  (stmt_sync, tt),
  (
    (expr_sync, (as_row_sync denote.Struct.Field.u32-field u32_sync, tt)),
    ((as_row_sync denote.Struct.Field.u32-field u32_sync, tt), (tt, tt)),
  ),
)

code_inside_sync : IsSync CodeInside.the_row
code_inside_sync = declared_sync CodeInside.the_type (ListSent.the_sync _ instruction_sync, tt)

pub code_sync : IsSync CodeRow.the_row
code_sync = view_sync CodeInside.the_row _ _ _ _ code_inside_sync

-- ---- and sent

pub instruction_send : IsSend InstructionRow.the_row
instruction_send = variants_send InstructionRow.enum (
  (stmt_send, tt),
  (
    (expr_send, (as_row_send denote.Struct.Field.u32-field u32_send, tt)),
    ((as_row_send denote.Struct.Field.u32-field u32_send, tt), (tt, tt)),
  ),
)

code_inside_send : IsSend CodeInside.the_row
code_inside_send = declared_send CodeInside.the_type (ListSent.the_send _ instruction_send, tt)

pub code_send : IsSend CodeRow.the_row
code_send = view_send CodeInside.the_row _ _ _ _ code_inside_send
