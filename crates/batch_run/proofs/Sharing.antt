-- What the pieces of a wave share may be shared by threads, and the waves that they give may be sent.
use denote.Builtin
use denote.Param.Send.{IsSend, IsSync, sendable, view_send}
use denote.Param.SendFields.{as_row_send, as_row_sync, declared_send, declared_sync, variants_send}
use denote.RattleType.{RattleType}
use denote.Struct.Field
use denote.Struct.Field.{row_field}
use denote.Struct.Tuple.{TupleAt, type_at}
use mathlib.Core.List.{[], ◌∷◌}
use mir.Syntax.{Sym}
use Rattle.aerie_base.proofs.containers.list.List.TheSendSync as ListSent
use Rattle.aerie_base.proofs.memory.OutOfMemory.TheSendSync as OutOfMemorySent
use Rattle.aerie_base.specs.contracts.memory.OutOfMemory as OutOfMemoryRow
use Rattle.run_data.specs.contracts.steppers.Wave as WaveRow
use Rattle.std.proofs.result.Result.TheSendSync as ResultSent
use Rattle.std.specs.contracts.result.Result as ResultRow
use Rattle.task_step.specs.contracts.fresh_wave.FreshWave as FreshRow
use Rattle.task_step.specs.contracts.fresh_wave.FreshWave.TheInside as FreshInside
use Rattle.sharing.specs.Runs.{frame_send}
use Rattle.sharing.specs.Tuples.{u64_send}

pub usize_sync : IsSync denote.Builtin.usize
usize_sync = search sendable

wave_send : IsSend WaveRow.the_row
wave_send = variants_send WaveRow.enum ((ListSent.the_send _ frame_send, tt), (tt, tt))

fresh_inside_send : IsSend FreshInside.the_row
fresh_inside_send = declared_send FreshInside.the_type (wave_send, (as_row_send denote.Struct.Field.u64-field u64_send, tt))

fresh_wave_send : IsSend FreshRow.the_row
fresh_wave_send = view_send FreshInside.the_row _ _ _ _ fresh_inside_send

-- what a piece gives
pub piece_send : IsSend (ResultRow.the_row FreshRow.the_row OutOfMemoryRow.the_row)
piece_send = ResultSent.the_send _ _ fresh_wave_send OutOfMemorySent.the_send

-- the type of a closure that captures six values
pub six_captured_sync : (ν : Sym) (A B C D E F : RattleType) → IsSync A → IsSync B → IsSync C → IsSync D → IsSync E → IsSync F → IsSync (TupleAt ν (A ∷ B ∷ C ∷ D ∷ E ∷ F ∷ []))
six_captured_sync ν A B C D E F a b c d e f =
    declared_sync (type_at ν (A ∷ B ∷ C ∷ D ∷ E ∷ F ∷ [])) (
      as_row_sync (row_field A) a,
      (
        as_row_sync (row_field B) b,
        (as_row_sync (row_field C) c, (as_row_sync (row_field D) d, (as_row_sync (row_field E) e, (as_row_sync (row_field F) f, tt)))),
      ),
    )
