-- What the works share may be shared, and the works may be sent.
use denote.Exit
use denote.Param.Send.{IsSend, arg_send, arg_sync, param_send, param_sync, shr_sync}
use denote.Param.SendFields.{variants_send}
use Rattle.aerie_base.proofs.containers.shared.Shared.TheSendSync as SharedSent
use Rattle.std.proofs.alloc.Global.TheSendSync as GlobalSent
use Rattle.std.proofs.vec.Vec.TheSendSync as VecSent
use Rattle.std.proofs.Crossing.{frees}
use Rattle.std.specs.contracts.alloc.Global as GlobalRow
use Rattle.std.specs.contracts.impls.GlobalAllocator.TheImpl as GlobalImpl
use Rattle.record_book.specs.contracts.chapters.Chapter as ChapterRow
use Rattle.history_store.specs.Sharing.{chapter_send, store_sync}
use Rattle.sharing.specs.Models.{model_send, model_sync}
use Rattle.sharing.specs.Tuples.{three_captured_sync}
use Rattle.history_tests.specs.contracts.threads.Work as WorkRow
use Rattle.history_tests.proofs.threads.do_works.Goals as goal

work_send : IsSend WorkRow.the_row
work_send = variants_send WorkRow.enum (
  (VecSent.the_send ChapterRow.the_row GlobalRow.the_row GlobalImpl.ghosts chapter_send GlobalSent.the_send frees, tt),
  ((SharedSent.the_send _ model_send model_sync, tt), tt),
)

-- src/threads.rt:119:17
pub map_vec-requires-send-J : goal.map_vec-requires-send-J
map_vec-requires-send-J g c κs within = param_send 1 _ (arg_send _ denote.Exit.no _ work_send)

pub map_vec-requires-sync-F : goal.map_vec-requires-sync-F
map_vec-requires-sync-F g c κs within =
    param_sync 4 _ (arg_sync _ denote.Exit.no _ (three_captured_sync _ _ _ _
    (shr_sync _ _ _ c.type_bounds.sync-R)
    (shr_sync _ _ _ GlobalSent.the_sync)
    (shr_sync _ _ _ store_sync)))
