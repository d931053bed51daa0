-- What clients work with may be shared by threads; their works may be sent to threads, and what is told of them back.
use denote.Param.Send.{IsSend, IsSync, shr_sync}
use denote.Param.SendFields.{as_row_send, as_row_sync, declared_send, declared_sync}
use denote.Ref
use denote.Ref.{NamedLft}
use denote.RattleType.{RattleType}
use denote.Struct.Field
use denote.Struct.Field.{row_field}
use Rattle.aerie_base.proofs.containers.list.List.TheSendSync as ListSent
use Rattle.aerie_base.proofs.containers.shared.Shared.TheSendSync as SharedSent
use Rattle.client_work.specs.contracts.missions.Mission as MissionRow
use Rattle.client_work.specs.contracts.missions.ReportForm as FormRow
use Rattle.client_work.specs.contracts.missions.RuledModel as RuledRow
use Rattle.client_work.specs.contracts.workplace.Workplace as WorkplaceRow
use Rattle.epoch_text.proofs.start.Start.TheSendSync as StartSent
use Rattle.hangar_lock.specs.contracts.lock.HangarLock as LockRow
use Rattle.history_store.specs.contracts.store.Store as StoreRow
use Rattle.history_store.specs.Sharing.{store_sync}
use Rattle.seq_expand.proofs.rules.Sequencing.TheSendSync as SequencingSent
use Rattle.session_run.specs.contracts.on_threads.Done as DoneRow
use Rattle.session_run.specs.contracts.on_threads.Work as WorkRow
use Rattle.std.proofs.option.Option.TheSendSync as OptionSent
use Rattle.std.proofs.string.String.TheSendSync as StringSent
use Rattle.std.proofs.alloc.Global.TheSendSync as GlobalSent
use Rattle.std.proofs.Crossing.{frees}
use Rattle.std.specs.contracts.alloc.Global as GlobalRow
use Rattle.std.specs.contracts.impls.GlobalAllocator.TheImpl as GlobalImpl
use Rattle.session_run.proofs.sharing.Locks.{lock_sync, pass_send}
use Rattle.sharing.specs.Models.{model_send, model_sync}
use Rattle.session_run.proofs.sharing.Rules.{constraint_send, constraint_sync, goal_send, goal_sync}
use Rattle.sharing.specs.Tuples.{bool_sync, u32_sync, u64_sync, usize_send}

ruled_sync : IsSync RuledRow.the_row
ruled_sync = declared_sync RuledRow.the_type (
  SharedSent.the_sync _ model_send model_sync,
  (
    SharedSent.the_sync _ (ListSent.the_send _ constraint_send) (ListSent.the_sync _ constraint_sync),
    (
      SharedSent.the_sync _ (ListSent.the_send _ goal_send) (ListSent.the_sync _ goal_sync),
      (SharedSent.the_sync _ SequencingSent.the_send SequencingSent.the_sync, tt),
    ),
  ),
)

form_sync : IsSync FormRow.the_row
form_sync = declared_sync FormRow.the_type (
  as_row_sync denote.Struct.Field.bool-field bool_sync,
  (as_row_sync denote.Struct.Field.bool-field bool_sync, tt),
)

mission_sync : IsSync MissionRow.the_row
mission_sync = declared_sync MissionRow.the_type (
  ListSent.the_sync _ ruled_sync,
  (StartSent.the_sync, (as_row_sync denote.Struct.Field.u64-field u64_sync, (form_sync, tt))),
)

pub workplace_sync : (a : NamedLft) (R G : RattleType) → IsSync R → IsSync G → IsSync (WorkplaceRow.the_row a R G)
workplace_sync a R G r g = declared_sync (WorkplaceRow.the_type a R G) (
  as_row_sync (row_field (denote.Ref.ShrRef a.mir a.lft R)) (shr_sync _ _ R r),
  (
    as_row_sync (denote.Struct.Field.shr_ref_field a MissionRow.the_row tt) (shr_sync _ _ _ mission_sync),
    (
      as_row_sync (denote.Struct.Field.shr_ref_field a LockRow.the_row tt) (shr_sync _ _ _ lock_sync),
      (
        as_row_sync (row_field (denote.Ref.ShrRef a.mir a.lft G)) (shr_sync _ _ G g),
        (
          as_row_sync (denote.Struct.Field.shr_ref_field a StoreRow.the_row tt) (shr_sync _ _ _ store_sync),
          (as_row_sync denote.Struct.Field.u32-field u32_sync, tt),
        ),
      ),
    ),
  ),
)

pub work_send : IsSend WorkRow.the_row
work_send = declared_send WorkRow.the_type (as_row_send denote.Struct.Field.usize-field usize_send, (pass_send, tt))

pub done_send : IsSend DoneRow.the_row
done_send = declared_send DoneRow.the_type (pass_send, (OptionSent.the_send _ (StringSent.the_send GlobalRow.the_row GlobalImpl.ghosts GlobalSent.the_send frees), tt))
