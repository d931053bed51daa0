-- A file of lemmas: what it proves need not be read to trust a clause.
--
-- Runs may be shared by threads.
use denote.Builtin
use denote.Param.Send.{IsSend, IsSync, view_send, view_sync}
use denote.Param.SendFields.{as_row_send, as_row_sync, declared_send, declared_sync, variants_send, variants_sync}
use denote.Struct.Field
use denote.Struct.Tuple.{Tuple}
use mathlib.Core.List.{[], ◌∷◌}
use Rattle.effect_cells.specs.contracts.effects.CellState as CellStateRow
use Rattle.run_data.specs.contracts.runs.Run as RunRow
use Rattle.run_data.specs.contracts.frames.Status as StatusRow
use Rattle.run_data.specs.contracts.frames.Record as RecordRow
use Rattle.run_data.specs.contracts.frames.Frame as FrameRow
use Rattle.run_data.specs.contracts.frames.Frame.TheInside as FrameInside
use Rattle.run_data.specs.contracts.runs.Instant as InstantRow
use Rattle.run_data.specs.contracts.kept.Kept as KeptRow
use Rattle.run_data.specs.contracts.kept.Kept.TheInside as KeptInside
use Rattle.run_data.proofs.runs.Outcome.TheSendSync as OutcomeSent
use Rattle.aerie_base.proofs.plans.Plan.TheSendSync as PlanSent
use Rattle.aerie_base.proofs.values.Value.TheSendSync as ValueSent
use Rattle.aerie_base.proofs.faults.Fault.TheSendSync as FaultSent
use Rattle.std.proofs.option.Option.TheSendSync as OptionSent
use Rattle.run_data.proofs.tasks.TaskState.TheSendSync as TaskStateSent
use Rattle.run_data.proofs.frames.Item.TheSendSync as ItemSent
use Rattle.aerie_base.proofs.containers.list.List.TheSendSync as ListSent
use Rattle.aerie_base.proofs.containers.shared.Shared.TheSendSync as SharedSent
use Rattle.aerie_base.proofs.paths.Path.TheSendSync as PathSent
use Rattle.aerie_base.proofs.numbers.number.Number.TheSendSync as NumberSent
use Rattle.aerie_base.proofs.numbers.time.Time.TheSendSync as TimeSent
use Rattle.effect_cells.proofs.effects.CellState.TheSendSync as CellStateSent
use Rattle.sharing.specs.Models.{cond_send, cond_sync, model_send, model_sync}
use Rattle.sharing.specs.Tuples.{pair_send, pair_sync, u16_send, u16_sync, u64_send, u64_sync}

cell_read_sync : IsSync (Tuple (denote.Builtin.u16 ∷ CellStateRow.the_row ∷ []))
cell_read_sync = pair_sync denote.Builtin.u16 CellStateRow.the_row u16_sync CellStateSent.the_sync

cell_read_send : IsSend (Tuple (denote.Builtin.u16 ∷ CellStateRow.the_row ∷ []))
cell_read_send = pair_send denote.Builtin.u16 CellStateRow.the_row u16_send CellStateSent.the_send

pub status_sync : IsSync StatusRow.the_row
status_sync = variants_sync StatusRow.enum (
  (NumberSent.the_sync, (SharedSent.the_sync _ TaskStateSent.the_send TaskStateSent.the_sync, tt)),
  (
    (SharedSent.the_sync _ cond_send cond_sync, (SharedSent.the_sync _ TaskStateSent.the_send TaskStateSent.the_sync, tt)),
    (
      (OptionSent.the_sync _ u16_sync, (SharedSent.the_sync _ TaskStateSent.the_send TaskStateSent.the_sync, tt)),
      (
        (OptionSent.the_sync _ ValueSent.the_sync, tt),
        ((FaultSent.the_sync, tt), tt),
      ),
    ),
  ),
)

pub status_send : IsSend StatusRow.the_row
status_send = variants_send StatusRow.enum (
  (NumberSent.the_send, (SharedSent.the_send _ TaskStateSent.the_send TaskStateSent.the_sync, tt)),
  (
    (SharedSent.the_send _ cond_send cond_sync, (SharedSent.the_send _ TaskStateSent.the_send TaskStateSent.the_sync, tt)),
    (
      (OptionSent.the_send _ u16_send, (SharedSent.the_send _ TaskStateSent.the_send TaskStateSent.the_sync, tt)),
      (
        (OptionSent.the_send _ ValueSent.the_send, tt),
        ((FaultSent.the_send, tt), tt),
      ),
    ),
  ),
)

pub record_sync : IsSync RecordRow.the_row
record_sync = declared_sync RecordRow.the_type (SharedSent.the_sync _ TaskStateSent.the_send TaskStateSent.the_sync, (ListSent.the_sync _ cell_read_sync, (ListSent.the_sync _ ItemSent.the_sync, (status_sync, (as_row_sync denote.Struct.Field.u64-field u64_sync, tt)))))

pub record_send : IsSend RecordRow.the_row
record_send = declared_send RecordRow.the_type (SharedSent.the_send _ TaskStateSent.the_send TaskStateSent.the_sync, (ListSent.the_send _ cell_read_send, (ListSent.the_send _ ItemSent.the_send, (status_send, (as_row_send denote.Struct.Field.u64-field u64_send, tt)))))

frame_inside_sync : IsSync FrameInside.the_row
frame_inside_sync = declared_sync FrameInside.the_type (SharedSent.the_sync _ PathSent.the_send PathSent.the_sync, (SharedSent.the_sync _ record_send record_sync, tt))

frame_inside_send : IsSend FrameInside.the_row
frame_inside_send = declared_send FrameInside.the_type (SharedSent.the_send _ PathSent.the_send PathSent.the_sync, (SharedSent.the_send _ record_send record_sync, tt))

pub frame_sync : IsSync FrameRow.the_row
frame_sync = view_sync FrameInside.the_row _ _ _ _ frame_inside_sync

pub frame_send : IsSend FrameRow.the_row
frame_send = view_send FrameInside.the_row _ _ _ _ frame_inside_send

pub instant_sync : IsSync InstantRow.the_row
instant_sync = declared_sync InstantRow.the_type (TimeSent.the_sync, (ListSent.the_sync _ (ListSent.the_sync _ frame_sync), (ListSent.the_sync _ cell_read_sync, tt)))

pub instant_send : IsSend InstantRow.the_row
instant_send = declared_send InstantRow.the_type (TimeSent.the_send, (ListSent.the_send _ (ListSent.the_send _ frame_send), (ListSent.the_send _ cell_read_send, tt)))

pub run_sync : IsSync RunRow.the_row
run_sync = declared_sync RunRow.the_type (SharedSent.the_sync _ PlanSent.the_send PlanSent.the_sync, (as_row_sync denote.Struct.Field.u64-field u64_sync, (ListSent.the_sync _ (SharedSent.the_sync _ instant_send instant_sync), (TimeSent.the_sync, (OutcomeSent.the_sync, tt)))))

pub run_send : IsSend RunRow.the_row
run_send = declared_send RunRow.the_type (SharedSent.the_send _ PlanSent.the_send PlanSent.the_sync, (as_row_send denote.Struct.Field.u64-field u64_send, (ListSent.the_send _ (SharedSent.the_send _ instant_send instant_sync), (TimeSent.the_send, (OutcomeSent.the_send, tt)))))

kept_inside_sync : IsSync KeptInside.the_row
kept_inside_sync = declared_sync KeptInside.the_type (SharedSent.the_sync _ model_send model_sync, (run_sync, tt))

kept_inside_send : IsSend KeptInside.the_row
kept_inside_send = declared_send KeptInside.the_type (SharedSent.the_send _ model_send model_sync, (run_send, tt))

pub kept_sync : IsSync KeptRow.the_row
kept_sync = view_sync KeptInside.the_row _ _ _ _ kept_inside_sync

pub kept_send : IsSend KeptRow.the_row
kept_send = view_send KeptInside.the_row _ _ _ _ kept_inside_send
