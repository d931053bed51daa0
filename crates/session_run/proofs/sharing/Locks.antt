-- A lock may be shared by threads, and passes may be sent to them.
use Rattle.std.specs.Prelude.{[], None, false}
use denote.Param.Send.{IsSend, IsSync, view_send, view_sync}
use denote.Param.SendFields.{declared_send, declared_sync}
use Rattle.hangar_lock.specs.contracts.desk.Desk as DeskRow
use Rattle.hangar_lock.specs.contracts.lock.HangarLock as LockRow
use Rattle.hangar_lock.specs.contracts.lock.HangarLock.TheInside as LockInside
use Rattle.hangar_lock.specs.contracts.lock.Pass as PassRow
use Rattle.hangar_lock.specs.contracts.lock.Pass.TheInside as PassInside
use Rattle.hangar_lock.specs.contracts.turnstile.Turnstile as TurnstileRow
use Rattle.hangar_core.specs.contracts.hangar.Hangar as HangarRow
use Rattle.hangar_lock.specs.contracts.one_journal.OneJournal as OneJournalRow
use Rattle.hangar_lock.specs.contracts.views.View as ViewRow
use Rattle.std.specs.contracts.option.Option as OptionRow
use Rattle.std.specs.contracts.snapshot.Snapshot as SnapshotRow
use Rattle.std.specs.contracts.alloc.Global as GlobalRow
use Rattle.std.proofs.alloc.Global.TheSendSync as GlobalSent
use Rattle.std.proofs.Crossing.{frees}
use Rattle.std.specs.contracts.impls.GlobalAllocator.TheImpl as GlobalImpl
use Rattle.atomic_table.proofs.shared.Seat.TheSendSync as SeatSent
use Rattle.atomic_table.proofs.owned.Table.TheSendSync as TableSent
use Rattle.std.proofs.option.Option.TheSendSync as OptionSent
use Rattle.session_run.proofs.sharing.Workspaces.{hangar_send, journal_send}

desk_send : IsSend DeskRow.the_row
desk_send = declared_send DeskRow.the_type (hangar_send, (journal_send, tt))

pass_inside_send : IsSend PassInside.the_row
pass_inside_send = declared_send PassInside.the_type (SeatSent.the_send (OptionRow.the_row DeskRow.the_row) ViewRow.the_row (OptionSent.the_send _ desk_send), tt)

pub pass_send : IsSend PassRow.the_row
pass_send = view_send PassInside.the_row _ _ _ _ pass_inside_send

-- with what its first pass knows the table's type has nothing to do
turnstile_sync : IsSync TurnstileRow.the_row
turnstile_sync = declared_sync TurnstileRow.the_type (
  TableSent.the_sync (OptionRow.the_row DeskRow.the_row) ViewRow.the_row (SnapshotRow.the_row HangarRow.the_row) OneJournalRow.the_row GlobalRow.the_row
      (record { holds = _; first = λ key. record { opened = key.value; seen = []; mine = []; stands = []; split = 0; ticket = None; inside = false } }) GlobalImpl.ghosts
      (OptionSent.the_send _ desk_send) GlobalSent.the_send GlobalSent.the_sync frees,
  tt,
)

lock_inside_sync : IsSync LockInside.the_row
lock_inside_sync = declared_sync LockInside.the_type (turnstile_sync, tt)

pub lock_sync : IsSync LockRow.the_row
lock_sync = view_sync LockInside.the_row _ _ _ _ lock_inside_sync
