-- A file of lemmas: chapters, stores and receipts may be shared by threads, and sent to them.
use denote.Param.Send.{IsSend, IsSync, view_send, view_sync}
use denote.Param.SendFields.{declared_send, declared_sync}
use denote.RattleType.{RattleType}
use Rattle.aerie_base.proofs.containers.list.List.TheSendSync as ListSent
use Rattle.aerie_base.proofs.containers.shared.Shared.TheSendSync as SharedSent
use Rattle.boxcar.proofs.vec.Vec.TheSendSync as VecSent
use Rattle.boxcar.proofs.table.Placed.TheSendSync as PlacedSent
use Rattle.boxcar.specs.contracts.vec.Vec as VecOf
use Rattle.boxcar.specs.contracts.vec.AnythingKeeps.TheImpl as AnythingImpl
use Rattle.boxcar.specs.contracts.vec.Anything as AnythingRow
use Rattle.std.specs.contracts.alloc.Global as GlobalRow
use Rattle.std.specs.contracts.impls.GlobalAllocator.TheImpl as GlobalImpl
use Rattle.std.proofs.alloc.Global.TheSendSync as GlobalSent
use Rattle.std.proofs.Crossing.{crosses, frees}
use Rattle.std.specs.contracts.snapshot.Snapshot as SnapshotRow
use Rattle.record_book.specs.contracts.chapters.Chapter as ChapterRow
use Rattle.record_book.specs.contracts.chapters.Chapter.TheInside as ChapterInside
use Rattle.history_store.specs.contracts.store.Store as StoreRow
use Rattle.history_store.specs.contracts.store.Store.TheInside as StoreInside
use Rattle.history_store.specs.contracts.store.Receipt as ReceiptRow
use Rattle.history_store.specs.contracts.store.Receipt.TheInside as ReceiptInside
use Rattle.sharing.specs.Models.{model_send, model_sync}
use Rattle.sharing.specs.Runs.{record_send, record_sync}

chapter_inside_send : IsSend ChapterInside.the_row
chapter_inside_send = declared_send ChapterInside.the_type (SharedSent.the_send _ model_send model_sync, (ListSent.the_send _ (SharedSent.the_send _ record_send record_sync), tt))

chapter_inside_sync : IsSync ChapterInside.the_row
chapter_inside_sync = declared_sync ChapterInside.the_type (SharedSent.the_sync _ model_send model_sync, (ListSent.the_sync _ (SharedSent.the_sync _ record_send record_sync), tt))

pub chapter_send : IsSend ChapterRow.the_row
chapter_send = view_send ChapterInside.the_row _ _ _ _ chapter_inside_send

pub chapter_sync : IsSync ChapterRow.the_row
chapter_sync = view_sync ChapterInside.the_row _ _ _ _ chapter_inside_sync

-- the vector of a store
abbrev VecRow : RattleType
VecRow = VecOf.the_row ChapterRow.the_row GlobalRow.the_row AnythingRow.the_row GlobalImpl.ghosts (AnythingImpl.ghosts ChapterRow.the_row)

vec_send : IsSend VecRow
vec_send = VecSent.the_send ChapterRow.the_row GlobalRow.the_row AnythingRow.the_row GlobalImpl.ghosts (AnythingImpl.ghosts ChapterRow.the_row) chapter_send GlobalSent.the_send frees

vec_sync : IsSync VecRow
vec_sync = VecSent.the_sync ChapterRow.the_row GlobalRow.the_row AnythingRow.the_row GlobalImpl.ghosts (AnythingImpl.ghosts ChapterRow.the_row) chapter_send GlobalSent.the_send chapter_sync GlobalSent.the_sync frees

store_inside_sync : IsSync StoreInside.the_row
store_inside_sync = declared_sync StoreInside.the_type (vec_sync, tt)

store_inside_send : IsSend StoreInside.the_row
store_inside_send = declared_send StoreInside.the_type (vec_send, tt)

pub store_send : IsSend StoreRow.the_row
store_send = view_send StoreInside.the_row _ _ _ _ store_inside_send

pub store_sync : IsSync StoreRow.the_row
store_sync = view_sync StoreInside.the_row _ _ _ _ store_inside_sync

snapshot_send : IsSend (SnapshotRow.the_row VecRow)
snapshot_send = search crosses

snapshot_sync : IsSync (SnapshotRow.the_row VecRow)
snapshot_sync = search crosses

receipt_inside_send : IsSend ReceiptInside.the_row
receipt_inside_send = declared_send ReceiptInside.the_type (PlacedSent.the_send ChapterRow.the_row AnythingRow.the_row GlobalRow.the_row (AnythingImpl.ghosts ChapterRow.the_row) GlobalImpl.ghosts, (snapshot_send, tt))

pub receipt_send : IsSend ReceiptRow.the_row
receipt_send = view_send ReceiptInside.the_row _ _ _ _ receipt_inside_send

receipt_inside_sync : IsSync ReceiptInside.the_row
receipt_inside_sync = declared_sync ReceiptInside.the_type (PlacedSent.the_sync ChapterRow.the_row AnythingRow.the_row GlobalRow.the_row (AnythingImpl.ghosts ChapterRow.the_row) GlobalImpl.ghosts, (snapshot_sync, tt))

pub receipt_sync : IsSync ReceiptRow.the_row
receipt_sync = view_sync ReceiptInside.the_row _ _ _ _ receipt_inside_sync
