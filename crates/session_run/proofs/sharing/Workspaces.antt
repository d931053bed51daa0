-- Workspaces and their journals may be sent to threads.
use denote.Param.Send.{IsSend, view_send}
use denote.Param.SendFields.{as_row_send, declared_send}
use denote.Struct.Field
use Rattle.aerie_base.proofs.containers.list.List.TheSendSync as ListSent
use Rattle.aerie_base.proofs.containers.shared.Shared.TheSendSync as SharedSent
use Rattle.aerie_base.proofs.names.Name.TheSendSync as NameSent
use Rattle.aerie_base.proofs.numbers.time.Time.TheSendSync as TimeSent
use Rattle.hangar_core.specs.contracts.actions.Action as ActionRow
use Rattle.hangar_core.specs.contracts.branches.Branch as BranchRow
use Rattle.hangar_core.specs.contracts.hangar.Hangar as HangarRow
use Rattle.hangar_core.specs.contracts.hangar.Hangar.TheInside as HangarInside
use Rattle.hangar_core.specs.contracts.journal.Journal as JournalRow
use Rattle.hangar_core.specs.contracts.journal.Journal.TheInside as JournalInside
use Rattle.hangar_core.specs.contracts.replies.Reply as ReplyRow
use Rattle.hangar_core.specs.contracts.triples.Triple as TripleRow
use Rattle.hangar_core.specs.contracts.triples.Triple.TheInside as TripleInside
use Rattle.hangar_core.specs.contracts.workspaces.Workspace as WorkspaceRow
use Rattle.hangar_core.proofs.held_plans.HeldPlan.TheSendSync as HeldPlanSent
use Rattle.hangar_core.proofs.last_revisions.LastRevisions.TheSendSync as LastRevisionsSent
use Rattle.plan_edit.proofs.mappings.Mapping.TheSendSync as MappingSent
use Rattle.std.proofs.Crossing.{crosses}
use Rattle.std.proofs.option.Option.TheSendSync as OptionSent
use Rattle.std.specs.contracts.snapshot.Snapshot as SnapshotRow
use Rattle.sharing.specs.Models.{model_send, model_sync}
use Rattle.sharing.specs.Runs.{kept_send, kept_sync}
use Rattle.sharing.specs.Tuples.{u32_send, u64_send}

pub branch_send : IsSend BranchRow.the_row
branch_send = declared_send BranchRow.the_type (NameSent.the_send, (as_row_send denote.Struct.Field.u64-field u64_send, (HeldPlanSent.the_send, (OptionSent.the_send _ (SharedSent.the_send _ kept_send kept_sync), tt))))

pub workspace_send : IsSend WorkspaceRow.the_row
workspace_send = declared_send WorkspaceRow.the_type (ListSent.the_send _ (SharedSent.the_send _ model_send model_sync), (ListSent.the_send _ MappingSent.the_send, (TimeSent.the_send, (ListSent.the_send _ branch_send, (LastRevisionsSent.the_send, tt)))))

hangar_inside_send : IsSend HangarInside.the_row
hangar_inside_send = declared_send HangarInside.the_type (workspace_send, (as_row_send denote.Struct.Field.u64-field u64_send, tt))

pub hangar_send : IsSend HangarRow.the_row
hangar_send = view_send HangarInside.the_row _ _ _ _ hangar_inside_send

-- what a journal knows of actions and replies by snapshots has no bytes
action_snapshot_send : IsSend (SnapshotRow.the_row ActionRow.the_row)
action_snapshot_send = search crosses

reply_snapshot_send : IsSend (SnapshotRow.the_row ReplyRow.the_row)
reply_snapshot_send = search crosses

triple_inside_send : IsSend TripleInside.the_row
triple_inside_send = declared_send TripleInside.the_type (as_row_send denote.Struct.Field.u32-field u32_send, (as_row_send denote.Struct.Field.u32-field u32_send, (as_row_send denote.Struct.Field.u32-field u32_send, (action_snapshot_send, (reply_snapshot_send, tt)))))

triple_send : IsSend TripleRow.the_row
triple_send = view_send TripleInside.the_row _ _ _ _ triple_inside_send

journal_inside_send : IsSend JournalInside.the_row
journal_inside_send = declared_send JournalInside.the_type (OptionSent.the_send _ (ListSent.the_send _ triple_send), tt)

pub journal_send : IsSend JournalRow.the_row
journal_send = view_send JournalInside.the_row _ _ _ _ journal_inside_send
