-- What holds of the workspace and the journal that a lock guards.
use Rattle.std.specs.Prelude.{◌≡◌, ◌≤◌, [], ◌∷◌, ◌++◌}
use Rattle.hangar_core.specs.declared.actions.Action.{Action}
use Rattle.hangar_core.specs.declared.entries.Entry.{Entry}
use Rattle.hangar_core.specs.Journals.{accepted_in, after_entries}
use Rattle.hangar_core.specs.ValidWorkspaces.{CountedWorkspace, IsOfSameSession, IsStepped}
use Rattle.hangar_lock.specs.declared.desk.Desk.{Desk}
use Rattle.hangar_lock.specs.declared.receipts.Receipt.{Receipt}
use Rattle.hangar_lock.specs.Pasts.{IsPast}

-- a step of the workspace, and what was told of it
abbrev pub IsDeskStepped : Desk → Desk → Action → Receipt → Type 0
IsDeskStepped before after action receipt = IsStepped before.hangar after.hangar action receipt.reply

-- the entry with its reply stands behind the others
abbrev pub HasNoted : Desk → Desk → Entry → Receipt → Type 0
HasNoted before after entry receipt = after.journal ≡ before.journal ++ (entry, receipt.reply) ∷ []

-- the workspace is what the opened one is after the journal
pub record IsDesk (opened : CountedWorkspace) (desk : Desk) : Type 0 where
  pub past : IsPast opened.workspace desk.journal
  pub workspace : desk.hangar.workspace ≡ after_entries opened.workspace desk.journal
  pub session : IsOfSameSession opened.workspace desk.hangar.workspace
  pub counted : desk.hangar.accepted ≤ accepted_in desk.journal
