-- What holds of all entries of a journal.
use Rattle.std.specs.List.{AllByRecursion}
use Rattle.hangar_core.specs.declared.replies.Reply.{Reply}
use Rattle.hangar_core.specs.declared.workspaces.Workspace.{Workspace}
use Rattle.hangar_core.specs.Journals.{Entries, IsReplay}
use Rattle.hangar_core.specs.ValidWorkspaces.{IsActionOn, IsReplyOf}

-- what a Fetch answered is of the models of a workspace
abbrev pub IsReplyIn : Workspace → Reply → Type 0
IsReplyIn workspace reply = IsReplyOf workspace.models workspace.duration reply

-- what may have been done since a workspace was opened: each reply is the workspace's after all entries before it, and all
-- plans and kept runs, those that are placed or kept and those that are fetched, are of the workspace's models
pub record IsPast (opened : Workspace) (entries : Entries) : Type 0 where
  pub replayed : IsReplay opened entries
  pub actions : AllByRecursion (λ told. IsActionOn opened told.0.action) entries
  pub replies : AllByRecursion (λ told. IsReplyIn opened told.1) entries
