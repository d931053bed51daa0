-- Merges that are carried on.
use Rattle.std.specs.Prelude.{ℕ, List, [], ◌∷◌}
use Rattle.commands.specs.declared.commands.Command.TheVariants.{Merge}
use Rattle.hangar_core.specs.declared.replies.Reply.{Reply}
use Rattle.hangar_lock.specs.Passes.{LockView, PassView}
use Rattle.report_text.specs.declared.answers.Answer.{Answer}
use Rattle.client_work.specs.declared.merging.FetchedBranches.{FetchedBranches}
use Rattle.client_work.specs.declared.merging.MergeAssignment.{MergeAssignment}
use Rattle.client_work.specs.Fetching.{reply_with}
use Rattle.client_work.specs.Working.{begun, Begun, IsCarriedOn, IsPlanAt, work_state_at}

-- a merge behind the replies to its first actions
abbrev pub merge_begun : {R G : Type 0} → MergeAssignment R G → List Reply → Begun
merge_begun merge replies = begun merge.assignment.now (Merge merge.target.now merge.source.now merge.base.now) replies

-- it was carried on, whatever was counted: a merge simulates nothing
abbrev pub IsMergeCarriedOn : Begun → PassView → PassView → Answer → Type 0
IsMergeCarriedOn merge before after answer =
    (steps_before steps_after : ℕ) → IsCarriedOn merge (work_state_at before steps_before) (work_state_at after steps_after) answer

-- the branches are what the lock answered
pub record AreFetchedAt (lock : LockView) (all : FetchedBranches) : Type 0 where
  pub target : IsPlanAt lock all.target.now.plan
  pub source : IsPlanAt lock all.source.now.plan
  pub base : IsPlanAt lock all.base.now.plan

-- the replies that gave them
abbrev pub replies_with : FetchedBranches → List Reply
replies_with all = reply_with all.target.now ∷ reply_with all.source.now ∷ reply_with all.base.now ∷ []
