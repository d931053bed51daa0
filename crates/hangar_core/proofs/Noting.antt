-- Accepted actions have their entries.
use Rattle.std.proofs.Common.{◌≡◌, ◌+◌, ◌≤◌, [], ◌∷◌, ◌++◌, length, arith}
use Rattle.hangar_core.specs.declared.actions.Action.{Action}
use Rattle.hangar_core.specs.declared.entries.Entry.{Entry}
use Rattle.hangar_core.specs.declared.replies.Reply.{Reply}
use Rattle.hangar_core.specs.declared.replies.Reply.TheVariants as reply
use Rattle.hangar_core.specs.Replies.{accepted_with}
use Rattle.hangar_core.specs.Journals.{Entries, accepted_in}
use Rattle.hangar_core.specs.ValidWorkspaces.{CountedWorkspace, IsStepped}

at_most_one : (told : Reply) → accepted_with told ≤ 1
at_most_one (reply.Opened revision) = omega arith
at_most_one reply.Dropped = omega arith
at_most_one (reply.Added id revision) = omega arith
at_most_one (reply.Edited revision) = omega arith
at_most_one (reply.Loaded first count revision) = omega arith
at_most_one (reply.Fetched revision plan kept) = omega arith
at_most_one reply.Attached = omega arith
at_most_one (reply.Placed revision) = omega arith
at_most_one reply.NoBranch = omega arith
at_most_one reply.BranchExists = omega arith
at_most_one reply.TooManyBranches = omega arith
at_most_one reply.NoMapping = omega arith
at_most_one (reply.Unmapped id) = omega arith
at_most_one (reply.Misfit id number) = omega arith
at_most_one (reply.Edit refusal) = omega arith
at_most_one (reply.Stale seen now) = omega arith

pub few_accepted : (entries : Entries) → accepted_in entries ≤ length entries
few_accepted [] = omega arith
few_accepted (entry ∷ entries) = let one = at_most_one entry.1 in let rest = few_accepted entries in omega (arith, one, rest)

accepted_more : (entries : Entries) (entry : Entry × Reply) → accepted_in (entries ++ entry ∷ []) ≡ accepted_in entries + accepted_with entry.1
accepted_more [] entry = omega arith
accepted_more (first ∷ entries) entry = let rest = accepted_more entries entry in omega (arith, rest)

pub kept_after : (before after : CountedWorkspace) (entries : Entries) (action : Action) (entry : Entry) (told : Reply) →
    before.accepted ≤ accepted_in entries → IsStepped before after action told → after.accepted ≤ accepted_in (entries ++ (entry, told) ∷ [])
kept_after before after entries action entry told kept stepped =
    let more = accepted_more entries (entry, told) in let counted = stepped.counted in omega (arith, kept, more, counted)
