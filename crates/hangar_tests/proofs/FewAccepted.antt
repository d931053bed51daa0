-- A step accepts one action or none.
use Rattle.std.proofs.Common.{◌+◌, ◌≤◌, arith}
use Rattle.hangar_core.specs.declared.actions.Action.{Action}
use Rattle.hangar_core.specs.declared.replies.Reply.{Reply}
use Rattle.hangar_core.specs.declared.replies.Reply.TheVariants.{Opened, Dropped, Added, Edited, Loaded, Fetched, Attached, Placed, NoBranch, BranchExists, TooManyBranches, NoMapping, Unmapped, Misfit, Edit, Stale}
use Rattle.hangar_core.specs.Replies.{accepted_with}
use Rattle.hangar_core.specs.ValidWorkspaces.{CountedWorkspace, IsStepped}

one_or_none : (reply : Reply) → accepted_with reply ≤ 1
one_or_none (Opened revision) = omega arith
one_or_none Dropped = omega arith
one_or_none (Added id revision) = omega arith
one_or_none (Edited revision) = omega arith
one_or_none (Loaded first count revision) = omega arith
one_or_none (Fetched revision plan kept) = omega arith
one_or_none Attached = omega arith
one_or_none (Placed revision) = omega arith
one_or_none NoBranch = omega arith
one_or_none BranchExists = omega arith
one_or_none TooManyBranches = omega arith
one_or_none NoMapping = omega arith
one_or_none (Unmapped id) = omega arith
one_or_none (Misfit id number) = omega arith
one_or_none (Edit refusal) = omega arith
one_or_none (Stale seen now) = omega arith

pub few_after : (before after : CountedWorkspace) (action : Action) (told : Reply) → IsStepped before after action told →
    after.accepted ≤ before.accepted + 1
few_after before after action told stepped = let counted = stepped.counted in let few = one_or_none told in omega (arith, counted, few)
