-- What replies say.
use Rattle.std.specs.Prelude.{ℕ, Bool, true, false}
use Rattle.hangar_core.specs.declared.replies.Reply.{Reply}
use Rattle.hangar_core.specs.declared.replies.Reply.TheVariants.{Opened, Dropped, Added, Edited, Loaded, Fetched, Attached, Placed, NoBranch, BranchExists, TooManyBranches, NoMapping, Unmapped, Misfit, Edit, Stale}

-- whether a copy of a reply takes memory
abbrev pub takes_memory : Reply → Bool
takes_memory (Opened revision) = false
takes_memory Dropped = false
takes_memory (Added id revision) = false
takes_memory (Edited revision) = false
takes_memory (Loaded first count revision) = false
takes_memory (Fetched revision plan kept) = true
takes_memory Attached = false
takes_memory (Placed revision) = false
takes_memory NoBranch = false
takes_memory BranchExists = false
takes_memory TooManyBranches = false
takes_memory NoMapping = false
takes_memory (Unmapped id) = false
takes_memory (Misfit id number) = false
takes_memory (Edit refusal) = true
takes_memory (Stale seen now) = false

-- how many actions were accepted with this reply: one, or none where it is a refusal; a Fetch is not counted
abbrev pub accepted_with : Reply → ℕ
accepted_with (Opened revision) = 1
accepted_with Dropped = 1
accepted_with (Added id revision) = 1
accepted_with (Edited revision) = 1
accepted_with (Loaded first count revision) = 1
accepted_with (Fetched revision plan kept) = 0
accepted_with Attached = 1
accepted_with (Placed revision) = 1
accepted_with NoBranch = 0
accepted_with BranchExists = 0
accepted_with TooManyBranches = 0
accepted_with NoMapping = 0
accepted_with (Unmapped id) = 0
accepted_with (Misfit id number) = 0
accepted_with (Edit refusal) = 0
accepted_with (Stale seen now) = 0
