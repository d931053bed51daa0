-- How many statements a report may tell: what its simulation had to pay for at most.
use Rattle.std.specs.Prelude.{◌≡◌, ℕ, Bool, true, false, min, List, [], Option, Some}
use Rattle.commands.specs.declared.commands.Command.{Command}
use Rattle.commands.specs.declared.commands.Command.TheVariants.{Simulate, Schedule, Expand}
use Rattle.hangar_core.specs.declared.replies.Reply.{Reply}
use Rattle.hangar_core.specs.declared.replies.Reply.TheVariants.{Fetched}
use Rattle.record_book.specs.StoredSteps.{records_in_run}
use Rattle.run_data.specs.KeptRuns.{KeptRun}
use Rattle.run_data.specs.RunFrames.{PaysForRun}
use Rattle.run_data.specs.Waves.{last_count}
use Rattle.client_work.specs.declared.missions.Mission.{Mission}
use Rattle.client_work.specs.Meanings.{simulated}
use Rattle.client_work.specs.Told.{reply_to}

-- The statements of a simulation, by the run that was kept on its branch, if there was one. If the run that was made is completed,
-- they are at most what its frames cost; and where the kept run is of the same model, at most what those frames cost of which it has
-- none with the same state and the same reads.
pub record PaysBeside (made : KeptRun) (kept : Option KeptRun) (statements : ℕ) : Type 0 where
  pub at_most : PaysForRun made.run [] 0 statements
  pub beside : (old : KeptRun) → kept ≡ Some old → old.model ≡ made.model → PaysForRun made.run (records_in_run old.run) 0 statements

-- by the reply to the Fetch of the branch; where that is refused nothing is simulated
abbrev pub PaysAsFetched : Mission → Reply → ℕ → Type 0
PaysAsFetched mission (Fetched revision plan kept) statements = PaysBeside (simulated mission.models mission.bound plan) kept statements
PaysAsFetched mission other statements = statements ≡ 0

-- the statements of a command, by the replies to its parts
abbrev pub PaysAsReplied : Mission → Command → List Reply → ℕ → Type 0
PaysAsReplied mission (Simulate branch) replies statements = PaysAsFetched mission (reply_to replies 0) statements
PaysAsReplied mission other replies statements = Unit {0}

-- ---- the steps of a command

-- a command that simulates once at most, and tells how many statements that took; schedules and expansions simulate too, and tell no count
abbrev pub tells_its_steps : Command → Bool
tells_its_steps (Schedule branch) = false
tells_its_steps (Expand branch) = false
tells_its_steps other = true

-- a command that simulates
abbrev pub simulates : Command → Bool
simulates (Simulate branch) = true
simulates (Schedule branch) = true
simulates (Expand branch) = true
simulates other = false

-- so far the steps rise in a command that tells them: the count is that, or the last one where it is more
abbrev pub IsRise : Command → ℕ → ℕ → Type 0
IsRise (Simulate branch) statements rise = statements ≡ min rise last_count
IsRise other statements rise = rise ≡ 0
