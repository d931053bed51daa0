-- Worked cases: what a report may tell of its statements, and how far the steps rise.
use Rattle.std.specs.Prelude.{◌≡◌, ℕ, true, false, List, refl}
use Rattle.commands.specs.declared.commands.Command.TheVariants.{Show, Simulate, Schedule}
use Rattle.hangar_core.specs.declared.replies.Reply.TheVariants.{NoBranch}
use Rattle.client_work.specs.declared.missions.Mission.{Mission}
use Rattle.client_work.specs.Counts.{IsRise, PaysAsFetched, simulates, tells_its_steps}

module _ (mission : Mission) (branch : List ℕ) where
  -- where there is no branch nothing is simulated, and nothing is paid
  pub nothing_is_paid_without_a_branch : PaysAsFetched mission NoBranch 0
  nothing_is_paid_without_a_branch = refl

  -- a simulation that took seven steps tells seven
  pub seven_steps_are_told : IsRise (Simulate branch) 7 7
  seven_steps_are_told = refl

  -- one that found all of its steps tells none
  pub no_step_is_told : IsRise (Simulate branch) 0 0
  no_step_is_told = refl

  -- the count that is told stays at the last number of 64 bits
  pub the_last_number_is_told : IsRise (Simulate branch) 18_446_744_073_709_551_615 18_446_744_073_709_551_620
  the_last_number_is_told = refl

  -- a command that only looks takes no step
  pub a_look_takes_no_step : IsRise (Show branch) 0 0
  a_look_takes_no_step = refl

  -- a schedule simulates, and tells no count
  pub a_schedule_simulates : simulates (Schedule branch) ≡ true
  a_schedule_simulates = refl

  pub a_schedule_tells_no_count : tells_its_steps (Schedule branch) ≡ false
  a_schedule_tells_no_count = refl

  pub a_simulation_tells_its_count : tells_its_steps (Simulate branch) ≡ true
  a_simulation_tells_its_count = refl
