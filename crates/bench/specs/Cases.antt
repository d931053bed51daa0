-- Worked cases: which frames are noted, and what chapters are gained.
use Rattle.std.specs.Prelude.{◌≡◌, ℕ, pos, List, [], ◌∷◌, None, map, refl}
use Rattle.aerie_base.specs.declared.values.Value.TheVariants as value
use Rattle.aerie_base.specs.Paths.{root}
use Rattle.run_data.specs.TaskFrames.{Frame}
use Rattle.run_data.specs.declared.frames.Status.TheVariants.{Done}
use Rattle.run_data.specs.declared.tasks.BodyId.TheVariants.{Activity}
use Rattle.run_data.specs.Records.{record_of}
use Rattle.bench.specs.Chapters.{cost_of_records}
use Rattle.bench.specs.HeldSteps.{records_of_kept}
use Rattle.run_data.specs.declared.runs.Instant.{Instant}
use Rattle.bench.specs.Noting.{between, unheld}

-- a step of a directive to the end of its body, from a state with a number
abbrev step_from : ℕ → ℕ → Frame
step_from id number = record {
  path = root id;
  before = record { kind = Activity 0; at = 0; locals = value.Int (pos number) ∷ [] };
  reads = [];
  items = [];
  status = Done None;
  cost = 2;
}

-- what is held is not noted, whichever task it was run for
pub a_held_step_is_not_noted : unheld (record_of (step_from 1 7) ∷ []) (step_from 2 7 ∷ step_from 3 8 ∷ []) ≡ step_from 3 8 ∷ []
a_held_step_is_not_noted = refl

-- a step that was run twice is noted twice, since both runs were paid for
pub a_step_that_was_run_twice_is_noted_twice : unheld [] (step_from 1 7 ∷ step_from 2 7 ∷ []) ≡ step_from 1 7 ∷ step_from 2 7 ∷ []
a_step_that_was_run_twice_is_noted_twice = refl

pub costs_of_two_records : cost_of_records (record_of (step_from 1 7) ∷ record_of (step_from 2 8) ∷ []) ≡ 4
costs_of_two_records = refl

-- without a kept run there is nothing to be found in it
pub no_kept_run : records_of_kept None ≡ []
no_kept_run = refl

-- ---- the instants that are looked at

abbrev instants : List Instant
instants = map (λ (time : ℕ). record { time = time; batches = []; changed = [] }) (2 ∷ 5 ∷ 6 ∷ 9 ∷ [])

pub all_but_the_first_and_the_last_two : map (λ (one : Instant). one.time) (between 1 2 instants) ≡ 5 ∷ []
all_but_the_first_and_the_last_two = refl

pub all_where_none_is_shared : map (λ (one : Instant). one.time) (between 0 0 instants) ≡ 2 ∷ 5 ∷ 6 ∷ 9 ∷ []
all_where_none_is_shared = refl
