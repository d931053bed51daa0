-- Worked cases: a new run of three instants beside an old one.
use Rattle.std.specs.Prelude.{◌≡◌, ℕ, zero, suc, ◌<◌, ◌≤◌, nat_eq, true, false, if◌then◌else◌, List, [], ◌∷◌, Some, None, refl}
use Rattle.std.proofs.Common.{subst, arith, lit<, lit≤}
use Rattle.aerie_base.specs.Paths.{root}
use Rattle.run_data.specs.TaskFrames.{Frame}
use Rattle.run_data.specs.declared.frames.Status.TheVariants.{Done}
use Rattle.run_data.specs.declared.runs.Instant.{Instant}
use Rattle.run_data.specs.declared.tasks.BodyId.TheVariants.{Activity}
use Rattle.resimulate.specs.EvenInstants.{frames_of_others}
use Rattle.resimulate.specs.SharedEnds.{SharesEnds}
use Rattle.resimulate.specs.OldBatches.{AreEarly, IsFirstFrom, instant_at_time, batch_at}

-- a step to the end of the body of a directive
abbrev last_step : ℕ → Frame
last_step id = record {
  path = root id;
  before = record { kind = Activity 0; at = 0; locals = [] };
  reads = [];
  items = [];
  status = Done None;
  cost = 1;
}

abbrev instant : ℕ → List (List Frame) → Instant
instant time batches = record { time = time; batches = batches; changed = [] }

abbrev instants : List Instant
instants =
    instant 2 ((last_step 1 ∷ []) ∷ []) ∷ instant 5 ((last_step 2 ∷ []) ∷ (last_step 3 ∷ []) ∷ []) ∷ instant 9 ((last_step 4 ∷ []) ∷ []) ∷ []

-- the batch beside is that of the same time and place
pub the_second_batch_at_five : batch_at 5 1 instants ≡ Some (last_step 3 ∷ [])
the_second_batch_at_five = refl

pub no_third_batch_at_five : batch_at 5 2 instants ≡ None
no_third_batch_at_five = refl

pub no_instant_at_six : instant_at_time 6 instants ≡ None
no_instant_at_six = refl

-- the first instant that is not before 6 is that at 9, and not that at 5
pub two_are_before_six : IsFirstFrom 6 2 instants
two_are_before_six = record { early = by; late = λ one there. (let same : instant 9 ((last_step 4 ∷ []) ∷ []) ≡ one = cc in subst (λ (i : Instant). 6 ≤ i.time) same (lit≤ tt)) }
  where
    by : AreEarly 6 2 instants
    by zero one there less = (let same : instant 2 ((last_step 1 ∷ []) ∷ []) ≡ one = cc in subst (λ (i : Instant). i.time < 6) same (lit< tt))
    by (suc zero) one there less = (let same : instant 5 ((last_step 2 ∷ []) ∷ (last_step 3 ∷ []) ∷ []) ≡ one = cc in subst (λ (i : Instant). i.time < 6) same (lit< tt))
    by (suc (suc k)) one there less = absurd (omega (arith, less))

pub no_two_are_before_five : AreEarly 5 2 instants → ⊥
no_two_are_before_five early = (let less = early 1 (instant 5 ((last_step 2 ∷ []) ∷ (last_step 3 ∷ []) ∷ [])) refl (lit< tt) in absurd (omega (arith, less)))

-- where the instant at 5 alone differs, its frames alone may be paid for
pub frames_of_the_uneven_instant : frames_of_others (λ one. if nat_eq one.time 5 then false else true) instants ≡ last_step 2 ∷ last_step 3 ∷ []
frames_of_the_uneven_instant = refl

-- where no instant is even, all are
pub frames_of_all : frames_of_others (λ one. false) instants ≡ last_step 1 ∷ last_step 2 ∷ last_step 3 ∷ last_step 4 ∷ []
frames_of_all = refl

-- ---- what two runs have in common

-- a run whose second instant is at 6 in place of 5
abbrev moved : List Instant
moved = instant 2 ((last_step 1 ∷ []) ∷ []) ∷ instant 6 ((last_step 2 ∷ []) ∷ (last_step 3 ∷ []) ∷ []) ∷ instant 9 ((last_step 4 ∷ []) ∷ []) ∷ []

pub the_first_and_the_last_instant : SharesEnds instants moved 1 1
the_first_and_the_last_instant = record {
  front = instant 2 ((last_step 1 ∷ []) ∷ []) ∷ [];
  between = instant 6 ((last_step 2 ∷ []) ∷ (last_step 3 ∷ []) ∷ []) ∷ [];
  old_between = instant 5 ((last_step 2 ∷ []) ∷ (last_step 3 ∷ []) ∷ []) ∷ [];
  back = instant 9 ((last_step 4 ∷ []) ∷ []) ∷ [];
  is = refl;
  is_old = refl;
  first = refl;
  last = refl;
}
