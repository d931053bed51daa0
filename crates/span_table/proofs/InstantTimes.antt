-- The instants of a fresh run lie no later than the time that the run reached.
use Rattle.std.proofs.Common.{◌≡◌, ℕ, zero, suc, ◌-◌, ◌<◌, ◌≤◌, min, Bool, true, false, List, [], ◌∷◌, ◌++◌, Option, Some, None, if◌then◌else◌, nat_eq, nat_lt, refl, subst, ◌∙◌, arith}
use Rattle.std.proofs.lemmas.Bool.{ltb-true}
use Rattle.std.proofs.Math.Nat.{min-le_left, min-le_right, le-min}
use Rattle.aerie_base.specs.declared.models.model.Parts.{Parts}
use Rattle.aerie_base.specs.declared.plans.Plan.{Plan}
use Rattle.aerie_base.specs.TimeOrder.{earlier}
use Rattle.effect_cells.specs.declared.effects.CellState.{CellState}
use Rattle.effect_cells.specs.Cells.{passed, first_out}
use Rattle.effect_cells.specs.WakeTimes.{wake_time}
use Rattle.run_data.specs.declared.jobs.Job.{Job}
use Rattle.run_data.specs.TaskFrames.{Frame}
use Rattle.run_data.specs.declared.tasks.TaskState.{TaskState}
use Rattle.run_data.specs.declared.runs.Instant.{Instant}
use Rattle.run_data.specs.declared.runs.Run.{Run}
use Rattle.run_data.specs.Batches.{Batch, limit, failed, committed, batch}
use Rattle.run_data.specs.Endings.{after_batch}
use Rattle.run_data.specs.Transitions.{Next, more, finished, begins, onward}
use Rattle.run_data.specs.Fresh.{SimulationState, start, next_by, woken_or_moved, moved, to_time, to_end, after_outcome, settled, instant_at, from_now, due_time, least_due, below, IsReached, IsFresh}
use Rattle.run_data.specs.DelayLaws.{EndsWhere, batch_ends, woken_ends}
use Rattle.run_data.specs.TaskLaws.{Each, each_changed}
use Rattle.run_data.specs.Tasks.{TaskPhase, anchored, ready, delayed, waiting, calling, over, Task, Table, on_each, after_delay, ready_jobs, woken, woken_phase, rested, rested_phase}

-- no delay ends before this time
abbrev EndsFrom : ℕ → TaskPhase → Type 0
EndsFrom now = EndsWhere (λ until. now ≤ until)

abbrev AllEndFrom : ℕ → Table → Type 0
AllEndFrom now = Each (EndsFrom now)

changed_from : (now later : ℕ) (change : List ℕ → Task → Task) → ((path : List ℕ) (task : Task) → EndsFrom now task.phase → EndsFrom later (change path task).phase) →
    (table : Table) → AllEndFrom now table → AllEndFrom later (on_each change table)
changed_from now later = each_changed (EndsFrom now) (EndsFrom later)

-- ---- a batch

delay_from : (now by : ℕ) (state : TaskState) → EndsFrom now (after_delay now by state)
delay_from now zero state = tt
delay_from now (suc less) state = omega arith

batch_from : (now : ℕ) (frames : List Frame) (table : Table) → AllEndFrom now table → AllEndFrom now (after_batch now frames table)
batch_from now = batch_ends (λ until. now ≤ until) now (delay_from now)

woken_from : (now : ℕ) (cells : List CellState) (phase : TaskPhase) → EndsFrom now phase → EndsFrom now (woken_phase cells phase)
woken_from now = woken_ends (λ until. now ≤ until)

rested_from : (now : ℕ) (phase : TaskPhase) → EndsFrom now phase → EndsFrom now (rested_phase now phase)
rested_from now (delayed until state) h = by (nat_eq until now)
  where
    by : (same : Bool) → EndsFrom now (if same then ready state else delayed until state)
    by true = tt
    by false = h
rested_from now (waiting condition state) h = tt
rested_from now (anchored to edge start state) h = tt
rested_from now (ready state) h = tt
rested_from now (calling child into state) h = tt
rested_from now (over result) h = tt

-- ---- at the start, where each delay ends from 0 on

any_from_zero : (phase : TaskPhase) → EndsFrom 0 phase
any_from_zero (delayed until state) = omega arith
any_from_zero (anchored to edge start state) = tt
any_from_zero (ready state) = tt
any_from_zero (waiting condition state) = tt
any_from_zero (calling child into state) = tt
any_from_zero (over result) = tt

all_from_zero : (table : Table) → AllEndFrom 0 table
all_from_zero [] = tt
all_from_zero (entry ∷ rest) = (any_from_zero entry.1.phase, all_from_zero rest)

-- ---- the next time

abbrev IsFrom : ℕ → Option ℕ → Type 0
IsFrom now None = Unit {0}
IsFrom now (Some time) = now ≤ time

wake_from : (now : ℕ) (found : Option ℕ) → IsFrom now (from_now now found)
wake_from now None = tt
wake_from now (Some dt) = omega arith

due_is_from : (now horizon : ℕ) (cells : List CellState) (phase : TaskPhase) → EndsFrom now phase → IsFrom now (due_time now horizon cells phase)
due_is_from now horizon cells (delayed until state) ends = ends
due_is_from now horizon cells (waiting condition state) ends = wake_from now (wake_time cells condition (horizon - now))
due_is_from now horizon cells (anchored to edge start state) ends = tt
due_is_from now horizon cells (ready state) ends = tt
due_is_from now horizon cells (calling child into state) ends = tt
due_is_from now horizon cells (over result) ends = tt

earlier_is_from : (now : ℕ) (first rest : Option ℕ) → IsFrom now first → IsFrom now rest → IsFrom now (earlier first rest)
earlier_is_from now None rest h k = k
earlier_is_from now (Some time) None h k = h
earlier_is_from now (Some time) (Some other) h k = le-min h k

least_is_from : (now horizon : ℕ) (cells : List CellState) (table : Table) → AllEndFrom now table → IsFrom now (least_due now horizon cells table)
least_is_from now horizon cells [] ends = tt
least_is_from now horizon cells (entry ∷ rest) ends =
    earlier_is_from now (due_time now horizon cells entry.1.phase) (least_due now horizon cells rest)
    (due_is_from now horizon cells entry.1.phase ends.0) (least_is_from now horizon cells rest ends.1)

-- no delay ends before the least time
abbrev NoneEndsBefore : Option ℕ → TaskPhase → Type 0
NoneEndsBefore None phase = Unit {0}
NoneEndsBefore (Some time) phase = EndsFrom time phase

lower : (time other : ℕ) (phase : TaskPhase) → time ≤ other → EndsFrom other phase → EndsFrom time phase
lower time other (delayed until state) le h = omega arith
lower time other (anchored to edge start state) le h = tt
lower time other (ready state) le h = tt
lower time other (waiting condition state) le h = tt
lower time other (calling child into state) le h = tt
lower time other (over result) le h = tt

all_lower : (time other : ℕ) (table : Table) → time ≤ other → AllEndFrom other table → AllEndFrom time table
all_lower time other [] le h = tt
all_lower time other (entry ∷ rest) le h = (lower time other entry.1.phase le h.0, all_lower time other rest le h.1)

-- the time found so far is no later than any delay among these
abbrev IsBound : Option ℕ → Table → Type 0
IsBound found table = (time : ℕ) → found ≡ Some time → AllEndFrom time table

no_delays : (now horizon : ℕ) (cells : List CellState) (phase : TaskPhase) → due_time now horizon cells phase ≡ None → (time : ℕ) → EndsFrom time phase
no_delays now horizon cells (delayed until state) e time = absurd (cc)
no_delays now horizon cells (anchored to edge start state) e time = tt
no_delays now horizon cells (ready state) e time = tt
no_delays now horizon cells (waiting condition state) e time = tt
no_delays now horizon cells (calling child into state) e time = tt
no_delays now horizon cells (over result) e time = tt

own_delay : (now horizon : ℕ) (cells : List CellState) (phase : TaskPhase) (time : ℕ) → due_time now horizon cells phase ≡ Some time → EndsFrom time phase
own_delay now horizon cells (delayed until state) time e = let same : until ≡ time = cc in omega arith
own_delay now horizon cells (anchored to edge start state) time e = tt
own_delay now horizon cells (ready state) time e = tt
own_delay now horizon cells (waiting condition state) time e = tt
own_delay now horizon cells (calling child into state) time e = tt
own_delay now horizon cells (over result) time e = tt

none_due : (now horizon : ℕ) (cells : List CellState) (table : Table) → least_due now horizon cells table ≡ None → (time : ℕ) → AllEndFrom time table
none_due now horizon cells [] e time = tt
none_due now horizon cells (entry ∷ rest) e time =
    by (due_time now horizon cells entry.1.phase) refl (least_due now horizon cells rest) refl e (λ none. none_due now horizon cells rest none time)
  where
    by : (first : Option ℕ) → due_time now horizon cells entry.1.phase ≡ first → (later : Option ℕ) → least_due now horizon cells rest ≡ later → earlier first later ≡ None →
        (least_due now horizon cells rest ≡ None → AllEndFrom time rest) → EndsFrom time entry.1.phase × AllEndFrom time rest
    by None is later others e further = (no_delays now horizon cells entry.1.phase is time, further (others ∙ e))
    by (Some one) is None others e further = absurd (cc)
    by (Some one) is (Some other) others e further = absurd (cc)

least_is_bound : (now horizon : ℕ) (cells : List CellState) (table : Table) → IsBound (least_due now horizon cells table) table
least_is_bound now horizon cells [] time e = tt
least_is_bound now horizon cells (entry ∷ rest) time e =
    by (due_time now horizon cells entry.1.phase) refl (least_due now horizon cells rest) refl e (λ t is. least_is_bound now horizon cells rest t is)
  where
    by : (first : Option ℕ) → due_time now horizon cells entry.1.phase ≡ first → (later : Option ℕ) → least_due now horizon cells rest ≡ later → earlier first later ≡ Some time →
        IsBound (least_due now horizon cells rest) rest → EndsFrom time entry.1.phase × AllEndFrom time rest
    by None is later others e further = (no_delays now horizon cells entry.1.phase is time, further time (others ∙ e))
    by (Some one) is None others e further =
        let same : one ≡ time = cc in
        (own_delay now horizon cells entry.1.phase time (subst (λ t. due_time now horizon cells entry.1.phase ≡ Some t) same is), none_due now horizon cells rest others time)
    by (Some one) is (Some other) others e further =
        let same : min one other ≡ time = cc in
        let left = min-le_left one other in
        let right = min-le_right one other in (
          lower time one entry.1.phase (omega (arith, left, same)) (own_delay now horizon cells entry.1.phase one is),
          all_lower time other rest (omega (arith, right, same)) (further other others),
        )

below_is : (horizon time : ℕ) (found : Option ℕ) → below horizon found ≡ Some time → (found ≡ Some time) × (time < horizon)
below_is horizon time None e = absurd (cc)
below_is horizon time (Some other) e = by (nat_lt other horizon) refl e
  where
    by : (less : Bool) → nat_lt other horizon ≡ less → ◌≡◌ {A = Option ℕ} (if less then Some other else None) (Some time) →
        (◌≡◌ {A = Option ℕ} (Some other) (Some time)) × (time < horizon)
    by true t e = let same : other ≡ time = cc in (e, omega (arith, ltb-true other horizon t))
    by false t e = absurd (cc)

-- ---- instants

-- each instant by this time
abbrev pub AreBy : ℕ → List Instant → Type 0
AreBy reach [] = Unit {0}
AreBy reach (instant ∷ rest) = (instant.time ≤ reach) × AreBy reach rest

by_more : (reach : ℕ) (instants : List Instant) (last : Instant) → AreBy reach instants → last.time ≤ reach → AreBy reach (instants ++ last ∷ [])
by_more reach [] last are here = (here, tt)
by_more reach (instant ∷ rest) last are here = (are.0, by_more reach rest last are.1 here)

by_later : (reach later : ℕ) (instants : List Instant) → reach ≤ later → AreBy reach instants → AreBy later instants
by_later reach later [] le are = tt
by_later reach later (instant ∷ rest) le are = (omega (arith, are.0), by_later reach later rest le are.1)

record StandsInTime (plan : Plan) (at : SimulationState) : Type 0 where
  pub delays : AllEndFrom at.time at.table
  pub instants : AreBy at.time at.instants
  pub within : at.time ≤ plan.duration

module _ (model : Parts) (plan : Plan) (bound : ℕ) where
  abbrev GoesInTime : Next SimulationState Run → Type 0
  GoesInTime (more at) = StandsInTime plan at
  GoesInTime (finished run) = AreBy run.reach run.instants

  settled_by : (at : SimulationState) (time : ℕ) → at.time ≤ time → StandsInTime plan at → AreBy time (settled model plan bound at)
  settled_by at time le well = by_more time at.instants (instant_at at) (by_later at.time time at.instants le well.instants) le

  outcome_in_time : (at : SimulationState) (outcome : Batch) → StandsInTime plan at → GoesInTime (after_outcome model plan bound at outcome)
  outcome_in_time at limit well = well.instants
  outcome_in_time at (failed who fault) well = well.instants
  outcome_in_time at (committed cells touched frames) well = record {
    delays = batch_from at.time frames at.table well.delays;
    instants = well.instants;
    within = well.within;
  }

  time_in_time : (at : SimulationState) (time : ℕ) (cells : List CellState) (out : Option ℕ) → StandsInTime plan at → at.time ≤ time → time < plan.duration →
      AllEndFrom time at.table → GoesInTime (to_time model plan bound at time cells out)
  time_in_time at time cells (Some cell) well later below delays = settled_by at at.time (omega arith) well
  time_in_time at time cells None well later below delays = record {
    delays = changed_from time time (rested time) (λ path task h. rested_from time task.phase h) at.table delays;
    instants = settled_by at time later well;
    within = omega arith;
  }

  end_in_time : (at : SimulationState) (out : Option ℕ) → StandsInTime plan at → GoesInTime (to_end model plan bound at out)
  end_in_time at (Some cell) well = settled_by at at.time (omega arith) well
  end_in_time at None well = settled_by at plan.duration well.within well

  moved_in_time : (at : SimulationState) (next_time : Option ℕ) → StandsInTime plan at → below plan.duration (least_due at.time plan.duration at.cells at.table) ≡ next_time →
      GoesInTime (moved model plan bound at next_time)
  moved_in_time at None well e = end_in_time at (first_out (passed at.cells (plan.duration - at.time))) well
  moved_in_time at (Some time) well e =
      let is = below_is plan.duration time (least_due at.time plan.duration at.cells at.table) e in
      let later : at.time ≤ time = subst (IsFrom at.time) is.0 (least_is_from at.time plan.duration at.cells at.table well.delays) in
      time_in_time at time (passed at.cells (time - at.time)) (first_out (passed at.cells (time - at.time))) well later is.1
      (least_is_bound at.time plan.duration at.cells at.table time is.0)

  judged_in_time : (at : SimulationState) (jobs : List (ℕ × Job)) → StandsInTime plan at → GoesInTime (woken_or_moved model plan bound at (on_each (woken at.cells) at.table) jobs)
  judged_in_time at [] well = moved_in_time at (below plan.duration (least_due at.time plan.duration at.cells at.table)) well refl
  judged_in_time at (job ∷ rest) well = record {
    delays = changed_from at.time at.time (woken at.cells) (λ path task h. woken_from at.time at.cells task.phase h) at.table well.delays;
    instants = well.instants;
    within = well.within;
  }

  next_in_time : (at : SimulationState) (jobs : List (ℕ × Job)) → StandsInTime plan at → GoesInTime (next_by model plan bound at jobs)
  next_in_time at [] well = judged_in_time at (ready_jobs at.cells (on_each (woken at.cells) at.table)) well
  next_in_time at (job ∷ rest) well = outcome_in_time at (batch model bound at.spent at.cells (job ∷ rest)) well

  all_in_time : (point : Next SimulationState Run) → IsReached model plan bound point → GoesInTime point
  all_in_time (more at) begins = record { delays = all_from_zero _; instants = tt; within = omega arith }
  all_in_time point (onward {point = at} before) = next_in_time at (ready_jobs at.cells at.table) (all_in_time (more at) before)

pub instants_by_reach : (model : Parts) (plan : Plan) (bound : ℕ) (run : Run) → IsFresh model plan bound run → AreBy run.reach run.instants
instants_by_reach model plan bound run fresh = all_in_time model plan bound (finished run) fresh
