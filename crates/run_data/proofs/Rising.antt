-- The instants of a run rise in time.
use Rattle.std.proofs.Common.{◌≡◌, ℕ, zero, suc, ◌+◌, ◌-◌, ◌<◌, ◌≤◌, Bool, true, false, List, [], ◌∷◌, ◌++◌, Option, Some, None, if◌then◌else◌, nat_eq, nat_lt, refl, sym, subst, arith}
use Rattle.std.proofs.lemmas.Bool.{ltb-true}
use Rattle.aerie_base.specs.declared.models.Daemon.{Daemon}
use Rattle.aerie_base.specs.declared.models.model.Parts.{Parts}
use Rattle.aerie_base.specs.declared.plans.Anchor.{Anchor}
use Rattle.aerie_base.specs.declared.plans.Directive.{Directive}
use Rattle.aerie_base.specs.declared.plans.Plan.{Plan}
use Rattle.aerie_base.specs.Paths.{root, daemon_root}
use Rattle.effect_cells.specs.declared.effects.CellState.{CellState}
use Rattle.effect_cells.specs.Cells.{passed, first_out}
use Rattle.run_data.specs.declared.jobs.Job.{Job}
use Rattle.run_data.specs.TaskFrames.{Frame}
use Rattle.run_data.specs.declared.tasks.TaskState.{TaskState}
use Rattle.run_data.specs.declared.runs.Instant.{Instant}
use Rattle.run_data.specs.declared.runs.Run.{Run}
use Rattle.run_data.specs.Batches.{Batch, limit, failed, committed, batch}
use Rattle.run_data.specs.Endings.{after_batch}
use Rattle.run_data.specs.Transitions.{Next, more, finished, begins, onward}
use Rattle.run_data.specs.Fresh.{SimulationState, start, next_state, next_by, woken_or_moved, moved, to_time, to_end, after_outcome, settled, instant_at, least_due, below, IsReached}
use Rattle.run_data.specs.TaskStates.{activity_begun}
use Rattle.run_data.specs.Tasks.{TaskPhase, anchored, ready, delayed, waiting, calling, over, Table, on_each, planned, with_directives, with_daemons, after_delay, ready_jobs, woken, woken_phase, rested, rested_phase}
use Rattle.run_data.specs.laws.Rising.{RiseAbove, RiseFromStart, AreBefore, InstantsRise, InstantsAreBeforeEnd}
use Rattle.run_data.specs.DelayLaws.{batch_ends, woken_ends}
use Rattle.run_data.specs.TaskLaws.{Each, each_with, each_changed}
use Rattle.run_data.proofs.DueTimes.{EndsAfter, StillWaits, EndsNotBefore, IsAfter, least_is_after, none_ends_before, none_ready}

-- ---- no delay ends before now

delay_after : (now by : ℕ) (state : TaskState) → EndsAfter now (after_delay now by state)
delay_after now zero state = tt
delay_after now (suc less) state = omega arith

batch_after : (now : ℕ) (frames : List Frame) (table : Table) → Each (EndsAfter now) table → Each (EndsAfter now) (after_batch now frames table)
batch_after now = batch_ends (λ until. now < until) now (delay_after now)

woken_after : (now : ℕ) (cells : List CellState) (phase : TaskPhase) → EndsAfter now phase → EndsAfter now (woken_phase cells phase)
woken_after now = woken_ends (λ until. now < until)

not_equal : (a b : ℕ) → nat_eq a b ≡ false → a ≡ b → ⊥
not_equal a b e same = grind arith

rested_after : (now : ℕ) (phase : TaskPhase) → EndsNotBefore (Some now) phase → EndsAfter now (rested_phase now phase)
rested_after now (delayed until state) h = by (nat_eq until now) refl
  where
    by : (same : Bool) → nat_eq until now ≡ same → EndsAfter now (if same then ready state else delayed until state)
    by true e = tt
    by false e = let other : until ≡ now → ⊥ = not_equal until now e in omega (arith, h, other)
rested_after now (waiting condition state) h = tt
rested_after now (anchored to edge start state) h = tt
rested_after now (ready state) h = tt
rested_after now (calling child into state) h = tt
rested_after now (over result) h = tt

all_rested : (now : ℕ) (table : Table) → Each (EndsNotBefore (Some now)) table → Each (EndsAfter now) (on_each (rested now) table)
all_rested now table = each_changed (EndsNotBefore (Some now)) (EndsAfter now) (rested now) (λ path task h. rested_after now task.phase h) table

-- ---- at the start

planned_not_before : (anchor : Option Anchor) (from : ℕ) (state : TaskState) → EndsNotBefore (Some 0) (planned anchor from state)
planned_not_before None from state = omega arith
planned_not_before (Some anchor) from state = tt

directives_not_before : (model : Parts) (directives : List Directive) (table : Table) → Each (EndsNotBefore (Some 0)) table →
    Each (EndsNotBefore (Some 0)) (with_directives model directives table)
directives_not_before model [] table each = each
directives_not_before model (directive ∷ rest) table each =
    directives_not_before model rest _
    (each_with (EndsNotBefore (Some 0)) table (root directive.id) _ each
    (planned_not_before directive.anchor directive.start (activity_begun model directive.kind directive.arguments)))

daemons_not_before : (number : ℕ) (daemons : List Daemon) (table : Table) → Each (EndsNotBefore (Some 0)) table →
    Each (EndsNotBefore (Some 0)) (with_daemons number daemons table)
daemons_not_before number [] table each = each
daemons_not_before number (daemon ∷ rest) table each =
    daemons_not_before (number + 1) rest _ (each_with (EndsNotBefore (Some 0)) table (daemon_root number) _ each (omega arith))

-- ---- instants

rise_more : (time : ℕ) (instants : List Instant) (last : Instant) → RiseAbove time instants → time < last.time → AreBefore last.time instants →
    RiseAbove time (instants ++ last ∷ [])
rise_more time [] last rise above before = (above, tt)
rise_more time (instant ∷ rest) last rise above before = (rise.0, rise_more instant.time rest last rise.1 before.0 before.1)

-- where there is no instant so far, it is the start of the plan
abbrev pub IsStart : ℕ → List Instant → Type 0
IsStart time [] = time ≡ 0
IsStart time (instant ∷ rest) = Unit {0}

start_more : (instants : List Instant) (last : Instant) → RiseFromStart instants → IsStart last.time instants → AreBefore last.time instants →
    RiseFromStart (instants ++ last ∷ [])
start_more [] last rise first before = (first, tt)
start_more (instant ∷ rest) last rise first before = (rise.0, rise_more instant.time rest last rise.1 before.0 before.1)

before_more : (end : ℕ) (instants : List Instant) (last : Instant) → AreBefore end instants → last.time < end → AreBefore end (instants ++ last ∷ [])
before_more end [] last before here = (here, tt)
before_more end (instant ∷ rest) last before here = (before.0, before_more end rest last before.1 here)

before_later : (end later : ℕ) (instants : List Instant) → end ≤ later → AreBefore end instants → AreBefore later instants
before_later end later [] le before = tt
before_later end later (instant ∷ rest) le before = (omega (arith, before.0), before_later end later rest le before.1)

is_start_more : (time : ℕ) (instants : List Instant) (last : Instant) → IsStart time (instants ++ last ∷ [])
is_start_more time [] last = tt
is_start_more time (instant ∷ rest) last = tt

-- ---- where a run stands

pub record StandsWell (plan : Plan) (at : SimulationState) : Type 0 where
  pub delays : Each (EndsAfter at.time) at.table
  pub rise : RiseFromStart at.instants
  pub before : AreBefore at.time at.instants
  pub first : IsStart at.time at.instants
  pub within : 0 < plan.duration → at.time < plan.duration

pub record EndsWell (plan : Plan) (run : Run) : Type 0 where
  pub rise : RiseFromStart run.instants
  pub before : 0 < plan.duration → AreBefore plan.duration run.instants
  pub reach : 0 < plan.duration → run.reach ≤ plan.duration

abbrev pub GoesWell : Plan → Next SimulationState Run → Type 0
GoesWell plan (more at) = StandsWell plan at
GoesWell plan (finished run) = EndsWell plan run

module _ (model : Parts) (plan : Plan) (bound : ℕ) where
  stops_well : (at : SimulationState) → StandsWell plan at → (run : Run) → run.instants ≡ at.instants → run.reach ≡ at.time → EndsWell plan run
  stops_well at well run e r = record {
    rise = subst RiseFromStart (sym e) well.rise;
    before = λ some. subst (AreBefore plan.duration) (sym e) (before_later at.time plan.duration at.instants (omega (arith, well.within some)) well.before);
    reach = λ some. omega (arith, well.within some, r);
  }

  settles_well : (at : SimulationState) → StandsWell plan at → (run : Run) → run.instants ≡ settled model plan bound at → (0 < plan.duration → run.reach ≤ plan.duration) → EndsWell plan run
  settles_well at well run e r = record {
    rise = subst RiseFromStart (sym e) (start_more at.instants (instant_at at) well.rise well.first well.before);
    before = λ some. subst (AreBefore plan.duration) (sym e)
        (before_more plan.duration at.instants (instant_at at) (before_later at.time plan.duration at.instants (omega (arith, well.within some)) well.before) (well.within some));
    reach = r;
  }

  outcome_well : (at : SimulationState) (outcome : Batch) → StandsWell plan at → GoesWell plan (after_outcome model plan bound at outcome)
  outcome_well at limit well = stops_well at well _ refl refl
  outcome_well at (failed who fault) well = stops_well at well _ refl refl
  outcome_well at (committed cells touched frames) well = record {
    delays = batch_after at.time frames at.table well.delays;
    rise = well.rise;
    before = well.before;
    first = well.first;
    within = well.within;
  }

  pub below_is : (horizon time : ℕ) (found : Option ℕ) → below horizon found ≡ Some time → (found ≡ Some time) × (time < horizon)
  below_is horizon time None e = absurd (cc)
  below_is horizon time (Some other) e = by (nat_lt other horizon) refl e
    where
      by : (less : Bool) → nat_lt other horizon ≡ less → ◌≡◌ {A = Option ℕ} (if less then Some other else None) (Some time) →
          (◌≡◌ {A = Option ℕ} (Some other) (Some time)) × (time < horizon)
      by true t e = let same : other ≡ time = cc in (e, omega (arith, ltb-true other horizon t))
      by false t e = absurd (cc)

  time_well : (at : SimulationState) (time : ℕ) (cells : List CellState) (out : Option ℕ) → StandsWell plan at → at.time < time → time < plan.duration →
      Each (EndsNotBefore (Some time)) at.table → GoesWell plan (to_time model plan bound at time cells out)
  time_well at time cells (Some cell) well later below none_before =
      settles_well at well _ refl (λ some. omega (arith, well.within some))
  time_well at time cells None well later below none_before = record {
    delays = all_rested time at.table none_before;
    rise = start_more at.instants (instant_at at) well.rise well.first well.before;
    before = before_more time at.instants (instant_at at) (before_later at.time time at.instants (omega arith) well.before) later;
    first = is_start_more time at.instants (instant_at at);
    within = λ some. below;
  }

  end_well : (at : SimulationState) (out : Option ℕ) → StandsWell plan at → GoesWell plan (to_end model plan bound at out)
  end_well at (Some cell) well = settles_well at well _ refl (λ some. omega (arith, well.within some))
  end_well at None well = settles_well at well _ refl (λ some. omega arith)

  moved_well : (at : SimulationState) (next_time : Option ℕ) → StandsWell plan at → below plan.duration (least_due at.time plan.duration at.cells at.table) ≡ next_time →
      Each (StillWaits at.cells) at.table → GoesWell plan (moved model plan bound at next_time)
  moved_well at None well e waits = end_well at (first_out (passed at.cells (plan.duration - at.time))) well
  moved_well at (Some time) well e waits =
      let is = below_is plan.duration time (least_due at.time plan.duration at.cells at.table) e in
      let later : at.time < time = subst (IsAfter at.time) is.0 (least_is_after at.time plan.duration at.cells at.table well.delays waits) in
      let none_before : Each (EndsNotBefore (Some time)) at.table =
      subst (λ o. Each (EndsNotBefore o) at.table) is.0 (none_ends_before at.time plan.duration at.cells at.table) in
      time_well at time (passed at.cells (time - at.time)) (first_out (passed at.cells (time - at.time))) well later is.1 none_before

  judged_well : (at : SimulationState) (jobs : List (ℕ × Job)) → ready_jobs at.cells (on_each (woken at.cells) at.table) ≡ jobs → StandsWell plan at →
      GoesWell plan (woken_or_moved model plan bound at (on_each (woken at.cells) at.table) jobs)
  judged_well at [] e well = moved_well at (below plan.duration (least_due at.time plan.duration at.cells at.table)) well refl (none_ready at.cells at.table e)
  judged_well at (job ∷ rest) e well = record {
    delays = each_changed (EndsAfter at.time) (EndsAfter at.time) (woken at.cells) (λ path task h. woken_after at.time at.cells task.phase h) at.table well.delays;
    rise = well.rise;
    before = well.before;
    first = well.first;
    within = well.within;
  }

  next_by_well : (at : SimulationState) (jobs : List (ℕ × Job)) → StandsWell plan at → GoesWell plan (next_by model plan bound at jobs)
  next_by_well at [] well = judged_well at (ready_jobs at.cells (on_each (woken at.cells) at.table)) refl well
  next_by_well at (job ∷ rest) well = outcome_well at (batch model bound at.spent at.cells (job ∷ rest)) well

  pub next_well : (at : SimulationState) → StandsWell plan at → GoesWell plan (next_state model plan bound at)
  next_well at well = next_by_well at (ready_jobs at.cells at.table) well

  pub start_well : StandsWell plan (start model plan)
  start_well = record {
    delays = all_rested 0 _ (directives_not_before model plan.directives _ (daemons_not_before 0 model.daemons [] tt));
    rise = tt;
    before = tt;
    first = refl;
    within = λ some. some;
  }

  pub stands_well : (point : Next SimulationState Run) → IsReached model plan bound point → GoesWell plan point
  stands_well (more at) begins = start_well
  stands_well point (onward {point = at} before) = next_well at (stands_well (more at) before)

pub instants_rise : InstantsRise
instants_rise model plan bound run fresh = (stands_well model plan bound (finished run) fresh).rise

pub instants_before : InstantsAreBeforeEnd
instants_before model plan bound run some fresh =
    let well = stands_well model plan bound (finished run) fresh in (well.before some, well.reach some)
