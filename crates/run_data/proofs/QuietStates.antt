-- Wherever a simulation comes, all tasks are quiet.
use Rattle.std.proofs.Common.{◌≡◌, ℕ, suc, ◌+◌, ◌-◌, Bool, true, false, ◌||◌, ◌&&◌, cond, if◌then◌else◌, nat_eq, nat_lt, IsTrue, List, [], ◌∷◌, Option, Some, None, slice_get, refl, sym, ap, ◌∙◌, subst, arith}
use Rattle.std.specs.Prelude.{option_map}
use Rattle.std.specs.BTreeMap.{is_at}
use Rattle.std.specs.List.{list_all, list_any}
use Rattle.std.specs.Ordering.{is_eq}
use Rattle.aerie_base.specs.declared.models.Daemon.{Daemon}
use Rattle.aerie_base.specs.declared.models.model.Parts.{Parts}
use Rattle.aerie_base.specs.declared.plans.Anchor.{Anchor}
use Rattle.aerie_base.specs.declared.plans.Directive.{Directive}
use Rattle.aerie_base.specs.declared.plans.Edge.{Edge}
use Rattle.aerie_base.specs.declared.plans.Edge.TheVariants.{Start, End}
use Rattle.aerie_base.specs.declared.plans.Plan.{Plan}
use Rattle.aerie_base.specs.Paths.{root, daemon_root, path_cmp}
use Rattle.aerie_base.specs.plans.OfModel.{ids_of, takes, is_directive_of, is_there, anchored_to, IsPlanOf}
use Rattle.effect_cells.specs.declared.effects.CellState.{CellState}
use Rattle.effect_cells.specs.Cells.{passed, first_out}
use Rattle.effect_cells.specs.WakeTimes.{holds_on}
use Rattle.run_data.specs.declared.tasks.TaskState.{TaskState}
use Rattle.run_data.specs.Endings.{is_open, has_begun, has_come}
use Rattle.run_data.specs.declared.jobs.Job.{Job}
use Rattle.run_data.specs.declared.runs.Run.{Run}
use Rattle.run_data.specs.Batches.{Batch, limit, failed, committed, batch}
use Rattle.run_data.specs.Fresh.{SimulationState, start as first_point_of, next_by, woken_or_moved, moved, to_time, to_end, after_outcome, least_due, below, IsReached}
use Rattle.run_data.specs.Transitions.{Next, more, finished, begins, onward}
use Rattle.run_data.specs.laws.QuietStates.{ReachedIsQuiet}
use Rattle.run_data.specs.Tasks.{TaskPhase, anchored, ready, delayed, waiting, calling, over, Task, Table, task_at, with_task, on_each, planned, with_directives, with_daemons, woken, woken_phase, rested, rested_phase, after_frames, ready_jobs}
use Rattle.run_data.specs.TaskStates.{activity_begun}
use Rattle.run_data.specs.laws.GoingOn.{IsQuiet, AllQuiet}
use Rattle.run_data.specs.laws.OrderedTables.{IsOrderedTable}
use Rattle.run_data.specs.laws.EndedTaskLaws.{open_stops, stands_at}
use Rattle.run_data.specs.laws.OpenTasks.{rested_open, woken_open}
use Rattle.run_data.specs.laws.PathsUnder.{under_itself}
use Rattle.run_data.specs.TableLaws.{at_with, path_itself, order_with}
use Rattle.run_data.specs.laws.QuietTasks.{quiet_each, go_on_once}
use Rattle.run_data.proofs.Scoping.{both_hold}

-- ---- changes of all tasks

changed_quiet : (change : List ℕ → Task → Task) → ((path : List ℕ) (task : Task) → is_open (change path task).phase ≡ is_open task.phase) → ((path : List ℕ) (task : Task) → (change path task).begun ≡ task.begun) →
    ((table : Table) (path : List ℕ) (task : Task) → IsQuiet table path task.phase → IsQuiet table path (change path task).phase) → (table others : Table) → AllQuiet table others →
    AllQuiet (on_each change table) (on_each change others)
changed_quiet change open_ begun keeps table [] all = tt
changed_quiet change open_ begun keeps table (entry ∷ rest) all =
    (quiet_each change open_ begun table entry.0 (change entry.0 entry.1).phase (keeps table entry.0 entry.1 all.0), changed_quiet change open_ begun keeps table rest all.1)

rested_quiet : (now : ℕ) (table : Table) (path : List ℕ) (phase : TaskPhase) → IsQuiet table path phase → IsQuiet table path (rested_phase now phase)
rested_quiet now table path (delayed until state) h = by (nat_eq until now)
  where
    by : (b : Bool) → IsQuiet table path (if b then ready state else delayed until state)
    by true = tt
    by false = tt
rested_quiet now table path (anchored to edge start state) h = h
rested_quiet now table path (ready state) h = h
rested_quiet now table path (waiting condition state) h = h
rested_quiet now table path (calling child into state) h = h
rested_quiet now table path (over result) h = h

woken_quiet : (cells : List CellState) (table : Table) (path : List ℕ) (phase : TaskPhase) → IsQuiet table path phase → IsQuiet table path (woken_phase cells phase)
woken_quiet cells table path (waiting condition state) h = by (holds_on cells condition)
  where
    by : (b : Bool) → IsQuiet table path (if b then ready state else waiting condition state)
    by true = tt
    by false = tt
woken_quiet cells table path (anchored to edge start state) h = h
woken_quiet cells table path (ready state) h = h
woken_quiet cells table path (delayed until state) h = h
woken_quiet cells table path (calling child into state) h = h
woken_quiet cells table path (over result) h = h

pub all_rested_quiet : (now : ℕ) (table : Table) → AllQuiet table table → AllQuiet (on_each (rested now) table) (on_each (rested now) table)
all_rested_quiet now table all =
    changed_quiet (rested now) (λ path task. rested_open now task.phase) (λ path task. refl) (λ others path task. rested_quiet now others path task.phase) table table all

pub all_woken_quiet : (cells : List CellState) (table : Table) → AllQuiet table table → AllQuiet (on_each (woken cells) table) (on_each (woken cells) table)
all_woken_quiet cells table all =
    changed_quiet (woken cells) (λ path task. woken_open cells task.phase) (λ path task. refl) (λ others path task. woken_quiet cells others path task.phase) table table all

-- ---- the start

module _ (model : Parts) (plan : Plan) where
  abbrev IsKnown : ℕ → Type 0
  IsKnown id = list_any (nat_eq id) (ids_of plan.directives) ≡ true

  abbrev PlannedPhase : TaskPhase → Type 0
  PlannedPhase (anchored to edge start state) = IsKnown to
  PlannedPhase (delayed until state) = Unit {0}
  PlannedPhase (ready state) = ⊥
  PlannedPhase (waiting condition state) = ⊥
  PlannedPhase (calling child into state) = ⊥
  PlannedPhase (over result) = ⊥

  record PlannedTask (task : Task) : Type 0 where
    begun : task.begun ≡ false
    phase : PlannedPhase task.phase

  record AllPlanned (table : Table) : Type 0 where
    order : IsOrderedTable table
    tasks : (path : List ℕ) (task : Task) → task_at table path ≡ Some task → PlannedTask task

  put_planned : (table : Table) (path : List ℕ) (task : Task) → AllPlanned table → PlannedTask task → AllPlanned (with_task table path task)
  put_planned table path task all one = record {
    order = order_with table path task all.order;
    tasks = λ other found e. by other found (is_at (path_cmp other) path) (sym (at_with table path other task) ∙ e);
  }
    where
      by : (other : List ℕ) (found : Task) (here : Bool) → cond here (Some task) (task_at table other) ≡ Some found → PlannedTask found
      by other found true e = let same : task ≡ found = cc in subst PlannedTask same one
      by other found false e = all.tasks other found e

  daemons_planned : (number : ℕ) (daemons : List Daemon) (table : Table) → AllPlanned table → AllPlanned (with_daemons number daemons table)
  daemons_planned number [] table all = all
  daemons_planned number (one ∷ rest) table all = daemons_planned (number + 1) rest _ (put_planned table (daemon_root number) _ all (record { begun = refl; phase = tt }))

  phase_planned : (anchor : Option Anchor) (from : ℕ) (state : TaskState) → IsTrue (is_there plan.directives (option_map (λ (a : Anchor). a.to) anchor)) → PlannedPhase (planned anchor from state)
  phase_planned None from state h = tt
  phase_planned (Some anchor) from state h = h

  directives_planned : (directives : List Directive) (table : Table) → IsTrue (list_all (is_directive_of model plan) directives) → AllPlanned table → AllPlanned (with_directives model directives table)
  directives_planned [] table good all = all
  directives_planned (one ∷ rest) table good all =
      let parts = both_hold (is_directive_of model plan one) (list_all (is_directive_of model plan) rest) good in
      let known = (both_hold (takes model.enums (slice_get model.activities one.kind) one.arguments && nat_lt one.start plan.duration) (is_there plan.directives (anchored_to one)) parts.0).1 in
      directives_planned rest _ parts.1
      (put_planned table (root one.id) _ all (record { begun = refl; phase = phase_planned one.anchor one.start (activity_begun model one.kind one.arguments) known }))

  record Has (table : Table) (path : List ℕ) : Type 0 where
    task : Task
    there : task_at table path ≡ Some task

  has_put : (table : Table) (path other : List ℕ) (one : Task) → Has table path → Has (with_task table other one) path
  has_put table path other one has = by (is_at (path_cmp path) other) refl
    where
      by : (here : Bool) → is_at (path_cmp path) other ≡ here → Has (with_task table other one) path
      by true e = record { task = one; there = at_with table other path one ∙ ap (λ b. cond b (Some one) (task_at table path)) e }
      by false e = record { task = has.task; there = at_with table other path one ∙ ap (λ b. cond b (Some one) (task_at table path)) e ∙ has.there }

  has_directives : (directives : List Directive) (table : Table) (path : List ℕ) → Has table path → Has (with_directives model directives table) path
  has_directives [] table path has = has
  has_directives (one ∷ rest) table path has = has_directives rest _ path (has_put table path (root one.id) _ has)

  has_id : (directives : List Directive) (table : Table) (id : ℕ) → list_any (nat_eq id) (ids_of directives) ≡ true → Has (with_directives model directives table) (root id)
  has_id [] table id e = absurd (cc)
  has_id (one ∷ rest) table id e = by (nat_eq id one.id) refl e (has_id rest _ id)
    where
      first : Task
      first = record { phase = planned one.anchor one.start (activity_begun model one.kind one.arguments); made = 0; begun = false }

      by : (here : Bool) → nat_eq id one.id ≡ here → (here || list_any (nat_eq id) (ids_of rest)) ≡ true → (list_any (nat_eq id) (ids_of rest) ≡ true → Has (with_directives model rest (with_task table (root one.id) first)) (root id)) →
          Has (with_directives model rest (with_task table (root one.id) first)) (root id)
      by true same e further =
          let is : id ≡ one.id = grind arith in
          subst (λ n. Has (with_directives model rest (with_task table (root one.id) first)) (root n)) (sym is)
          (has_directives rest (with_task table (root one.id) first) (root one.id) (record {
            task = first;
            there = at_with table (root one.id) (root one.id) first ∙ ap (λ o. cond (is_eq o) (Some first) (task_at table (root one.id))) (path_itself (root one.id));
          }))
      by false same e further = further e

  abbrev before : Table
  before = with_directives model plan.directives (with_daemons 0 model.daemons [])

  module _ (is : IsPlanOf model plan) where
    all_planned : AllPlanned before
    all_planned = directives_planned plan.directives _ is.directives (daemons_planned 0 model.daemons [] (record { order = tt; tasks = λ path task e. absurd (cc) }))

    none_begun : (path : List ℕ) (found : Option Task) → task_at before path ≡ found → has_begun found ≡ false
    none_begun path None e = refl
    none_begun path (Some task) e = (all_planned.tasks path task e).begun

    open_planned : (phase : TaskPhase) → PlannedPhase phase → is_open phase ≡ true
    open_planned (anchored to edge start state) h = refl
    open_planned (delayed until state) h = refl
    open_planned (ready state) h = absurd h
    open_planned (waiting condition state) h = absurd h
    open_planned (calling child into state) h = absurd h
    open_planned (over result) h = absurd h

    none_come : (to : ℕ) (edge : Edge) → IsKnown to → has_come before to edge ≡ false
    none_come to Start known = none_begun (root to) (task_at before (root to)) refl
    none_come to End known =
        let has = has_id plan.directives (with_daemons 0 model.daemons []) to known in
        open_stops (root to) (root to) has.task (under_itself (root to)) (open_planned has.task.phase (all_planned.tasks (root to) has.task has.there).phase) before has.there

    planned_quiet : (path : List ℕ) (phase : TaskPhase) → PlannedPhase phase → IsQuiet before path phase
    planned_quiet path (anchored to edge start state) h = none_come to edge h
    planned_quiet path (delayed until state) h = tt
    planned_quiet path (ready state) h = absurd h
    planned_quiet path (waiting condition state) h = absurd h
    planned_quiet path (calling child into state) h = absurd h
    planned_quiet path (over result) h = absurd h

    entries_quiet : (others : Table) → ((number : ℕ) (path : List ℕ) (task : Task) → slice_get others number ≡ Some (path, task) → task_at before path ≡ Some task) → AllQuiet before others
    entries_quiet [] stands = tt
    entries_quiet (entry ∷ rest) stands =
        (planned_quiet entry.0 entry.1.phase (all_planned.tasks entry.0 entry.1 (stands 0 entry.0 entry.1 refl)).phase, entries_quiet rest (λ n path task at. stands (suc n) path task at))

    start_quiet : AllQuiet (first_point_of model plan).table (first_point_of model plan).table
    start_quiet = all_rested_quiet 0 before (entries_quiet before (λ number path task at. stands_at before number path task all_planned.order at))

-- ---- each transition

module _ (model : Parts) (plan : Plan) (bound : ℕ) where
  abbrev QuietPoint : Next SimulationState Run → Type 0
  QuietPoint (more at) = AllQuiet at.table at.table
  QuietPoint (finished run) = Unit {0}

  outcome_quiet : (at : SimulationState) (outcome : Batch) → QuietPoint (after_outcome model plan bound at outcome)
  outcome_quiet at limit = tt
  outcome_quiet at (failed who fault) = tt
  outcome_quiet at (committed cells touched frames) = (go_on_once at.time at.time (after_frames at.time frames at.table)).0

  time_quiet : (at : SimulationState) → AllQuiet at.table at.table → (time : ℕ) (cells : List CellState) (out : Option ℕ) → QuietPoint (to_time model plan bound at time cells out)
  time_quiet at all time cells (Some cell) = tt
  time_quiet at all time cells None = all_rested_quiet time at.table all

  end_quiet : (at : SimulationState) (out : Option ℕ) → QuietPoint (to_end model plan bound at out)
  end_quiet at (Some cell) = tt
  end_quiet at None = tt

  moved_quiet : (at : SimulationState) → AllQuiet at.table at.table → (time : Option ℕ) → QuietPoint (moved model plan bound at time)
  moved_quiet at all None = end_quiet at (first_out (passed at.cells (plan.duration - at.time)))
  moved_quiet at all (Some time) = time_quiet at all time (passed at.cells (time - at.time)) (first_out (passed at.cells (time - at.time)))

  transition_quiet : (at : SimulationState) → AllQuiet at.table at.table → (jobs : List (ℕ × Job)) → QuietPoint (woken_or_moved model plan bound at (on_each (woken at.cells) at.table) jobs)
  transition_quiet at all [] = moved_quiet at all (below plan.duration (least_due at.time plan.duration at.cells at.table))
  transition_quiet at all (job ∷ rest) = all_woken_quiet at.cells at.table all

  next_quiet : (at : SimulationState) → AllQuiet at.table at.table → (jobs : List (ℕ × Job)) → QuietPoint (next_by model plan bound at jobs)
  next_quiet at all [] = transition_quiet at all (ready_jobs at.cells (on_each (woken at.cells) at.table))
  next_quiet at all (job ∷ rest) = outcome_quiet at (batch model bound at.spent at.cells (job ∷ rest))

  quiet_reached : IsPlanOf model plan → (point : Next SimulationState Run) → IsReached model plan bound point → QuietPoint point
  quiet_reached is (more at) begins = start_quiet model plan is
  quiet_reached is point (onward {point = at} reached) = next_quiet at (quiet_reached is (more at) reached) (ready_jobs at.cells at.table)

pub reached_is_quiet : ReachedIsQuiet
reached_is_quiet model plan bound at is reached = quiet_reached model plan bound is (more at) reached
