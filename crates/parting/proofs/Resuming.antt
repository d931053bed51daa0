-- The new simulation stands at the exchanged states of the old one: until a time its differing directives stand as planned.
use Rattle.std.proofs.Common.{◌≡◌, ◌⊎◌, inl, inr, ℕ, zero, suc, ◌+◌, ◌-◌, ◌<◌, ◌≤◌, nat_eq, Bool, true, false, not, List, [], ◌∷◌, length, Option, Some, None, refl, sym, ap, ◌∙◌, subst, IsTrue, if◌then◌else◌, arith}
use Rattle.std.proofs.lemmas.List.{length-append}
use Rattle.aerie_base.specs.declared.models.model.Parts.{Parts}
use Rattle.aerie_base.specs.declared.plans.Anchor.{Anchor}
use Rattle.aerie_base.specs.declared.plans.Directive.{Directive}
use Rattle.aerie_base.specs.declared.plans.Plan.{Plan}
use Rattle.aerie_base.specs.Paths.{child_path, root}
use Rattle.aerie_base.specs.models.ValidModel.{valid_model}
use Rattle.aerie_base.specs.plans.OfModel.{IsPlanOf}
use Rattle.effect_cells.specs.declared.effects.CellState.{CellState}
use Rattle.effect_cells.specs.Cells.{passed, first_out}
use Rattle.run_data.specs.declared.jobs.Job.{Job}
use Rattle.run_data.specs.declared.runs.Run.{Run}
use Rattle.run_data.specs.declared.tasks.TaskState.{TaskState}
use Rattle.run_data.specs.TaskFrames.{Frame}
use Rattle.run_data.specs.Batches.{Batch, limit, failed, committed, batch}
use Rattle.run_data.specs.Endings.{back, due_phase, gone_on, after_batch}
use Rattle.run_data.specs.Fresh.{SimulationState, start, next_state, next_by, woken_or_moved, moved, to_time, to_end, after_outcome, least_due, below, IsReached}
use Rattle.run_data.specs.Tasks.{TaskPhase, anchored, ready, delayed, waiting, calling, over, Task, Table, task_at, on_each, planned, with_directives, with_daemons, ready_jobs, after_frames, children_made, woken, woken_phase, rested, rested_phase}
use Rattle.run_data.specs.Transitions.{Next, more, finished, begins, onward}
use Rattle.run_data.specs.laws.BatchFrames.{Among, HasPath, OfReady, OfChild, AreFramesOf, BatchFrames}
use Rattle.run_data.specs.laws.FramesByPath.{frame_of_path, at_no_frame}
use Rattle.run_data.specs.laws.LateDifferences.{is_of_differing, is_common, common_tasks, AlikeBut, DifferLate, RunSideBySide}
use Rattle.run_data.specs.laws.LiveAfterFrames.{each_of_among}
use Rattle.run_data.specs.laws.OrderedTables.{IsOrderedTable}
use Rattle.run_data.specs.laws.Orders.{EachOf}
use Rattle.run_data.specs.laws.ReachedStates.{IsTableOf, ReachedIsOfModel}
use Rattle.run_data.specs.laws.Weights.{WeightFalls}
use Rattle.run_data.specs.laws.TableParts.{order_part, part_at, part_none, same_tables, each_at, changed_at}
use Rattle.parting.specs.Exchanges.{differing_directives, exchanged, exchanged_state}
use Rattle.parting.specs.PlainLateness.{StartsPlainlyLate, IsPlainlyLate}
use Rattle.parting.specs.Resuming.{Resumes, SameJobs}
use Rattle.parting.specs.UnbegunDirectives.{IsYetToStart, HaveNotStarted}
use Rattle.parting.proofs.Exchanged.{planned_task, order_directives, same_at, differing_at, common_at, daemons_at, all_planned}
use Rattle.parting.proofs.PassingTime.{step_later}
use Rattle.parting.proofs.TaskPaths.{longer_of, stands_long}

-- ---- tasks that wait for a late start

abbrev WaitsLate : ℕ → TaskPhase → Type 0
WaitsLate until (delayed end_ state) = until ≤ end_
WaitsLate until (anchored to edge start_ state) = ⊥
WaitsLate until (ready state) = ⊥
WaitsLate until (waiting condition state) = ⊥
WaitsLate until (calling child into state) = ⊥
WaitsLate until (over result) = ⊥

not_ready : (until : ℕ) (phase : TaskPhase) (state : TaskState) → phase ≡ ready state → WaitsLate until phase → ⊥
not_ready until phase state e h = subst (WaitsLate until) e h

planned_late : (until : ℕ) (anchor : Option Anchor) (from : ℕ) (state : TaskState) → StartsPlainlyLate until anchor from → WaitsLate until (planned anchor from state)
planned_late until None from state late = late
planned_late until (Some anchor) from state late = absurd late

-- none of them changes

woken_same : (until : ℕ) (cells : List CellState) (phase : TaskPhase) → WaitsLate until phase → woken_phase cells phase ≡ phase
woken_same until cells (delayed end_ state) h = refl
woken_same until cells (anchored to edge start_ state) h = absurd h
woken_same until cells (ready state) h = absurd h
woken_same until cells (waiting condition state) h = absurd h
woken_same until cells (calling child into state) h = absurd h
woken_same until cells (over result) h = absurd h

gone_same : (until : ℕ) (table : Table) (now : ℕ) (path : List ℕ) (phase : TaskPhase) → WaitsLate until phase → due_phase table now (back table path phase) ≡ phase
gone_same until table now path (delayed end_ state) h = refl
gone_same until table now path (anchored to edge start_ state) h = absurd h
gone_same until table now path (ready state) h = absurd h
gone_same until table now path (waiting condition state) h = absurd h
gone_same until table now path (calling child into state) h = absurd h
gone_same until table now path (over result) h = absurd h

rested_same : (until now : ℕ) → now < until → (phase : TaskPhase) → WaitsLate until phase → rested_phase now phase ≡ phase
rested_same until now before (delayed end_ state) h = by (nat_eq end_ now) refl
  where
    by : (same : Bool) → nat_eq end_ now ≡ same → (if same then ready state else delayed end_ state) ≡ delayed end_ state
    by true e = absurd (grind arith)
    by false e = refl
rested_same until now before (anchored to edge start_ state) h = absurd h
rested_same until now before (ready state) h = absurd h
rested_same until now before (waiting condition state) h = absurd h
rested_same until now before (calling child into state) h = absurd h
rested_same until now before (over result) h = absurd h

-- ---- the differing directives of a simulation

module _ (of_model : ReachedIsOfModel) (frames_of : BatchFrames) (falls : WeightFalls) (differs : ℕ → Bool) (until : ℕ) (model : Parts) (plan : Plan) (bound : ℕ) (valid : IsTrue (valid_model model)) (is : IsPlanOf model plan)
    (late : EachOf (IsPlainlyLate differs until) plan.directives) where
  abbrev as_planned : Table
  as_planned = with_directives model (differing_directives differs plan.directives) []

  planned_each : (directives : List Directive) → EachOf (IsPlainlyLate differs until) directives →
      EachOf (λ directive. differs directive.id ≡ true → WaitsLate until (planned_task model directive).phase) directives
  planned_each [] each = tt
  planned_each (directive ∷ rest) each = (λ e. planned_late until directive.anchor directive.start _ (each.0 e), planned_each rest each.1)

  none_there : (path : List ℕ) (task : Task) → task_at [] path ≡ Some task → WaitsLate until task.phase
  none_there path task e = absurd (cc)

  waits : (path : List ℕ) (task : Task) → task_at as_planned path ≡ Some task → WaitsLate until task.phase
  waits path task there =
      all_planned differs (λ (at : List ℕ) (one : Task). WaitsLate until one.phase) model plan.directives [] path (planned_each plan.directives late) (none_there path) task there

  yet_none : (id from : ℕ) (anchor : Option Anchor) (state : TaskState) → StartsPlainlyLate until anchor from →
      IsYetToStart until (root id) (record { phase = planned anchor from state; made = 0; begun = false })
  yet_none id from None state starts = record { id = id; path_is = refl; begun = refl; start = from; state = state; phase = refl; late = starts }
  yet_none id from (Some anchor) state starts = absurd starts

  yet_each : (directives : List Directive) → EachOf (IsPlainlyLate differs until) directives →
      EachOf (λ directive. differs directive.id ≡ true → IsYetToStart until (root directive.id) (planned_task model directive)) directives
  yet_each [] each = tt
  yet_each (directive ∷ rest) each = (λ e. yet_none directive.id directive.start directive.anchor _ (each.0 e), yet_each rest each.1)

  absent : (path : List ℕ) (task : Task) → task_at [] path ≡ Some task → IsYetToStart until path task
  absent path task e = absurd (cc)

  yet_to_start : (path : List ℕ) (task : Task) → task_at as_planned path ≡ Some task → IsYetToStart until path task
  yet_to_start path task there = all_planned differs (IsYetToStart until) model plan.directives [] path (yet_each plan.directives late) (absent path) task there

  -- at each of their paths stands what the plan says
  abbrev Stand : Table → Type 0
  Stand table = (path : List ℕ) → is_of_differing differs path ≡ true → task_at table path ≡ task_at as_planned path

  stand_each : (change : List ℕ → Task → Task) (table : Table) → ((path : List ℕ) (task : Task) → WaitsLate until task.phase → change path task ≡ task) → Stand table → Stand (on_each change table)
  stand_each change table same stand path e = each_at change table path ∙ ap (changed_at change path) (stand path e) ∙ by (task_at as_planned path) refl
    where
      by : (found : Option Task) → task_at as_planned path ≡ found → changed_at change path found ≡ found
      by None f = refl
      by (Some task) f = ap Some (same path task (waits path task f))

  -- ---- a batch

  module _ (now : ℕ) (table : Table) (table_is : IsTableOf model table) (stand : Stand table) (frames : List Frame) (are : AreFramesOf table frames) where
    -- each frame's path is a task's, and not that of a directive that differs
    abbrev IsCommon : List ℕ → Type 0
    IsCommon path = (2 ≤ length path) × (is_of_differing differs path ≡ false)

    ready_common : (frame : Frame) → OfReady table frame → IsCommon frame.path
    ready_common frame from = (stands_long model table table_is frame.path from.task from.there, none (is_of_differing differs frame.path) refl)
      where
        none : (b : Bool) → is_of_differing differs frame.path ≡ b → b ≡ false
        none true e = absurd (not_ready until from.task.phase frame.before from.phase (waits frame.path from.task (sym (stand frame.path e) ∙ from.there)))
        none false e = refl

    child_common : (path : List ℕ) (number : ℕ) → IsCommon path → IsCommon (child_path path number)
    child_common path number is_common_ =
        (omega (arith, is_common_.0, length-append path (number ∷ [])), longer_of differs path number is_common_.0 ∙ is_common_.1)

    frame_common : (most : ℕ) (frame : Frame) → length frame.path < most → Among frame frames → IsCommon frame.path
    frame_common zero frame short among = absurd (omega arith)
    frame_common (suc most) frame short among =
        by (each_of_among (λ one. OfReady table one ⊎ OfChild table frames one) frames frame are.origin among) (λ one less there. frame_common most one less there)
      where
        by : OfReady table frame ⊎ OfChild table frames frame → ((one : Frame) → length one.path < most → Among one frames → IsCommon one.path) → IsCommon frame.path
        by (inl from) further = ready_common frame from
        by (inr from) further =
            let n = children_made (task_at table from.maker.path) + from.number in
            let long : length frame.path ≡ length from.maker.path + 1 = ap length from.is ∙ length-append from.maker.path (n ∷ []) in
            subst IsCommon (sym from.is) (child_common from.maker.path n (further from.maker (omega (arith, long, short)) from.among))

    no_frame : (path : List ℕ) → is_of_differing differs path ≡ true → HasPath path frames → ⊥
    no_frame path e has =
        let found = frame_of_path path frames has in
        let k : false ≡ true = sym (frame_common (length found.0.path + 1) found.0 (omega arith) found.1).1 ∙ ap (is_of_differing differs) found.2 ∙ e in cc

    stand_frames : Stand (after_frames now frames table)
    stand_frames path e = at_no_frame now frames table path (no_frame path e) ∙ stand path e

    stand_batch : Stand (after_batch now frames table)
    stand_batch =
        let whole = after_frames now frames table in
        stand_each (gone_on whole now) whole (λ path task h i. record task { phase = gone_same until whole now path task.phase h i }) stand_frames

  -- ---- a step

  abbrev PlaceStands : Next SimulationState Run → Type 0
  PlaceStands (more at) = at.time < until → Stand at.table
  PlaceStands (finished run) = Unit {0}

  module _ (at : SimulationState) (reached : IsReached model plan bound (more at)) (stand : Stand at.table) where
    outcome_stands : (outcome : Batch) → batch model bound at.spent at.cells (ready_jobs at.cells at.table) ≡ outcome → PlaceStands (after_outcome model plan bound at outcome)
    outcome_stands limit e = tt
    outcome_stands (failed who fault) e = tt
    outcome_stands (committed next touched frames) e = λ before.
        stand_batch at.time at.table (of_model model plan bound at valid is reached).table stand frames (frames_of model plan bound at next touched frames valid is reached e)

    time_stands : (time : ℕ) (cells : List CellState) (out : Option ℕ) → PlaceStands (to_time model plan bound at time cells out)
    time_stands time cells (Some cell) = tt
    time_stands time cells None = λ before. stand_each (rested time) at.table (λ path task h i. record task { phase = rested_same until time before task.phase h i }) stand

    end_stands : (out : Option ℕ) → PlaceStands (to_end model plan bound at out)
    end_stands (Some cell) = tt
    end_stands None = tt

    moved_stands : (time : Option ℕ) → PlaceStands (moved model plan bound at time)
    moved_stands (Some time) = time_stands time (passed at.cells (time - at.time)) (first_out (passed at.cells (time - at.time)))
    moved_stands None = end_stands (first_out (passed at.cells (plan.duration - at.time)))

    judged_stands : (jobs : List (ℕ × Job)) → PlaceStands (woken_or_moved model plan bound at (on_each (woken at.cells) at.table) jobs)
    judged_stands [] = moved_stands (below plan.duration (least_due at.time plan.duration at.cells at.table))
    judged_stands (job ∷ rest) = λ before. stand_each (woken at.cells) at.table (λ path task h i. record task { phase = woken_same until at.cells task.phase h i }) stand

    next_stands : (jobs : List (ℕ × Job)) → ready_jobs at.cells at.table ≡ jobs → PlaceStands (next_by model plan bound at jobs)
    next_stands [] e = judged_stands (ready_jobs at.cells (on_each (woken at.cells) at.table))
    next_stands (job ∷ rest) e = outcome_stands (batch model bound at.spent at.cells (job ∷ rest)) (ap (batch model bound at.spent at.cells) e)

  -- ---- from the start on

  start_stands : 0 < until → Stand (start model plan).table
  start_stands some = stand_each (rested 0) (with_directives model plan.directives (with_daemons 0 model.daemons [])) (λ path task h i. record task { phase = rested_same until 0 some task.phase h i })
      (λ path e. differing_at differs model plan.directives (with_daemons 0 model.daemons []) path e
      ∙ same_at model (differing_directives differs plan.directives) (with_daemons 0 model.daemons []) [] path (daemons_at differs 0 model.daemons [] path e))

  -- a step is taken no later than where it leads
  step_stands : (at : SimulationState) → IsReached model plan bound (more at) → (at.time < until → Stand at.table) → (place : Next SimulationState Run) → next_state model plan bound at ≡ place → PlaceStands place
  step_stands at reached stand (finished run) e = tt
  step_stands at reached stand (more next) e = λ before.
      let later = step_later of_model falls model plan bound valid is at next reached e in
      subst PlaceStands e (next_stands at reached (stand (omega arith)) (ready_jobs at.cells at.table) refl) before

  all_stand : (place : Next SimulationState Run) → IsReached model plan bound place → PlaceStands place
  all_stand (more now) begins = λ before. start_stands before
  all_stand place (onward {point = now} reached) = step_stands now reached (all_stand (more now) reached) (next_state model plan bound now) refl

-- ---- the exchanged state

module _ (of_model : ReachedIsOfModel) (frames_of : BatchFrames) (falls : WeightFalls) (side_by_side : RunSideBySide) where
  pub have_not_started : HaveNotStarted
  have_not_started differs until model plan bound valid is late at reached before path task e there =
      yet_to_start of_model frames_of falls differs until model plan bound valid is late path task
      (sym (all_stand of_model frames_of falls differs until model plan bound valid is late (more at) reached before path e) ∙ there)

  resumed : (differs : ℕ → Bool) (until : ℕ) (model : Parts) (plan old_plan : Plan) (bound old_bound : ℕ) → DifferLate differs until model plan old_plan bound old_bound →
      EachOf (IsPlainlyLate differs until) plan.directives → (other : SimulationState) → IsReached model old_plan old_bound (more other) → other.time < until →
      IsReached model plan bound (more (exchanged_state differs model plan other))
      × (ready_jobs other.cells (exchanged differs model plan other.table) ≡ ready_jobs other.cells other.table)
  resumed differs until model plan old_plan bound old_bound given late other old_reached before = (
    subst (λ s. IsReached model plan bound (more s)) same reached,
    sym (ap (λ (s : SimulationState). ready_jobs s.cells s.table) same) ∙ beside.3,
  )
    where
      beside : (at : SimulationState) × IsReached model plan bound (more at) × AlikeBut differs at other × (ready_jobs at.cells at.table ≡ ready_jobs other.cells other.table)
      beside = side_by_side differs until model plan old_plan bound old_bound given other old_reached before

      at : SimulationState
      at = beside.0

      reached : IsReached model plan bound (more at)
      reached = beside.1

      alike : AlikeBut differs at other
      alike = beside.2

      order : IsOrderedTable at.table
      order = (of_model model plan bound at given.valid given.is reached).table.order

      old_order : IsOrderedTable (common_tasks differs other.table)
      old_order = order_part (is_common differs) other.table (of_model model old_plan old_bound other given.valid given.old_is old_reached).table.order

      tables : at.table ≡ exchanged differs model plan other.table
      tables = same_tables at.table (exchanged differs model plan other.table) order (order_directives model (differing_directives differs plan.directives) (common_tasks differs other.table) old_order)
          (λ path. by path (is_of_differing differs path) refl)
        where
          by : (path : List ℕ) (whose : Bool) → is_of_differing differs path ≡ whose → task_at at.table path ≡ task_at (exchanged differs model plan other.table) path
          by path true e =
              all_stand of_model frames_of falls differs until model plan bound given.valid given.is late (more at) reached (subst (λ t. t < until) (sym alike.time) before) path e
              ∙ same_at model (differing_directives differs plan.directives) [] (common_tasks differs other.table) path
              (sym (part_none (is_common differs) other.table path (ap not e)))
          by path false e =
              sym (part_at (is_common differs) at.table path (ap not e)) ∙ ap (λ t. task_at t path) alike.tables
              ∙ sym (common_at differs model plan.directives (common_tasks differs other.table) path e)

      same : at ≡ exchanged_state differs model plan other
      same = λ i. record {
        time = alike.time i;
        cells = alike.cells i;
        spent = alike.spent i;
        table = tables i;
        instants = alike.instants i;
        batches = alike.batches i;
        touched = alike.touched i;
      }

  pub resumes : Resumes
  resumes differs until model plan old_plan bound old_bound given late other old_reached before =
      (resumed differs until model plan old_plan bound old_bound given late other old_reached before).0

  pub same_jobs : SameJobs
  same_jobs differs until model plan old_plan bound old_bound given late other old_reached before =
      (resumed differs until model plan old_plan bound old_bound given late other old_reached before).1
