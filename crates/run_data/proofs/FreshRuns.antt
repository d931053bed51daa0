-- A fresh run is of its plan, its batches are those of states that were reached, and its frames are valid records.
use Rattle.std.proofs.Common.{◌≡◌, ℕ, ◌+◌, ◌-◌, Bool, true, false, List, [], ◌∷◌, ◌++◌, length, Option, Some, None, slice_get, nat_lt, if◌then◌else◌, refl, sym, ap, ◌∙◌, append_assoc, subst, arith, All}
use Rattle.std.proofs.lemmas.List.{length-map, length-set}
use Rattle.std.proofs.lemmas.List.Elements.{All-nil, All-cons}
use Rattle.aerie_base.specs.declared.models.model.Parts.{Parts}
use Rattle.aerie_base.specs.declared.plans.Plan.{Plan}
use Rattle.effect_cells.specs.declared.effects.CellState.{CellState}
use Rattle.effect_cells.specs.declared.effects.Effect.{Effect}
use Rattle.effect_cells.specs.States.{state_after}
use Rattle.effect_cells.specs.Cells.{first_state, passed, first_out, emitted, emitted_on, with_effects, committed_cells}
use Rattle.effect_cells.specs.Worth.{worth_of}
use Rattle.run_data.specs.declared.jobs.Job.{Job}
use Rattle.run_data.specs.TaskFrames.{Frame}
use Rattle.run_data.specs.declared.frames.Item.{Item}
use Rattle.run_data.specs.declared.frames.Item.TheVariants as item
use Rattle.run_data.specs.declared.runs.Instant.{Instant}
use Rattle.run_data.specs.declared.runs.Run.{Run}
use Rattle.run_data.specs.Batches.{Batch, limit, failed, committed, batch, judged as judged_batch, when_within, when_no_fault, unless_out, Blame, fault_in, least_fault, tree_of, cost_of}
use Rattle.run_data.specs.Transitions.{Next, more, finished, begins, onward}
use Rattle.run_data.specs.Frames.{Made, Making, made_by_all}
use Rattle.run_data.specs.Fresh.{SimulationState, start, instant_at, settled, next_by, woken_or_moved, moved, to_time, to_end, after_outcome, least_due, below, IsReached}
use Rattle.run_data.specs.Records.{IsValid, record_of}
use Rattle.run_data.specs.Tasks.{TaskPhase, anchored, ready, delayed, waiting, calling, over, Task, Table, on_each, ready_jobs, job_if_ready, woken}
use Rattle.run_data.specs.laws.FreshRuns.{FreshRunIsOfPlan, IsReachedBatch, EachAfter, BatchesAreReached, FramesOfRunsAreValid}
use Rattle.run_data.specs.laws.Generations.{child_jobs}
use Rattle.run_data.specs.laws.Orders.{EachOf}
use Rattle.run_data.specs.FrameLaws.{each_sorted}
use Rattle.run_data.proofs.Makings.{MadeEach, made_each, none_faulted}
use Rattle.run_data.proofs.Replay.{OfTree, making_of_tree}
use Rattle.run_data.proofs.ValidRecords.{frames_are_valid}

-- ---- of its plan

module _ (model : Parts) (plan : Plan) (bound : ℕ) where
  abbrev IsOfPlan : Next SimulationState Run → Type 0
  IsOfPlan (more at) = Unit {0}
  IsOfPlan (finished run) = (run.plan ≡ plan) × (run.bound ≡ bound)

  outcome_of_plan : (at : SimulationState) (outcome : Batch) → IsOfPlan (after_outcome model plan bound at outcome)
  outcome_of_plan at limit = (refl, refl)
  outcome_of_plan at (failed who fault) = (refl, refl)
  outcome_of_plan at (committed cells touched frames) = tt

  time_of_plan : (at : SimulationState) (time : ℕ) (cells : List CellState) (out : Option ℕ) → IsOfPlan (to_time model plan bound at time cells out)
  time_of_plan at time cells (Some cell) = (refl, refl)
  time_of_plan at time cells None = tt

  end_of_plan : (at : SimulationState) (out : Option ℕ) → IsOfPlan (to_end model plan bound at out)
  end_of_plan at (Some cell) = (refl, refl)
  end_of_plan at None = (refl, refl)

  moved_of_plan : (at : SimulationState) (time : Option ℕ) → IsOfPlan (moved model plan bound at time)
  moved_of_plan at None = end_of_plan at (first_out (passed at.cells (plan.duration - at.time)))
  moved_of_plan at (Some time) = time_of_plan at time (passed at.cells (time - at.time)) (first_out (passed at.cells (time - at.time)))

  judged_of_plan : (at : SimulationState) (table : Table) (jobs : List (ℕ × Job)) → IsOfPlan (woken_or_moved model plan bound at table jobs)
  judged_of_plan at table [] = moved_of_plan at (below plan.duration (least_due at.time plan.duration at.cells at.table))
  judged_of_plan at table (job ∷ rest) = tt

  next_of_plan : (at : SimulationState) (jobs : List (ℕ × Job)) → IsOfPlan (next_by model plan bound at jobs)
  next_of_plan at [] = judged_of_plan at (on_each (woken at.cells) at.table) (ready_jobs at.cells (on_each (woken at.cells) at.table))
  next_of_plan at (job ∷ rest) = outcome_of_plan at (batch model bound at.spent at.cells (job ∷ rest))

  point_of_plan : (point : Next SimulationState Run) → IsReached model plan bound point → IsOfPlan point
  point_of_plan (more at) begins = tt
  point_of_plan point (onward {point = at} before) = next_of_plan at (ready_jobs at.cells at.table)

pub fresh_run_is_of_plan : FreshRunIsOfPlan
fresh_run_is_of_plan model plan bound run fresh = point_of_plan model plan bound (finished run) fresh

-- ---- its batches

append_none : {A : Type 0} (list : List A) → list ++ [] ≡ list
append_none [] = refl
append_none (first ∷ rest) = ap (λ l. first ∷ l) (append_none rest)

module _ {A : Type 0} (P : List A → A → Type 0) where
  pub after_push : (before list : List A) (last : A) → EachAfter P before list → P (before ++ list) last → EachAfter P before (list ++ last ∷ [])
  after_push before [] last each h = (subst (λ l. P l last) (append_none before) h, tt)
  after_push before (first ∷ rest) last each h =
      (each.0, after_push (before ++ first ∷ []) rest last each.1 (subst (λ l. P l last) (sym (append_assoc before (first ∷ []) rest)) h))

  after_all : (Q : A → Type 0) → ((before : List A) (one : A) → P before one → Q one) → (before list : List A) → EachAfter P before list → All Q list
  after_all Q gives before [] each = All-nil Q
  after_all Q gives before (first ∷ rest) each = All-cons Q first rest (gives before first each.0) (after_all Q gives (before ++ first ∷ []) rest each.1)

module _ (model : Parts) (plan : Plan) (bound : ℕ) where
  abbrev OfInstant : List Instant → Instant → Type 0
  OfInstant before instant = EachAfter (IsReachedBatch model plan bound before instant.time) [] instant.batches

  abbrev AreReached : SimulationState → Type 0
  AreReached at = EachAfter OfInstant [] at.instants × EachAfter (IsReachedBatch model plan bound at.instants at.time) [] at.batches

  abbrev PointIs : Next SimulationState Run → Type 0
  PointIs (more at) = AreReached at
  PointIs (finished run) = EachAfter OfInstant [] run.instants

  module _ (at : SimulationState) (stands : IsReached model plan bound (more at)) (reached : AreReached at) where
    settled_reached : EachAfter OfInstant [] (settled model plan bound at)
    settled_reached = after_push OfInstant [] at.instants (instant_at at) reached.0 reached.1

    outcome_reached : (outcome : Batch) → batch model bound at.spent at.cells (ready_jobs at.cells at.table) ≡ outcome → PointIs (after_outcome model plan bound at outcome)
    outcome_reached limit e = reached.0
    outcome_reached (failed who fault) e = reached.0
    outcome_reached (committed cells touched frames) e = (
      reached.0,
      after_push (IsReachedBatch model plan bound at.instants at.time) [] at.batches frames reached.1 (record {
        at = at;
        is_reached = stands;
        instants_before = refl;
        at_time = refl;
        batches_before = refl;
        cells = cells;
        touched = touched;
        is_batch = e;
      }),
    )

    time_reached : (time : ℕ) (cells : List CellState) (out : Option ℕ) → PointIs (to_time model plan bound at time cells out)
    time_reached time cells (Some cell) = settled_reached
    time_reached time cells None = (settled_reached, tt)

    end_reached : (out : Option ℕ) → PointIs (to_end model plan bound at out)
    end_reached (Some cell) = settled_reached
    end_reached None = settled_reached

    moved_reached : (time : Option ℕ) → PointIs (moved model plan bound at time)
    moved_reached None = end_reached (first_out (passed at.cells (plan.duration - at.time)))
    moved_reached (Some time) = time_reached time (passed at.cells (time - at.time)) (first_out (passed at.cells (time - at.time)))

    judged_reached : (table : Table) (jobs : List (ℕ × Job)) → PointIs (woken_or_moved model plan bound at table jobs)
    judged_reached table [] = moved_reached (below plan.duration (least_due at.time plan.duration at.cells at.table))
    judged_reached table (job ∷ rest) = reached

    next_reached : (jobs : List (ℕ × Job)) → ready_jobs at.cells at.table ≡ jobs → PointIs (next_by model plan bound at jobs)
    next_reached [] e = judged_reached (on_each (woken at.cells) at.table) (ready_jobs at.cells (on_each (woken at.cells) at.table))
    next_reached (job ∷ rest) e = outcome_reached (batch model bound at.spent at.cells (job ∷ rest)) (ap (batch model bound at.spent at.cells) e)

  point_reached : (point : Next SimulationState Run) → IsReached model plan bound point → PointIs point
  point_reached (more at) begins = (tt, tt)
  point_reached point (onward {point = at} before) =
      next_reached at before (point_reached (more at) before) (ready_jobs at.cells at.table) refl

pub batches_are_reached : BatchesAreReached
batches_are_reached model plan bound run fresh = point_reached model plan bound (finished run) fresh

-- ---- as many cells

effects_count : (from : ℕ) (on : ℕ → Option Effect) (cells : List CellState) → length (with_effects from on cells) ≡ length cells
effects_count from on [] = refl
effects_count from on (state ∷ rest) = omega (arith, effects_count (from + 1) on rest)

pub emitted_count : (cells : List CellState) (cell : ℕ) (effect : Effect) → length (emitted cells cell effect) ≡ length cells
emitted_count cells cell effect = by (slice_get cells cell)
  where
    by : (found : Option CellState) → length (emitted_on cells cell effect found) ≡ length cells
    by None = refl
    by (Some state) = length-set cells cell _

module _ (model : Parts) (plan : Plan) (bound : ℕ) where
  abbrev Counts : Next SimulationState Run → Type 0
  Counts (more at) = length at.cells ≡ length model.cells
  Counts (finished run) = Unit {0}

  outcome_counts : (at : SimulationState) (outcome : Batch) → OfTree model plan bound at.cells outcome → length at.cells ≡ length model.cells → Counts (after_outcome model plan bound at outcome)
  outcome_counts at limit of_tree e = tt
  outcome_counts at (failed who fault) of_tree e = tt
  outcome_counts at (committed cells touched frames) of_tree e =
      ap (λ (l : List CellState). length l) (sym of_tree.1) ∙ effects_count 0 (worth_of of_tree.0) at.cells ∙ e

  time_counts : (at : SimulationState) (time : ℕ) (out : Option ℕ) → length at.cells ≡ length model.cells → Counts (to_time model plan bound at time (passed at.cells (time - at.time)) out)
  time_counts at time (Some cell) e = tt
  time_counts at time None e = length-map at.cells (state_after (time - at.time)) ∙ e

  end_counts : (at : SimulationState) (out : Option ℕ) → Counts (to_end model plan bound at out)
  end_counts at (Some cell) = tt
  end_counts at None = tt

  moved_counts : (at : SimulationState) (time : Option ℕ) → length at.cells ≡ length model.cells → Counts (moved model plan bound at time)
  moved_counts at None e = end_counts at (first_out (passed at.cells (plan.duration - at.time)))
  moved_counts at (Some time) e = time_counts at time (first_out (passed at.cells (time - at.time))) e

  judged_counts : (at : SimulationState) (table : Table) (jobs : List (ℕ × Job)) → length at.cells ≡ length model.cells → Counts (woken_or_moved model plan bound at table jobs)
  judged_counts at table [] e = moved_counts at (below plan.duration (least_due at.time plan.duration at.cells at.table)) e
  judged_counts at table (job ∷ rest) e = e

  next_counts : (at : SimulationState) (jobs : List (ℕ × Job)) → length at.cells ≡ length model.cells → Counts (next_by model plan bound at jobs)
  next_counts at [] e = judged_counts at (on_each (woken at.cells) at.table) (ready_jobs at.cells (on_each (woken at.cells) at.table)) e
  next_counts at (job ∷ rest) e =
      outcome_counts at (batch model bound at.spent at.cells (job ∷ rest)) (making_of_tree model plan bound at.spent at.cells (made_by_all model bound (job ∷ rest))) e

  pub cells_count : (point : Next SimulationState Run) → IsReached model plan bound point → Counts point
  cells_count (more at) begins = length-map model.cells (λ cell. first_state cell.1)
  cells_count point (onward {point = at} before) = next_counts at (ready_jobs at.cells at.table) (cells_count (more at) before)

-- ---- valid records

-- the frame of a step that has not faulted is valid
abbrev IsGood : Parts → Frame → Type 0
IsGood model frame = fault_in frame.status ≡ None → IsValid model (record_of frame)

abbrev HasCount : Parts → Job → Type 0
HasCount model job = length job.view ≡ length model.cells

jobs_count : (model : Parts) (maker : List ℕ) (number : ℕ) (view : List CellState) (items : List Item) → length view ≡ length model.cells → EachOf (HasCount model) (child_jobs model maker number view items)
jobs_count model maker number view [] e = tt
jobs_count model maker number view (item.Emit cell effect ∷ rest) e = jobs_count model maker number (emitted view cell effect) rest (emitted_count view cell effect ∙ e)
jobs_count model maker number view (item.Child kind arguments ∷ rest) e = (e, jobs_count model maker (number + 1) view rest e)

jobs_good : (model : Parts) (bound : ℕ) (jobs : List (ℕ × Job)) → EachOf (λ job. HasCount model job.1) jobs → MadeEach (IsGood model) (made_by_all model bound jobs)
jobs_good model bound jobs all =
    made_each model bound (HasCount model) (IsGood model)
    (λ job ending so_far is e no_fault. frames_are_valid model bound job ending so_far is e)
    (λ job number ending so_far is e. jobs_count model job.path number job.view so_far.items is)
    (λ maker child no_fault. absurd (cc)) jobs all

if_ready_count : (model : Parts) (cells : List CellState) (path : List ℕ) (task : Task) (phase : TaskPhase) (rest : List (ℕ × Job)) → length cells ≡ length model.cells →
    EachOf (λ job. HasCount model job.1) rest → EachOf (λ job. HasCount model job.1) (job_if_ready cells path task phase rest)
if_ready_count model cells path task (ready state) rest e all = (e, all)
if_ready_count model cells path task (anchored to edge start state) rest e all = all
if_ready_count model cells path task (delayed until state) rest e all = all
if_ready_count model cells path task (waiting condition state) rest e all = all
if_ready_count model cells path task (calling child into state) rest e all = all
if_ready_count model cells path task (over result) rest e all = all

ready_count : (model : Parts) (cells : List CellState) (table : Table) → length cells ≡ length model.cells → EachOf (λ job. HasCount model job.1) (ready_jobs cells table)
ready_count model cells [] e = tt
ready_count model cells (entry ∷ rest) e = if_ready_count model cells entry.0 entry.1 entry.1.phase (ready_jobs cells rest) e (ready_count model cells rest e)

-- each frame that is committed has a property that those of its making have where they have not faulted
module _ (P : Frame → Type 0) where
  abbrev pub CommitsEach : Batch → Type 0
  CommitsEach limit = Unit {0}
  CommitsEach (failed who fault) = Unit {0}
  CommitsEach (committed cells touched frames) = EachOf P frames

  out_each : (made : Made) → EachOf P made.frames → (cells after_cells : List CellState) (out : Option ℕ) → CommitsEach (unless_out out made cells after_cells)
  out_each made all cells after_cells None = each_sorted P made.frames all
  out_each made all cells after_cells (Some cell) = tt

  fault_each : (made : Made) → EachOf (λ frame. fault_in frame.status ≡ None → P frame) made.frames → (cells : List CellState) (blame : Option Blame) → least_fault made.frames ≡ blame →
      CommitsEach (when_no_fault blame made cells)
  fault_each made all cells None e = out_each made (none_faulted P made.frames e all) cells (committed_cells cells (tree_of made)) (first_out (committed_cells cells (tree_of made)))
  fault_each made all cells (Some (path, fault)) e = tt

  within_each : (made : Made) → EachOf (λ frame. fault_in frame.status ≡ None → P frame) made.frames → (cells : List CellState) (fit : Bool) → CommitsEach (when_within fit made cells)
  within_each made all cells true = fault_each made all cells (least_fault made.frames) refl
  within_each made all cells false = tt

  pub commits_each : (bound spent : ℕ) (cells : List CellState) (making : Making) → MadeEach (λ frame. fault_in frame.status ≡ None → P frame) making → CommitsEach (judged_batch bound spent cells making)
  commits_each bound spent cells None all = tt
  commits_each bound spent cells (Some made) all = within_each made all cells (if nat_lt bound (spent + cost_of made.frames) then false else true)

  frames_all : (frames : List Frame) → EachOf P frames → All P frames
  frames_all [] all = All-nil P
  frames_all (frame ∷ rest) all = All-cons P frame rest all.0 (frames_all rest all.1)

module _ (model : Parts) (plan : Plan) (bound : ℕ) where
  abbrev IsGoodFrame : Frame → Type 0
  IsGoodFrame frame = IsValid model (record_of frame)

  batch_good : (before : List Instant) (time : ℕ) (earlier : List (List Frame)) (frames : List Frame) → IsReachedBatch model plan bound before time earlier frames → All IsGoodFrame frames
  batch_good before time earlier frames is =
      let count : length is.at.cells ≡ length model.cells = cells_count model plan bound (more is.at) is.is_reached in
      let jobs = ready_jobs is.at.cells is.at.table in
      frames_all IsGoodFrame frames
      (subst (CommitsEach IsGoodFrame) is.is_batch
      (commits_each IsGoodFrame bound is.at.spent is.at.cells (made_by_all model bound jobs) (jobs_good model bound jobs (ready_count model is.at.cells is.at.table count))))

pub frames_of_runs_are_valid : FramesOfRunsAreValid
frames_of_runs_are_valid model plan bound run fresh =
    after_all (OfInstant model plan bound) (λ instant. All (All (IsGoodFrame model plan bound)) instant.batches)
    (λ before instant batches. after_all (IsReachedBatch model plan bound before instant.time) (All (IsGoodFrame model plan bound)) (batch_good model plan bound before instant.time) [] instant.batches batches)
    [] run.instants (batches_are_reached model plan bound run fresh)
