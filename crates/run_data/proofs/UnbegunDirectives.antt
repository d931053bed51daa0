-- Directives that have not begun.
use Rattle.std.proofs.Common.{◌≡◌, ◌⊎◌, inl, inr, ℕ, zero, suc, ◌+◌, ◌-◌, ◌<◌, ◌≤◌, nat_eq, nat_lt, Bool, true, false, cond, List, [], ◌∷◌, Option, Some, None, refl, sym, ap, ◌∙◌, subst, if◌then◌else◌, slice_get, arith}
use Rattle.std.proofs.lemmas.Bool.{false≢true, ltb-true}
use Rattle.std.specs.BTreeMap.{is_at}
use Rattle.aerie_base.specs.declared.models.model.Parts.{Parts}
use Rattle.aerie_base.specs.declared.plans.Anchor.{Anchor}
use Rattle.aerie_base.specs.declared.plans.Directive.{Directive}
use Rattle.aerie_base.specs.declared.plans.Edge.{Edge}
use Rattle.aerie_base.specs.declared.plans.Plan.{Plan}
use Rattle.aerie_base.specs.Paths.{path_cmp, root}
use Rattle.aerie_base.specs.plans.OfModel.{IsPlanOf, rise_to, ids_of}
use Rattle.effect_cells.specs.declared.effects.CellState.{CellState}
use Rattle.effect_cells.specs.Cells.{passed, first_out}
use Rattle.run_data.specs.declared.tasks.TaskState.{TaskState}
use Rattle.run_data.specs.TaskFrames.{Frame}
use Rattle.run_data.specs.declared.jobs.Job.{Job}
use Rattle.run_data.specs.declared.runs.Run.{Run}
use Rattle.run_data.specs.Batches.{Batch, limit, failed, committed, batch}
use Rattle.run_data.specs.Endings.{has_come, back, due_phase, gone_on, after_batch}
use Rattle.run_data.specs.Fresh.{SimulationState, start, next_state, next_by, woken_or_moved, moved, to_time, to_end, after_outcome, least_due, below, IsReached}
use Rattle.run_data.specs.TaskStates.{activity_begun}
use Rattle.run_data.specs.Tasks.{TaskPhase, anchored, ready, delayed, Task, Table, task_at, with_task, on_each, planned, with_directives, with_daemons, after_delay, after_frame, after_frames, ready_jobs, woken, woken_phase, rested, rested_phase}
use Rattle.run_data.specs.Transitions.{Next, more, finished, begins, onward}
use Rattle.run_data.specs.laws.BatchFrames.{HasPath}
use Rattle.run_data.specs.laws.GoingOn.{IsQuiet, AllQuiet}
use Rattle.run_data.specs.laws.ReadyTasks.{is_ready_phase}
use Rattle.run_data.specs.laws.OpenTasks.{back_open, due_open}
use Rattle.run_data.specs.laws.PathsUnder.{both_true}
use Rattle.run_data.specs.laws.FramesByPath.{either_path, new_at, at_no_frame}
use Rattle.run_data.specs.TableLaws.{at_with, is_same, path_itself}
use Rattle.run_data.proofs.QuietStates.{reached_is_quiet}
use Rattle.run_data.specs.laws.QuietTasks.{come_each}
use Rattle.std.specs.Ordering.{is_eq}
use Rattle.run_data.specs.laws.SettledInstants.{IsSettled}
use Rattle.run_data.specs.laws.TracedTasks.{IsTraced}
use Rattle.run_data.specs.laws.UnbegunDirectives.{ComesAt, WaitsAsPlanned, HasNotBegun, UnbegunAreAsPlanned}
use Rattle.run_data.specs.laws.LiveAfterFrames.{quiet_at}
use Rattle.run_data.specs.laws.TableParts.{each_at, changed_at}
use Rattle.run_data.proofs.TracedTasks.{none_ready_at, tasks_are_traced}

module _ (model : Parts) (plan : Plan) (bound : ℕ) (directive : Directive) where
  abbrev state : TaskState
  state = activity_begun model directive.kind directive.arguments

  abbrev path : List ℕ
  path = root directive.id

  -- it is ready, or waits as planned
  abbrev PhaseFits : Option Anchor → TaskPhase → Type 0
  PhaseFits None phase = phase ≡ delayed directive.start state
  PhaseFits (Some anchor) phase =
      (phase ≡ anchored anchor.to anchor.edge directive.start state) ⊎ ((time : ℕ) × ComesAt model plan bound anchor.to anchor.edge time × (phase ≡ delayed (time + directive.start) state))

  record Fits (task : Task) : Type 0 where
    made : task.made ≡ 0
    phase : (task.phase ≡ ready state) ⊎ PhaseFits directive.anchor task.phase

  record Stands (table : Table) : Type 0 where
    task : Task
    there : task_at table path ≡ Some task
    fits : task.begun ≡ false → Fits task

  -- ---- changes of all tasks

  stands_each : (change : List ℕ → Task → Task) → ((other : List ℕ) (task : Task) → (change other task).begun ≡ task.begun) → (table : Table) →
      ((task : Task) → task_at table path ≡ Some task → Fits task → Fits (change path task)) → Stands table → Stands (on_each change table)
  stands_each change begun table keeps stands = record {
    task = change path stands.task;
    there = each_at change table path ∙ ap (changed_at change path) stands.there;
    fits = λ e. keeps stands.task stands.there (stands.fits (sym (begun path stands.task) ∙ e));
  }

  woken_fits : (cells : List CellState) (task : Task) → Fits task → Fits (woken cells path task)
  woken_fits cells task fits = record { made = fits.made; phase = by fits.phase }
    where
      waits : (anchor : Option Anchor) → PhaseFits anchor task.phase → PhaseFits anchor (woken_phase cells task.phase)
      waits None e = ap (woken_phase cells) e
      waits (Some anchor) (inl e) = inl (ap (woken_phase cells) e)
      waits (Some anchor) (inr h) = inr (h.0, h.1, ap (woken_phase cells) h.2)

      by : (task.phase ≡ ready state) ⊎ PhaseFits directive.anchor task.phase → (woken_phase cells task.phase ≡ ready state) ⊎ PhaseFits directive.anchor (woken_phase cells task.phase)
      by (inl e) = inl (ap (woken_phase cells) e)
      by (inr h) = inr (waits directive.anchor h)

  rested_fits : (now : ℕ) (task : Task) → Fits task → Fits (rested now path task)
  rested_fits now task fits = record { made = fits.made; phase = by fits.phase }
    where
      rests : (until : ℕ) → (rested_phase now (delayed until state) ≡ ready state) ⊎ (rested_phase now (delayed until state) ≡ delayed until state)
      rests until = go (nat_eq until now)
        where
          go : (b : Bool) → ((if b then ready state else delayed until state) ≡ ready state) ⊎ ((if b then ready state else delayed until state) ≡ delayed until state)
          go true = inl refl
          go false = inr refl

      delays : (until : ℕ) (Q : TaskPhase → Type 0) → Q (delayed until state) → task.phase ≡ delayed until state → (rested_phase now task.phase ≡ ready state) ⊎ Q (rested_phase now task.phase)
      delays until Q q e = go (rests until)
        where
          go : (rested_phase now (delayed until state) ≡ ready state) ⊎ (rested_phase now (delayed until state) ≡ delayed until state) → (rested_phase now task.phase ≡ ready state) ⊎ Q (rested_phase now task.phase)
          go (inl f) = inl (ap (rested_phase now) e ∙ f)
          go (inr f) = inr (subst Q (sym (ap (rested_phase now) e ∙ f)) q)

      waits : (anchor : Option Anchor) → PhaseFits anchor task.phase → (rested_phase now task.phase ≡ ready state) ⊎ PhaseFits anchor (rested_phase now task.phase)
      waits None e = delays directive.start (λ p. p ≡ delayed directive.start state) refl e
      waits (Some anchor) (inl e) = inr (inl (ap (rested_phase now) e))
      waits (Some anchor) (inr h) = delays (h.0 + directive.start) (PhaseFits (Some anchor)) (inr (h.0, h.1, refl)) h.2

      by : (task.phase ≡ ready state) ⊎ PhaseFits directive.anchor task.phase → (rested_phase now task.phase ≡ ready state) ⊎ PhaseFits directive.anchor (rested_phase now task.phase)
      by (inl e) = inl (ap (rested_phase now) e)
      by (inr h) = waits directive.anchor h

  -- ---- a batch

  module _ (at : SimulationState) (reached : IsReached model plan bound (more at)) (quiet : AllQuiet at.table at.table) (frames : List Frame) (after : SimulationState)
      (step : next_state model plan bound at ≡ more after) (tables : after.table ≡ after_batch at.time frames at.table) where
    abbrev whole : Table
    whole = after_frames at.time frames at.table

    comes_after : (to : ℕ) (edge : Edge) → has_come whole to edge ≡ true → has_come after.table to edge ≡ true
    comes_after to edge e =
        ap (λ t. has_come t to edge) tables
        ∙ come_each (gone_on whole at.time) (λ other task. due_open whole at.time (back whole other task.phase) ∙ back_open whole other task.phase) (λ other task. refl) whole to edge ∙ e

    abbrev goes_on : TaskPhase → TaskPhase
    goes_on phase = due_phase whole at.time (back whole path phase)

    delay_fits : (anchor : Anchor) (from : ℕ) → directive.start ≡ from → has_come at.table anchor.to anchor.edge ≡ false → has_come whole anchor.to anchor.edge ≡ true →
        (after_delay at.time from state ≡ ready state) ⊎ PhaseFits (Some anchor) (after_delay at.time from state)
    delay_fits anchor zero e before comes = inl refl
    delay_fits anchor (suc less) e before comes =
        inr (inr (at.time, record { before = at; after = after; is_reached = reached; step = step; at_time = refl; not_yet = before; comes = comes_after anchor.to anchor.edge comes }, ap (λ n. delayed (at.time + n) state) (sym e)))

    anchored_fits : (anchor : Anchor) → has_come at.table anchor.to anchor.edge ≡ false →
        (goes_on (anchored anchor.to anchor.edge directive.start state) ≡ ready state) ⊎ PhaseFits (Some anchor) (goes_on (anchored anchor.to anchor.edge directive.start state))
    anchored_fits anchor before = by (has_come whole anchor.to anchor.edge) refl
      where
        by : (b : Bool) → has_come whole anchor.to anchor.edge ≡ b →
            ((if b then after_delay at.time directive.start state else anchored anchor.to anchor.edge directive.start state) ≡ ready state)
            ⊎ PhaseFits (Some anchor) (if b then after_delay at.time directive.start state else anchored anchor.to anchor.edge directive.start state)
        by true e = delay_fits anchor directive.start refl before e
        by false e = inr (inl refl)

    gone_fits : (task : Task) → task_at at.table path ≡ Some task → Fits task → Fits (gone_on whole at.time path task)
    gone_fits task there fits = record { made = fits.made; phase = by fits.phase }
      where
        waits : (anchor : Option Anchor) → PhaseFits anchor task.phase → (goes_on task.phase ≡ ready state) ⊎ PhaseFits anchor (goes_on task.phase)
        waits None e = inr (ap goes_on e)
        waits (Some anchor) (inl e) =
            let before : has_come at.table anchor.to anchor.edge ≡ false = subst (IsQuiet at.table path) e (quiet_at at.table at.table path task quiet there) in
            subst (λ p. (goes_on p ≡ ready state) ⊎ PhaseFits (Some anchor) (goes_on p)) (sym e) (anchored_fits anchor before)
        waits (Some anchor) (inr h) = inr (inr (h.0, h.1, ap goes_on h.2))

        by : (task.phase ≡ ready state) ⊎ PhaseFits directive.anchor task.phase → (goes_on task.phase ≡ ready state) ⊎ PhaseFits directive.anchor (goes_on task.phase)
        by (inl e) = inl (ap goes_on e)
        by (inr h) = waits directive.anchor h

    begun_frames : (some : List Frame) (table : Table) → HasPath path some ⊎ ((task : Task) × (task_at table path ≡ Some task) × (task.begun ≡ true)) →
        (task : Task) × (task_at (after_frames at.time some table) path ≡ Some task) × (task.begun ≡ true)
    begun_frames [] table (inl has) = absurd has
    begun_frames [] table (inr h) = h
    begun_frames (frame ∷ rest) table h = by (is_at (path_cmp path) frame.path) refl h (λ k. begun_frames rest (after_frame at.time frame table) k)
      where
        Begun : Type 0
        Begun = (task : Task) × (task_at (after_frame at.time frame table) path ≡ Some task) × (task.begun ≡ true)

        put : (b : Bool) → is_at (path_cmp path) frame.path ≡ b → task_at (after_frame at.time frame table) path ≡ cond b (Some (new_at at.time table frame)) (task_at table path)
        put b e = at_with table frame.path path (new_at at.time table frame) ∙ ap (λ c. cond c (Some (new_at at.time table frame)) (task_at table path)) e

        by : (b : Bool) → is_at (path_cmp path) frame.path ≡ b → HasPath path (frame ∷ rest) ⊎ ((task : Task) × (task_at table path ≡ Some task) × (task.begun ≡ true)) →
            (HasPath path rest ⊎ Begun → (task : Task) × (task_at (after_frames at.time rest (after_frame at.time frame table)) path ≡ Some task) × (task.begun ≡ true)) →
            (task : Task) × (task_at (after_frames at.time rest (after_frame at.time frame table)) path ≡ Some task) × (task.begun ≡ true)
        by true e k further = further (inr (new_at at.time table frame, put true e, refl))
        by false e (inl (inl same)) further =
            let k : true ≡ false = sym (ap (λ p. is_at (path_cmp path) p) same ∙ ap is_eq (path_itself path)) ∙ e in absurd (cc)
        by false e (inl (inr has)) further = further (inl has)
        by false e (inr k) further = further (inr (k.0, put false e ∙ k.1, k.2))

    batch_stands : Stands at.table → Stands (after_batch at.time frames at.table)
    batch_stands stands = by (either_path path frames)
      where
        by : HasPath path frames ⊎ (HasPath path frames → ⊥) → Stands (after_batch at.time frames at.table)
        by (inl has) =
            let now = begun_frames frames at.table (inl has) in record {
              task = gone_on whole at.time path now.0;
              there = each_at (gone_on whole at.time) whole path ∙ ap (changed_at (gone_on whole at.time) path) now.1;
              fits = λ e. absurd (false≢true (sym e ∙ now.2));
            }
        by (inr none) = record {
          task = gone_on whole at.time path stands.task;
          there = each_at (gone_on whole at.time) whole path ∙ ap (changed_at (gone_on whole at.time) path) (at_no_frame at.time frames at.table path none ∙ stands.there);
          fits = λ e. gone_fits stands.task stands.there (stands.fits e);
        }

  -- ---- each step

  abbrev PlaceStands : Next SimulationState Run → Type 0
  PlaceStands (more at) = Stands at.table
  PlaceStands (finished run) = Unit {0}

  module _ (at : SimulationState) (reached : IsReached model plan bound (more at)) (quiet : AllQuiet at.table at.table) (stands : Stands at.table) where
    outcome_stands : (outcome : Batch) → next_state model plan bound at ≡ after_outcome model plan bound at outcome → PlaceStands (after_outcome model plan bound at outcome)
    outcome_stands limit e = tt
    outcome_stands (failed who fault) e = tt
    outcome_stands (committed next touched frames) e = batch_stands at reached quiet frames _ e refl stands

    time_stands : (time : ℕ) (cells : List CellState) (out : Option ℕ) → PlaceStands (to_time model plan bound at time cells out)
    time_stands time cells (Some cell) = tt
    time_stands time cells None = stands_each (rested time) (λ other task. refl) at.table (λ task there fits. rested_fits time task fits) stands

    end_stands : (out : Option ℕ) → PlaceStands (to_end model plan bound at out)
    end_stands (Some cell) = tt
    end_stands None = tt

    moved_stands : (time : Option ℕ) → PlaceStands (moved model plan bound at time)
    moved_stands (Some time) = time_stands time (passed at.cells (time - at.time)) (first_out (passed at.cells (time - at.time)))
    moved_stands None = end_stands (first_out (passed at.cells (plan.duration - at.time)))

    judged_stands : (jobs : List (ℕ × Job)) → PlaceStands (woken_or_moved model plan bound at (on_each (woken at.cells) at.table) jobs)
    judged_stands [] = moved_stands (below plan.duration (least_due at.time plan.duration at.cells at.table))
    judged_stands (job ∷ rest) = stands_each (woken at.cells) (λ other task. refl) at.table (λ task there fits. woken_fits at.cells task fits) stands

    next_stands : (jobs : List (ℕ × Job)) → ready_jobs at.cells at.table ≡ jobs → PlaceStands (next_by model plan bound at jobs)
    next_stands [] e = judged_stands (ready_jobs at.cells (on_each (woken at.cells) at.table))
    next_stands (job ∷ rest) e = outcome_stands (batch model bound at.spent at.cells (job ∷ rest)) (ap (next_by model plan bound at) e)

  -- ---- the start

  apart : (other : ℕ) → directive.id < other → is_at (path_cmp path) (root other) ≡ false
  apart other less = by (is_at (path_cmp path) (root other)) refl
    where
      second : List ℕ → ℕ
      second [] = 0
      second (one ∷ []) = 0
      second (one ∷ two ∷ rest) = two

      by : (b : Bool) → is_at (path_cmp path) (root other) ≡ b → b ≡ false
      by true e = let same : directive.id ≡ other = ap second (is_same path (root other) e) in absurd (omega arith)
      by false e = refl

  others_above : (next_id before : ℕ) (rest : List Directive) (table : Table) → directive.id ≤ before → rise_to next_id before (ids_of rest) ≡ true → task_at (with_directives model rest table) path ≡ task_at table path
  others_above next_id before [] table less rise = refl
  others_above next_id before (one ∷ rest) table less rise =
      let fit = both_true (nat_lt before one.id) (rise_to next_id one.id (ids_of rest)) rise in
      let above = ltb-true before one.id fit.0 in
      let new : Task = record { phase = planned one.anchor one.start (activity_begun model one.kind one.arguments); made = 0; begun = false } in
      others_above next_id one.id rest (with_task table (root one.id) new) (omega arith) fit.1
      ∙ at_with table (root one.id) path new ∙ ap (λ b. cond b (Some new) (task_at table path)) (apart one.id (omega arith))

  abbrev first_task : Task
  first_task = record { phase = planned directive.anchor directive.start state; made = 0; begun = false }

  is_put : (next_id before : ℕ) (place : ℕ) (directives : List Directive) (table : Table) → rise_to next_id before (ids_of directives) ≡ true → slice_get directives place ≡ Some directive →
      task_at (with_directives model directives table) path ≡ Some first_task
  is_put next_id before place [] table rise at = absurd (cc)
  is_put next_id before zero (one ∷ rest) table rise at =
      let same : one ≡ directive = cc in
      let fit = both_true (nat_lt before one.id) (rise_to next_id one.id (ids_of rest)) rise in
      let id : one.id ≡ directive.id = ap (λ (d : Directive). d.id) same in
      others_above next_id one.id rest _ (omega (arith, id)) fit.1
      ∙ ap (λ (d : Directive). task_at (with_task table (root d.id) (record { phase = planned d.anchor d.start (activity_begun model d.kind d.arguments); made = 0; begun = false })) path) same
      ∙ at_with table path path first_task ∙ ap (λ o. cond (is_eq o) (Some first_task) (task_at table path)) (path_itself path)
  is_put next_id before (suc place) (one ∷ rest) table rise at =
      let fit = both_true (nat_lt before one.id) (rise_to next_id one.id (ids_of rest)) rise in
      is_put next_id one.id place rest _ fit.1 at

  planned_fits : (anchor : Option Anchor) → PhaseFits anchor (planned anchor directive.start state)
  planned_fits None = refl
  planned_fits (Some anchor) = inl refl

  start_stands : IsPlanOf model plan → (place : ℕ) → slice_get plan.directives place ≡ Some directive → Stands (start model plan).table
  start_stands is place at =
      stands_each (rested 0) (λ other task. refl) (with_directives model plan.directives (with_daemons 0 model.daemons [])) (λ task there fits. rested_fits 0 task fits) (record {
        task = first_task;
        there = is_put plan.next_id 0 place plan.directives (with_daemons 0 model.daemons []) is.ids at;
        fits = λ e. record { made = refl; phase = inr (planned_fits directive.anchor) };
      })

  all_stand : IsPlanOf model plan → (place : ℕ) → slice_get plan.directives place ≡ Some directive → (here : Next SimulationState Run) → IsReached model plan bound here → PlaceStands here
  all_stand is place at (more now) begins = start_stands is place at
  all_stand is place at here (onward {point = now} reached) =
      next_stands now reached (reached_is_quiet model plan bound now is reached) (all_stand is place at (more now) reached) (ready_jobs now.cells now.table) refl

  -- ---- settled

  not_begun : (at : SimulationState) → IsPlanOf model plan → IsReached model plan bound (more at) → IsSettled at → Stands at.table → IsTraced None (task_at at.table path) → HasNotBegun model plan bound at directive
  not_begun at is reached settled stands none = record {
    task = stands.task;
    there = stands.there;
    made = fits.made;
    begun = begun;
    phase = by fits.phase;
  }
    where
      begun : stands.task.begun ≡ false
      begun = (none stands.task stands.there).0

      fits : Fits stands.task
      fits = stands.fits begun

      waits : (anchor : Option Anchor) → PhaseFits anchor stands.task.phase → WaitsAsPlanned model plan bound at anchor directive.start state stands.task.phase
      waits None e = e
      waits (Some anchor) (inl e) = inl (e, subst (IsQuiet at.table path) e (quiet_at at.table at.table path stands.task (reached_is_quiet model plan bound at is reached) stands.there))
      waits (Some anchor) (inr h) = inr h

      by : (stands.task.phase ≡ ready state) ⊎ PhaseFits directive.anchor stands.task.phase → WaitsAsPlanned model plan bound at directive.anchor directive.start state stands.task.phase
      by (inl e) = absurd (false≢true (sym (none_ready_at at.cells at.table settled.none_ready path stands.task stands.there) ∙ ap is_ready_phase e))
      by (inr h) = waits directive.anchor h

pub unbegun_are_as_planned : UnbegunAreAsPlanned
unbegun_are_as_planned model plan bound at is reached settled place directive there none =
    not_begun model plan bound directive at is reached settled (all_stand model plan bound directive is place there (more at) reached)
    (subst (λ o. IsTraced o (task_at at.table (root directive.id))) none (tasks_are_traced model plan bound at reached settled (root directive.id)))
