-- Tasks that have not begun are those of directives, or they are ready.
use Rattle.std.proofs.Common.{◌≡◌, ◌⊎◌, inl, inr, ℕ, suc, ◌+◌, ◌-◌, Bool, true, false, cond, List, [], ◌∷◌, Option, Some, None, slice_get, refl, sym, ap, ◌∙◌, subst, IsTrue, if◌then◌else◌}
use Rattle.std.specs.BTreeMap.{is_at}
use Rattle.aerie_base.specs.declared.models.Daemon.{Daemon}
use Rattle.aerie_base.specs.declared.models.model.Parts.{Parts}
use Rattle.aerie_base.specs.declared.plans.Directive.{Directive}
use Rattle.aerie_base.specs.declared.plans.Edge.{Edge}
use Rattle.aerie_base.specs.declared.plans.Plan.{Plan}
use Rattle.aerie_base.specs.models.ValidModel.{valid_model}
use Rattle.aerie_base.specs.Paths.{path_cmp, root, daemon_root}
use Rattle.aerie_base.specs.plans.OfModel.{IsPlanOf}
use Rattle.effect_cells.specs.declared.effects.CellState.{CellState}
use Rattle.effect_cells.specs.Cells.{passed, first_out}
use Rattle.run_data.specs.declared.tasks.TaskState.{TaskState}
use Rattle.run_data.specs.declared.jobs.Job.{Job}
use Rattle.run_data.specs.declared.runs.Run.{Run}
use Rattle.run_data.specs.TaskFrames.{Frame}
use Rattle.run_data.specs.Batches.{Batch, limit, failed, committed, batch}
use Rattle.run_data.specs.Endings.{has_come, back, due_phase, gone_on, after_batch}
use Rattle.run_data.specs.Fresh.{SimulationState, start, next_state, next_by, woken_or_moved, moved, to_time, to_end, after_outcome, least_due, below, IsReached}
use Rattle.run_data.specs.TaskStates.{activity_begun, daemon_begun}
use Rattle.run_data.specs.Tasks.{TaskPhase, anchored, ready, delayed, waiting, calling, over, Task, Table, task_at, with_task, on_each, planned, with_directives, with_daemons, after_delay, after_frame, after_frames, ready_jobs, job_if_ready, woken, woken_phase, rested, rested_phase}
use Rattle.run_data.specs.Transitions.{Next, more, finished, begins, onward}
use Rattle.run_data.specs.TableLaws.{at_with, is_same}
use Rattle.run_data.specs.laws.FramesByPath.{new_at}
use Rattle.run_data.specs.laws.LateEdges.{EdgesStay}
use Rattle.run_data.specs.laws.OpenTasks.{back_open, due_open, woken_open, rested_open}
use Rattle.run_data.specs.laws.QuietTasks.{come_each}
use Rattle.run_data.specs.laws.ReadyTasks.{is_ready_phase}
use Rattle.run_data.specs.laws.TableParts.{each_at, changed_at}
use Rattle.resimulate.specs.UnbegunTasks.{IsInPlan, WaitsForAnchor, IsUnbegunDirective, UnbegunAreDirectives}

-- ---- no task is ready

ready_here : (cells : List CellState) (path : List ℕ) (task : Task) (phase : TaskPhase) (jobs : List (ℕ × Job)) → job_if_ready cells path task phase jobs ≡ [] → (is_ready_phase phase ≡ false) × (jobs ≡ [])
ready_here cells path task (ready state) jobs e = absurd (cc)
ready_here cells path task (anchored to edge from state) jobs e = (refl, e)
ready_here cells path task (delayed until state) jobs e = (refl, e)
ready_here cells path task (waiting condition state) jobs e = (refl, e)
ready_here cells path task (calling child into state) jobs e = (refl, e)
ready_here cells path task (over result) jobs e = (refl, e)

none_ready : (cells : List CellState) (table : Table) → ready_jobs cells table ≡ [] → (path : List ℕ) (task : Task) → task_at table path ≡ Some task → is_ready_phase task.phase ≡ false
none_ready cells [] none path task e = absurd (cc)
none_ready cells (entry ∷ rest) none path task e = by (is_at (path_cmp path) entry.0) e (none_ready cells rest h.1 path task)
  where
    h : (is_ready_phase entry.1.phase ≡ false) × (ready_jobs cells rest ≡ [])
    h = ready_here cells entry.0 entry.1 entry.1.phase (ready_jobs cells rest) none

    by : (b : Bool) → cond b (Some entry.1) (task_at rest path) ≡ Some task → (task_at rest path ≡ Some task → is_ready_phase task.phase ≡ false) → is_ready_phase task.phase ≡ false
    by true f further = let same : entry.1 ≡ task = cc in ap (λ (t : Task). is_ready_phase t.phase) (sym same) ∙ h.0
    by false f further = further f

-- ---- a change of all tasks

-- a change leaves whether a task has begun, one that is ready stays so, and one that is anchored as well, unless its anchor comes
record Leaves (next : Table) (change : List ℕ → Task → Task) : Type 0 where
  begun : (path : List ℕ) (task : Task) → (change path task).begun ≡ task.begun
  ready_still : (path : List ℕ) (task : Task) → is_ready_phase task.phase ≡ true → is_ready_phase (change path task).phase ≡ true
  anchored_still : (path : List ℕ) (task : Task) (to : ℕ) (edge : Edge) (from : ℕ) (state : TaskState) → task.phase ≡ anchored to edge from state →
      ((change path task).phase ≡ anchored to edge from state) ⊎ (has_come next to edge ≡ true)

woken_leaves : (cells : List CellState) (next : Table) → Leaves next (woken cells)
woken_leaves cells next = record {
  begun = λ path task. refl;
  ready_still = λ path task. still task.phase;
  anchored_still = λ path task to edge from state e. inl (ap (woken_phase cells) e);
}
  where
    still : (phase : TaskPhase) → is_ready_phase phase ≡ true → is_ready_phase (woken_phase cells phase) ≡ true
    still (ready state) e = refl
    still (waiting condition state) e = absurd (cc)
    still (anchored to edge from state) e = absurd (cc)
    still (delayed until state) e = absurd (cc)
    still (calling child into state) e = absurd (cc)
    still (over result) e = absurd (cc)

rested_leaves : (now : ℕ) (next : Table) → Leaves next (rested now)
rested_leaves now next = record {
  begun = λ path task. refl;
  ready_still = λ path task. still task.phase;
  anchored_still = λ path task to edge from state e. inl (ap (rested_phase now) e);
}
  where
    still : (phase : TaskPhase) → is_ready_phase phase ≡ true → is_ready_phase (rested_phase now phase) ≡ true
    still (ready state) e = refl
    still (waiting condition state) e = absurd (cc)
    still (anchored to edge from state) e = absurd (cc)
    still (delayed until state) e = absurd (cc)
    still (calling child into state) e = absurd (cc)
    still (over result) e = absurd (cc)

gone_leaves : (whole : Table) (now : ℕ) → Leaves (on_each (gone_on whole now) whole) (gone_on whole now)
gone_leaves whole now = record {
  begun = λ path task. refl;
  ready_still = λ path task. still path task.phase;
  anchored_still = λ path task to edge from state e.
      subst (λ p. (due_phase whole now (back whole path p) ≡ anchored to edge from state) ⊎ (has_come (on_each (gone_on whole now) whole) to edge ≡ true)) (sym e) (by to edge from state (has_come whole to edge) refl);
}
  where
    still : (path : List ℕ) (phase : TaskPhase) → is_ready_phase phase ≡ true → is_ready_phase (due_phase whole now (back whole path phase)) ≡ true
    still path (ready state) e = refl
    still path (waiting condition state) e = absurd (cc)
    still path (anchored to edge from state) e = absurd (cc)
    still path (delayed until state) e = absurd (cc)
    still path (calling child into state) e = absurd (cc)
    still path (over result) e = absurd (cc)

    comes : (to : ℕ) (edge : Edge) → has_come (on_each (gone_on whole now) whole) to edge ≡ has_come whole to edge
    comes = come_each (gone_on whole now) (λ other task. due_open whole now (back whole other task.phase) ∙ back_open whole other task.phase) (λ other task. refl) whole

    by : (to : ℕ) (edge : Edge) (from : ℕ) (state : TaskState) (b : Bool) → has_come whole to edge ≡ b →
        ((if b then after_delay now from state else anchored to edge from state) ≡ anchored to edge from state) ⊎ (has_come (on_each (gone_on whole now) whole) to edge ≡ true)
    by to edge from state true e = inr (comes to edge ∙ e)
    by to edge from state false e = inl refl

-- ---- frames

unbegun_frame : (now : ℕ) (frame : Frame) (table : Table) (path : List ℕ) (task : Task) → task_at (after_frame now frame table) path ≡ Some task → task.begun ≡ false → task_at table path ≡ Some task
unbegun_frame now frame table path task e begun = by (is_at (path_cmp path) frame.path) (sym (at_with table frame.path path (new_at now table frame)) ∙ e)
  where
    by : (b : Bool) → cond b (Some (new_at now table frame)) (task_at table path) ≡ Some task → task_at table path ≡ Some task
    by true f =
        let same : new_at now table frame ≡ task = cc in
        let clash : true ≡ false = ap (λ (t : Task). t.begun) same ∙ begun in absurd (cc)
    by false f = f

-- a task that has not begun was there before
unbegun_frames : (now : ℕ) (frames : List Frame) (table : Table) (path : List ℕ) (task : Task) → task_at (after_frames now frames table) path ≡ Some task → task.begun ≡ false → task_at table path ≡ Some task
unbegun_frames now [] table path task e begun = e
unbegun_frames now (frame ∷ rest) table path task e begun =
    unbegun_frame now frame table path task (unbegun_frames now rest (after_frame now frame table) path task e begun) begun

-- ---- where a simulation is

module _ (model : Parts) (plan : Plan) where
  abbrev Known : Table → Type 0
  Known table =
      (path : List ℕ) (task : Task) → task_at table path ≡ Some task → task.begun ≡ false → IsUnbegunDirective model plan table path task.phase ⊎ (is_ready_phase task.phase ≡ true)

  module _ (table next : Table) (known : Known table) (stays : (to : ℕ) (edge : Edge) → has_come table to edge ≡ true → has_come next to edge ≡ true) where
    known_after : (change : List ℕ → Task → Task) → Leaves next change → (base : Table) →
        ((path : List ℕ) (task : Task) → task_at base path ≡ Some task → task.begun ≡ false → task_at table path ≡ Some task) → next ≡ on_each change base → Known next
    known_after change leaves base before is path task there begun = by (task_at base path) refl (sym (each_at change base path) ∙ ap (λ t. task_at t path) (sym is) ∙ there)
      where
        by : (found : Option Task) → task_at base path ≡ found → changed_at change path found ≡ Some task → IsUnbegunDirective model plan next path task.phase ⊎ (is_ready_phase task.phase ≡ true)
        by None e f = absurd (cc)
        by (Some was) e f = go (known path was (before path was e was_not) was_not)
          where
            same : change path was ≡ task
            same = cc

            was_not : was.begun ≡ false
            was_not = sym (leaves.begun path was) ∙ ap (λ (t : Task). t.begun) same ∙ begun

            go : IsUnbegunDirective model plan table path was.phase ⊎ (is_ready_phase was.phase ≡ true) → IsUnbegunDirective model plan next path task.phase ⊎ (is_ready_phase task.phase ≡ true)
            go (inr is_ready) = inr (ap (λ (t : Task). is_ready_phase t.phase) (sym same) ∙ leaves.ready_still path was is_ready)
            go (inl one) = inl (record { directive = one.directive; in_plan = one.in_plan; is = one.is; waits = waits })
              where
                waits : WaitsForAnchor model next one.directive task.phase
                waits anchor e = way (one.waits anchor e)
                  where
                    state : TaskState
                    state = activity_begun model one.directive.kind one.directive.arguments

                    way : (was.phase ≡ anchored anchor.to anchor.edge one.directive.start state) ⊎ (has_come table anchor.to anchor.edge ≡ true) →
                        (task.phase ≡ anchored anchor.to anchor.edge one.directive.start state) ⊎ (has_come next anchor.to anchor.edge ≡ true)
                    way (inr come) = inr (stays anchor.to anchor.edge come)
                    way (inl phase) = still (leaves.anchored_still path was anchor.to anchor.edge one.directive.start state phase)
                      where
                        still : ((change path was).phase ≡ anchored anchor.to anchor.edge one.directive.start state) ⊎ (has_come next anchor.to anchor.edge ≡ true) →
                            (task.phase ≡ anchored anchor.to anchor.edge one.directive.start state) ⊎ (has_come next anchor.to anchor.edge ≡ true)
                        still (inl k) = inl (ap (λ (t : Task). t.phase) (sym same) ∙ k)
                        still (inr come) = inr come

  -- ---- the start

  abbrev IsAsPlanned : List ℕ → TaskPhase → Type 0
  IsAsPlanned path phase =
      ((directive : Directive) × IsInPlan plan directive × (path ≡ root directive.id) × (phase ≡ planned directive.anchor directive.start (activity_begun model directive.kind directive.arguments)))
      ⊎ ((state : TaskState) × (phase ≡ delayed 0 state))

  abbrev AllPlanned : Table → Type 0
  AllPlanned table = (path : List ℕ) (task : Task) → task_at table path ≡ Some task → IsAsPlanned path task.phase

  put_planned : (table : Table) (path : List ℕ) (phase : TaskPhase) → AllPlanned table → IsAsPlanned path phase → AllPlanned (with_task table path (record { phase = phase; made = 0; begun = false }))
  put_planned table path phase all here other task e = by (is_at (path_cmp other) path) refl (sym (at_with table path other new) ∙ e)
    where
      new : Task
      new = record { phase = phase; made = 0; begun = false }

      by : (b : Bool) → is_at (path_cmp other) path ≡ b → cond b (Some new) (task_at table other) ≡ Some task → IsAsPlanned other task.phase
      by true at f =
          let same : new ≡ task = cc in
          subst (λ (t : Task). IsAsPlanned other t.phase) same (subst (λ p. IsAsPlanned p phase) (sym (is_same other path at)) here)
      by false at f = all other task f

  daemons_planned : (number : ℕ) (daemons : List Daemon) (table : Table) → AllPlanned table → AllPlanned (with_daemons number daemons table)
  daemons_planned number [] table all = all
  daemons_planned number (one ∷ rest) table all =
      daemons_planned (number + 1) rest _ (put_planned table (daemon_root number) (delayed 0 (daemon_begun number one)) all (inr (daemon_begun number one, refl)))

  directives_planned : (directives : List Directive) (table : Table) → ((place : ℕ) (one : Directive) → slice_get directives place ≡ Some one → IsInPlan plan one) → AllPlanned table → AllPlanned (with_directives model directives table)
  directives_planned [] table are all = all
  directives_planned (one ∷ rest) table are all =
      directives_planned rest _ (λ place other e. are (suc place) other e)
      (put_planned table (root one.id) (planned one.anchor one.start (activity_begun model one.kind one.arguments)) all (inl (one, are 0 one refl, refl, refl)))

  abbrev first_table : Table
  first_table = with_directives model plan.directives (with_daemons 0 model.daemons [])

  first_planned : AllPlanned first_table
  first_planned =
      directives_planned plan.directives (with_daemons 0 model.daemons []) (λ place one e. (place, e)) (daemons_planned 0 model.daemons [] (λ path task e. absurd (cc)))

  start_known : Known (start model plan).table
  start_known path task there begun = by (task_at first_table path) refl (sym (each_at (rested 0) first_table path) ∙ there)
    where
      by : (found : Option Task) → task_at first_table path ≡ found → changed_at (rested 0) path found ≡ Some task → IsUnbegunDirective model plan (start model plan).table path task.phase ⊎ (is_ready_phase task.phase ≡ true)
      by None e f = absurd (cc)
      by (Some was) e f = go (first_planned path was e)
        where
          same : rested 0 path was ≡ task
          same = cc

          phase_is : task.phase ≡ rested_phase 0 was.phase
          phase_is = ap (λ (t : Task). t.phase) (sym same)

          go : IsAsPlanned path was.phase → IsUnbegunDirective model plan (start model plan).table path task.phase ⊎ (is_ready_phase task.phase ≡ true)
          go (inl one) =
              inl (record {
                directive = one.0;
                in_plan = one.1;
                is = one.2;
                waits = λ anchor is_anchor.
                    inl (phase_is ∙ ap (rested_phase 0) (one.3 ∙ ap (λ o. planned o one.0.start (activity_begun model one.0.kind one.0.arguments)) is_anchor));
              })
          go (inr one) = inr (ap is_ready_phase (phase_is ∙ ap (rested_phase 0) one.1))

  -- ---- each step

  module _ (bound : ℕ) (valid : IsTrue (valid_model model)) (is : IsPlanOf model plan) (edges : EdgesStay) where
    abbrev PlaceKnown : Next SimulationState Run → Type 0
    PlaceKnown (more at) = Known at.table
    PlaceKnown (finished run) = Unit {0}

    module _ (at : SimulationState) (reached : IsReached model plan bound (more at)) (known : Known at.table) where
      known_each : (change : List ℕ → Task → Task) → Leaves (on_each change at.table) change → ((to : ℕ) (edge : Edge) → has_come (on_each change at.table) to edge ≡ has_come at.table to edge) →
          Known (on_each change at.table)
      known_each change leaves comes =
          known_after at.table (on_each change at.table) known (λ to edge come. comes to edge ∙ come) change leaves at.table (λ path task there begun. there) refl

      outcome_known : (whole : Batch) → next_state model plan bound at ≡ after_outcome model plan bound at whole → PlaceKnown (after_outcome model plan bound at whole)
      outcome_known limit e = tt
      outcome_known (failed who fault) e = tt
      outcome_known (committed next touched frames) e =
          known_after at.table (after_batch at.time frames at.table) known (λ to edge come. edges model plan bound at _ valid is reached e to edge come) (gone_on (after_frames at.time frames at.table) at.time)
          (gone_leaves (after_frames at.time frames at.table) at.time) (after_frames at.time frames at.table) (unbegun_frames at.time frames at.table) refl

      time_known : (time : ℕ) (cells : List CellState) (out : Option ℕ) → PlaceKnown (to_time model plan bound at time cells out)
      time_known time cells (Some cell) = tt
      time_known time cells None =
          known_each (rested time) (rested_leaves time _) (come_each (rested time) (λ path task. rested_open time task.phase) (λ path task. refl) at.table)

      end_known : (out : Option ℕ) → PlaceKnown (to_end model plan bound at out)
      end_known (Some cell) = tt
      end_known None = tt

      moved_known : (time : Option ℕ) → PlaceKnown (moved model plan bound at time)
      moved_known (Some time) = time_known time (passed at.cells (time - at.time)) (first_out (passed at.cells (time - at.time)))
      moved_known None = end_known (first_out (passed at.cells (plan.duration - at.time)))

      judged_known : (jobs : List (ℕ × Job)) → PlaceKnown (woken_or_moved model plan bound at (on_each (woken at.cells) at.table) jobs)
      judged_known [] = moved_known (below plan.duration (least_due at.time plan.duration at.cells at.table))
      judged_known (job ∷ rest) =
          known_each (woken at.cells) (woken_leaves at.cells _) (come_each (woken at.cells) (λ path task. woken_open at.cells task.phase) (λ path task. refl) at.table)

      next_known : (jobs : List (ℕ × Job)) → ready_jobs at.cells at.table ≡ jobs → PlaceKnown (next_by model plan bound at jobs)
      next_known [] e = judged_known (ready_jobs at.cells (on_each (woken at.cells) at.table))
      next_known (job ∷ rest) e = outcome_known (batch model bound at.spent at.cells (job ∷ rest)) (ap (next_by model plan bound at) e)

    reached_known : (place : Next SimulationState Run) → IsReached model plan bound place → PlaceKnown place
    reached_known (more at) begins = start_known
    reached_known place (onward {point = at} reached) = next_known at reached (reached_known (more at) reached) (ready_jobs at.cells at.table) refl

pub unbegun_are_directives : EdgesStay → UnbegunAreDirectives
unbegun_are_directives edges model plan bound at valid is reached settled path task there begun = by (reached_known model plan bound valid is edges (more at) reached path task there begun)
  where
    by : IsUnbegunDirective model plan at.table path task.phase ⊎ (is_ready_phase task.phase ≡ true) → IsUnbegunDirective model plan at.table path task.phase
    by (inl one) = one
    by (inr is_ready) = let clash : false ≡ true = sym (none_ready at.cells at.table settled.none_ready path task there) ∙ is_ready in absurd (cc)
