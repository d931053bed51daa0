-- Tasks by their frames.
use Rattle.std.proofs.Common.{◌≡◌, ◌⊎◌, inl, inr, ℕ, zero, suc, ◌+◌, ◌-◌, nat_abs, nat_eq, Bool, true, false, cond, List, [], ◌∷◌, ◌++◌, Option, Some, None, refl, sym, ap, ◌∙◌, subst, append_assoc, if◌then◌else◌}
use Rattle.std.specs.BTreeMap.{is_at}
use Rattle.aerie_base.specs.declared.models.Daemon.{Daemon}
use Rattle.aerie_base.specs.declared.models.model.Parts.{Parts}
use Rattle.aerie_base.specs.declared.plans.Directive.{Directive}
use Rattle.aerie_base.specs.declared.plans.Plan.{Plan}
use Rattle.aerie_base.specs.Paths.{path_cmp, root, daemon_root, child_path}
use Rattle.effect_cells.specs.declared.effects.CellState.{CellState}
use Rattle.effect_cells.specs.Cells.{passed, first_out}
use Rattle.effect_cells.specs.WakeTimes.{holds_on}
use Rattle.run_data.specs.declared.tasks.TaskState.{TaskState}
use Rattle.run_data.specs.TaskFrames.{Frame}
use Rattle.run_data.specs.declared.frames.Status.{Status}
use Rattle.run_data.specs.declared.frames.Status.TheVariants as status
use Rattle.run_data.specs.declared.jobs.Job.{Job}
use Rattle.run_data.specs.declared.runs.Instant.{Instant}
use Rattle.run_data.specs.declared.runs.Run.{Run}
use Rattle.run_data.specs.Batches.{Batch, limit, failed, committed, batch}
use Rattle.run_data.specs.Endings.{has_ended, back, due_phase, result_of, with_result, gone_on, after_batch}
use Rattle.run_data.specs.Fresh.{SimulationState, start, instant_at, next_by, woken_or_moved, moved, to_time, to_end, after_outcome, least_due, below, IsReached}
use Rattle.run_data.specs.Tasks.{TaskPhase, anchored, ready, delayed, waiting, calling, over, Task, Table, task_at, with_task, on_each, with_directives, with_daemons, after_delay, phase_after, task_after, after_frame, after_frames, children_made, children_in, ready_jobs, job_if_ready, woken, woken_phase, rested, rested_phase}
use Rattle.run_data.specs.Transitions.{Next, more, finished, begins, onward}
use Rattle.run_data.specs.laws.FreshRuns.{EachAfter}
use Rattle.run_data.specs.laws.ReadyTasks.{is_ready_phase}
use Rattle.run_data.specs.laws.FramesByPath.{new_at}
use Rattle.run_data.proofs.FreshRuns.{after_push}
use Rattle.run_data.specs.TableLaws.{at_with, is_same}
use Rattle.run_data.specs.laws.SettledInstants.{IsSettled, IsSettledInstant, InstantsAreSettled}
use Rattle.run_data.specs.laws.TracedTasks.{timed, timed_batches, timed_instants, frames_so_far, traced, IsTraced, TasksAreTraced}
use Rattle.run_data.proofs.AlikeSteps.{append_none}
use Rattle.run_data.specs.laws.TableParts.{each_at, changed_at}

-- ---- frames so far

batches_append : (time : ℕ) (first rest : List (List Frame)) → timed_batches time (first ++ rest) ≡ timed_batches time first ++ timed_batches time rest
batches_append time [] rest = refl
batches_append time (frames ∷ others) rest = ap (λ l. timed time frames ++ l) (batches_append time others rest) ∙ sym (append_assoc (timed time frames) (timed_batches time others) (timed_batches time rest))

instants_append : (first rest : List Instant) → timed_instants (first ++ rest) ≡ timed_instants first ++ timed_instants rest
instants_append [] rest = refl
instants_append (one ∷ others) rest =
    ap (λ l. timed_batches one.time one.batches ++ l) (instants_append others rest) ∙ sym (append_assoc (timed_batches one.time one.batches) (timed_instants others) (timed_instants rest))

traced_append : (path : List ℕ) (first rest : List (ℕ × Frame)) (so_far : Option Task) → traced path (first ++ rest) so_far ≡ traced path rest (traced path first so_far)
traced_append path [] rest so_far = refl
traced_append path (entry ∷ others) rest so_far = traced_append path others rest _

-- ---- what a task does since its last frame: it is ready, or does still what that left

abbrev pub is_anchored_phase : TaskPhase → Bool
is_anchored_phase (anchored to edge start state) = true
is_anchored_phase (ready state) = false
is_anchored_phase (delayed until state) = false
is_anchored_phase (waiting condition state) = false
is_anchored_phase (calling child into state) = false
is_anchored_phase (over result) = false

pub record FollowsTask (was now : Task) : Type 0 where
  pub made : now.made ≡ was.made
  pub begun : now.begun ≡ true
  pub had_begun : was.begun ≡ true
  pub free : is_anchored_phase was.phase ≡ false
  pub phase : (now.phase ≡ was.phase) ⊎ (is_ready_phase now.phase ≡ true)

abbrev pub Follows : Option Task → Option Task → Type 0
Follows None found = (task : Task) → found ≡ Some task → (task.begun ≡ false) × (task.made ≡ 0)
Follows (Some was) found = (now : Task) × (found ≡ Some now) × FollowsTask was now

delay_free : (now by : ℕ) (state : TaskState) → is_anchored_phase (after_delay now by state) ≡ false
delay_free now zero state = refl
delay_free now (suc less) state = refl

status_free : (now made : ℕ) (how : Status) → is_anchored_phase (phase_after now made how) ≡ false
status_free now made (status.Delayed by next) = delay_free now (nat_abs by) next
status_free now made (status.Waiting condition next) = refl
status_free now made (status.Calling into next) = refl
status_free now made (status.Done result) = refl
status_free now made (status.Faulted fault) = refl

-- ---- a change of all tasks

-- a change that leaves what a task has made and whether it has begun, and lets it go on or leaves what it does
pub record Leaves (change : List ℕ → Task → Task) : Type 0 where
  pub made : (path : List ℕ) (task : Task) → (change path task).made ≡ task.made
  pub begun : (path : List ℕ) (task : Task) → (change path task).begun ≡ task.begun
  pub phase : (path : List ℕ) (task : Task) → is_anchored_phase task.phase ≡ false → ((change path task).phase ≡ task.phase) ⊎ (is_ready_phase (change path task).phase ≡ true)
  pub ready_still : (path : List ℕ) (task : Task) → is_ready_phase task.phase ≡ true → is_ready_phase (change path task).phase ≡ true

follows_change : (change : List ℕ → Task → Task) → Leaves change → (path : List ℕ) (so_far found : Option Task) → Follows so_far found → Follows so_far (changed_at change path found)
follows_change change leaves path None None h = λ task e. absurd (cc)
follows_change change leaves path None (Some one) h =
    λ task e. let same : change path one ≡ task = cc in
    let before = h one refl in
    (ap (λ (t : Task). t.begun) (sym same) ∙ leaves.begun path one ∙ before.0, ap (λ (t : Task). t.made) (sym same) ∙ leaves.made path one ∙ before.1)
follows_change change leaves path (Some was) found h = (
  change path h.0,
  ap (changed_at change path) h.1,
  record {
    made = leaves.made path h.0 ∙ h.2.made;
    begun = leaves.begun path h.0 ∙ h.2.begun;
    had_begun = h.2.had_begun;
    free = h.2.free;
    phase = by h.2.phase;
  },
)
  where
    by : (h.0.phase ≡ was.phase) ⊎ (is_ready_phase h.0.phase ≡ true) → ((change path h.0).phase ≡ was.phase) ⊎ (is_ready_phase (change path h.0).phase ≡ true)
    by (inl same) = go (leaves.phase path h.0 (ap is_anchored_phase same ∙ h.2.free))
      where
        go : ((change path h.0).phase ≡ h.0.phase) ⊎ (is_ready_phase (change path h.0).phase ≡ true) → ((change path h.0).phase ≡ was.phase) ⊎ (is_ready_phase (change path h.0).phase ≡ true)
        go (inl e) = inl (e ∙ same)
        go (inr e) = inr e
    by (inr is) = inr (leaves.ready_still path h.0 is)

-- the three changes

woken_leaves : (cells : List CellState) → Leaves (woken cells)
woken_leaves cells = record { made = λ path task. refl; begun = λ path task. refl; phase = λ path task free. by task.phase; ready_still = λ path task. still task.phase }
  where
    by : (phase : TaskPhase) → (woken_phase cells phase ≡ phase) ⊎ (is_ready_phase (woken_phase cells phase) ≡ true)
    by (waiting condition state) = go (holds_on cells condition)
      where
        go : (b : Bool) → ((if b then ready state else waiting condition state) ≡ waiting condition state) ⊎ (is_ready_phase (if b then ready state else waiting condition state) ≡ true)
        go true = inr refl
        go false = inl refl
    by (anchored to edge from state) = inl refl
    by (ready state) = inl refl
    by (delayed until state) = inl refl
    by (calling child into state) = inl refl
    by (over result) = inl refl

    still : (phase : TaskPhase) → is_ready_phase phase ≡ true → is_ready_phase (woken_phase cells phase) ≡ true
    still (ready state) e = refl
    still (waiting condition state) e = absurd (cc)
    still (anchored to edge from state) e = absurd (cc)
    still (delayed until state) e = absurd (cc)
    still (calling child into state) e = absurd (cc)
    still (over result) e = absurd (cc)

rested_leaves : (now : ℕ) → Leaves (rested now)
rested_leaves now = record { made = λ path task. refl; begun = λ path task. refl; phase = λ path task free. by task.phase; ready_still = λ path task. still task.phase }
  where
    by : (phase : TaskPhase) → (rested_phase now phase ≡ phase) ⊎ (is_ready_phase (rested_phase now phase) ≡ true)
    by (delayed until state) = go (nat_eq until now)
      where
        go : (b : Bool) → ((if b then ready state else delayed until state) ≡ delayed until state) ⊎ (is_ready_phase (if b then ready state else delayed until state) ≡ true)
        go true = inr refl
        go false = inl refl
    by (anchored to edge from state) = inl refl
    by (ready state) = inl refl
    by (waiting condition state) = inl refl
    by (calling child into state) = inl refl
    by (over result) = inl refl

    still : (phase : TaskPhase) → is_ready_phase phase ≡ true → is_ready_phase (rested_phase now phase) ≡ true
    still (ready state) e = refl
    still (waiting condition state) e = absurd (cc)
    still (anchored to edge from state) e = absurd (cc)
    still (delayed until state) e = absurd (cc)
    still (calling child into state) e = absurd (cc)
    still (over result) e = absurd (cc)

gone_leaves : (whole : Table) (now : ℕ) → Leaves (gone_on whole now)
gone_leaves whole now = record { made = λ path task. refl; begun = λ path task. refl; phase = λ path task. by path task.phase; ready_still = λ path task. still path task.phase }
  where
    by : (path : List ℕ) (phase : TaskPhase) → is_anchored_phase phase ≡ false → (due_phase whole now (back whole path phase) ≡ phase) ⊎ (is_ready_phase (due_phase whole now (back whole path phase)) ≡ true)
    by path (calling child into state) e = go (has_ended whole (child_path path child))
      where
        next : TaskState
        next = with_result into (result_of (task_at whole (child_path path child))) state

        go : (b : Bool) → (due_phase whole now (if b then ready next else calling child into state) ≡ calling child into state) ⊎ (is_ready_phase (due_phase whole now (if b then ready next else calling child into state)) ≡ true)
        go true = inr refl
        go false = inl refl
    by path (anchored to edge from state) e = absurd (cc)
    by path (ready state) e = inl refl
    by path (delayed until state) e = inl refl
    by path (waiting condition state) e = inl refl
    by path (over result) e = inl refl

    still : (path : List ℕ) (phase : TaskPhase) → is_ready_phase phase ≡ true → is_ready_phase (due_phase whole now (back whole path phase)) ≡ true
    still path (ready state) e = refl
    still path (waiting condition state) e = absurd (cc)
    still path (anchored to edge from state) e = absurd (cc)
    still path (delayed until state) e = absurd (cc)
    still path (calling child into state) e = absurd (cc)
    still path (over result) e = absurd (cc)

-- ---- frames

same_made : (so_far found : Option Task) → Follows so_far found → children_made found ≡ children_made so_far
same_made None None h = refl
same_made None (Some one) h = (h one refl).1
same_made (Some was) found h = ap children_made h.1 ∙ h.2.made

follows_frame : (now : ℕ) (frame : Frame) (table : Table) (path : List ℕ) (so_far : Option Task) → Follows so_far (task_at table path) →
    Follows (if is_at (path_cmp path) frame.path then Some (task_after now frame.status (children_made so_far + children_in frame.items)) else so_far) (task_at (after_frame now frame table) path)
follows_frame now frame table path so_far h =
    subst (Follows (if is_at (path_cmp path) frame.path then Some (task_after now frame.status (children_made so_far + children_in frame.items)) else so_far)) (sym (at_with table frame.path path (new_at now table frame)))
    (by (is_at (path_cmp path) frame.path) refl)
  where
    by : (b : Bool) → is_at (path_cmp path) frame.path ≡ b →
        Follows (if b then Some (task_after now frame.status (children_made so_far + children_in frame.items)) else so_far) (cond b (Some (new_at now table frame)) (task_at table path))
    by true e =
        let made : children_made (task_at table frame.path) ≡ children_made so_far = ap (λ p. children_made (task_at table p)) (sym (is_same path frame.path e)) ∙ same_made so_far (task_at table path) h in (
          task_after now frame.status (children_made so_far + children_in frame.items),
          ap (λ n. Some (task_after now frame.status (n + children_in frame.items))) made,
          record { made = refl; begun = refl; had_begun = refl; free = status_free now (children_made so_far + children_in frame.items) frame.status; phase = inl refl },
        )
    by false e = h

follows_frames : (now : ℕ) (frames : List Frame) (table : Table) (path : List ℕ) (so_far : Option Task) → Follows so_far (task_at table path) →
    Follows (traced path (timed now frames) so_far) (task_at (after_frames now frames table) path)
follows_frames now [] table path so_far h = h
follows_frames now (frame ∷ rest) table path so_far h =
    follows_frames now rest (after_frame now frame table) path _ (follows_frame now frame table path so_far h)

-- ---- where a simulation is

abbrev pub AllFollow : List (ℕ × Frame) → Table → Type 0
AllFollow frames table = (path : List ℕ) → Follows (traced path frames None) (task_at table path)

follow_each : (change : List ℕ → Task → Task) → Leaves change → (frames : List (ℕ × Frame)) (table : Table) → AllFollow frames table → AllFollow frames (on_each change table)
follow_each change leaves frames table all path =
    subst (Follows (traced path frames None)) (sym (each_at change table path)) (follows_change change leaves path (traced path frames None) (task_at table path) (all path))

follow_batch : (now : ℕ) (frames : List Frame) (so_far : List (ℕ × Frame)) (table : Table) → AllFollow so_far table → AllFollow (so_far ++ timed now frames) (after_batch now frames table)
follow_batch now frames so_far table all =
    follow_each (gone_on (after_frames now frames table) now) (gone_leaves (after_frames now frames table) now) (so_far ++ timed now frames) (after_frames now frames table)
    (λ path. subst (λ o. Follows o (task_at (after_frames now frames table) path)) (sym (traced_append path so_far (timed now frames) None))
    (follows_frames now frames table path (traced path so_far None) (all path)))

-- at the start none has begun

abbrev NoneBegun : Table → Type 0
NoneBegun table = (path : List ℕ) (task : Task) → task_at table path ≡ Some task → (task.begun ≡ false) × (task.made ≡ 0)

none_put : (table : Table) (path : List ℕ) (phase : TaskPhase) → NoneBegun table → NoneBegun (with_task table path (record { phase = phase; made = 0; begun = false }))
none_put table path phase none other task e = by (is_at (path_cmp other) path) (sym (at_with table path other new) ∙ e)
  where
    new : Task
    new = record { phase = phase; made = 0; begun = false }

    by : (b : Bool) → cond b (Some new) (task_at table other) ≡ Some task → (task.begun ≡ false) × (task.made ≡ 0)
    by true f = let same : new ≡ task = cc in (ap (λ (t : Task). t.begun) (sym same), ap (λ (t : Task). t.made) (sym same))
    by false f = none other task f

none_daemons : (number : ℕ) (daemons : List Daemon) (table : Table) → NoneBegun table → NoneBegun (with_daemons number daemons table)
none_daemons number [] table none = none
none_daemons number (one ∷ rest) table none = none_daemons (number + 1) rest _ (none_put table (daemon_root number) _ none)

none_directives : (model : Parts) (directives : List Directive) (table : Table) → NoneBegun table → NoneBegun (with_directives model directives table)
none_directives model [] table none = none
none_directives model (one ∷ rest) table none = none_directives model rest _ (none_put table (root one.id) _ none)

start_follows : (model : Parts) (plan : Plan) → AllFollow [] (start model plan).table
start_follows model plan =
    follow_each (rested 0) (rested_leaves 0) [] (with_directives model plan.directives (with_daemons 0 model.daemons []))
    (λ path. none_directives model plan.directives (with_daemons 0 model.daemons []) (none_daemons 0 model.daemons [] (λ other task e. absurd (cc))) path)

module _ (model : Parts) (plan : Plan) (bound : ℕ) where
  abbrev PointFollows : Next SimulationState Run → Type 0
  PointFollows (more at) = AllFollow (frames_so_far at) at.table
  PointFollows (finished run) = Unit {0}

  outcome_follows : (at : SimulationState) (outcome : Batch) → AllFollow (frames_so_far at) at.table → PointFollows (after_outcome model plan bound at outcome)
  outcome_follows at limit all = tt
  outcome_follows at (failed who fault) all = tt
  outcome_follows at (committed next touched frames) all =
      let e : timed_batches at.time (at.batches ++ frames ∷ []) ≡ timed_batches at.time at.batches ++ timed at.time frames =
      batches_append at.time at.batches (frames ∷ []) ∙ ap (λ l. timed_batches at.time at.batches ++ l) (append_none (timed at.time frames)) in
      subst (λ l. AllFollow l (after_batch at.time frames at.table))
      (append_assoc (timed_instants at.instants) (timed_batches at.time at.batches) (timed at.time frames) ∙ ap (λ l. timed_instants at.instants ++ l) (sym e))
      (follow_batch at.time frames (frames_so_far at) at.table all)

  time_follows : (at : SimulationState) (time : ℕ) (cells : List CellState) (out : Option ℕ) → AllFollow (frames_so_far at) at.table → PointFollows (to_time model plan bound at time cells out)
  time_follows at time cells (Some cell) all = tt
  time_follows at time cells None all =
      let e : timed_instants (at.instants ++ instant_at at ∷ []) ≡ frames_so_far at =
      instants_append at.instants (instant_at at ∷ []) ∙ ap (λ l. timed_instants at.instants ++ l) (append_none (timed_batches at.time at.batches)) in
      subst (λ l. AllFollow l (on_each (rested time) at.table)) (sym e ∙ sym (append_none (timed_instants (at.instants ++ instant_at at ∷ []))))
      (follow_each (rested time) (rested_leaves time) (frames_so_far at) at.table all)

  end_follows : (at : SimulationState) (out : Option ℕ) → PointFollows (to_end model plan bound at out)
  end_follows at (Some cell) = tt
  end_follows at None = tt

  moved_follows : (at : SimulationState) (time : Option ℕ) → AllFollow (frames_so_far at) at.table → PointFollows (moved model plan bound at time)
  moved_follows at (Some time) all = time_follows at time (passed at.cells (time - at.time)) (first_out (passed at.cells (time - at.time))) all
  moved_follows at None all = end_follows at (first_out (passed at.cells (plan.duration - at.time)))

  judged_follows : (at : SimulationState) (jobs : List (ℕ × Job)) → AllFollow (frames_so_far at) at.table → PointFollows (woken_or_moved model plan bound at (on_each (woken at.cells) at.table) jobs)
  judged_follows at [] all = moved_follows at (below plan.duration (least_due at.time plan.duration at.cells at.table)) all
  judged_follows at (job ∷ rest) all = follow_each (woken at.cells) (woken_leaves at.cells) (frames_so_far at) at.table all

  next_follows : (at : SimulationState) (jobs : List (ℕ × Job)) → AllFollow (frames_so_far at) at.table → PointFollows (next_by model plan bound at jobs)
  next_follows at [] all = judged_follows at (ready_jobs at.cells (on_each (woken at.cells) at.table)) all
  next_follows at (job ∷ rest) all = outcome_follows at (batch model bound at.spent at.cells (job ∷ rest)) all

  pub reached_follows : (place : Next SimulationState Run) → IsReached model plan bound place → PointFollows place
  reached_follows (more at) begins = start_follows model plan
  reached_follows place (onward {point = at} reached) = next_follows at (ready_jobs at.cells at.table) (reached_follows (more at) reached)

-- ---- settled

ready_here : (cells : List CellState) (path : List ℕ) (task : Task) (phase : TaskPhase) (jobs : List (ℕ × Job)) → job_if_ready cells path task phase jobs ≡ [] → (is_ready_phase phase ≡ false) × (jobs ≡ [])
ready_here cells path task (ready state) jobs e = absurd (cc)
ready_here cells path task (anchored to edge from state) jobs e = (refl, e)
ready_here cells path task (delayed until state) jobs e = (refl, e)
ready_here cells path task (waiting condition state) jobs e = (refl, e)
ready_here cells path task (calling child into state) jobs e = (refl, e)
ready_here cells path task (over result) jobs e = (refl, e)

pub none_ready_at : (cells : List CellState) (table : Table) → ready_jobs cells table ≡ [] → (path : List ℕ) (task : Task) → task_at table path ≡ Some task → is_ready_phase task.phase ≡ false
none_ready_at cells [] none path task e = absurd (cc)
none_ready_at cells (entry ∷ rest) none path task e = by (is_at (path_cmp path) entry.0) e (none_ready_at cells rest h.1 path task)
  where
    h : (is_ready_phase entry.1.phase ≡ false) × (ready_jobs cells rest ≡ [])
    h = ready_here cells entry.0 entry.1 entry.1.phase (ready_jobs cells rest) none

    by : (b : Bool) → cond b (Some entry.1) (task_at rest path) ≡ Some task → (task_at rest path ≡ Some task → is_ready_phase task.phase ≡ false) → is_ready_phase task.phase ≡ false
    by true f further = let same : entry.1 ≡ task = cc in ap (λ (t : Task). is_ready_phase t.phase) (sym same) ∙ h.0
    by false f further = further f

is_traced : (cells : List CellState) (table : Table) → ready_jobs cells table ≡ [] → (path : List ℕ) (so_far : Option Task) → Follows so_far (task_at table path) → IsTraced so_far (task_at table path)
is_traced cells table none path None h = h
is_traced cells table none path (Some was) h = by h.2.phase
  where
    by : (h.0.phase ≡ was.phase) ⊎ (is_ready_phase h.0.phase ≡ true) → task_at table path ≡ Some was
    by (inl same) = h.1 ∙ (λ i. Some (record { phase = same i; made = h.2.made i; begun = (h.2.begun ∙ sym h.2.had_begun) i }))
    by (inr is) = let k : false ≡ true = sym (none_ready_at cells table none path h.0 h.1) ∙ is in absurd (cc)

pub tasks_are_traced : TasksAreTraced
tasks_are_traced model plan bound at reached settled path =
    is_traced at.cells at.table settled.none_ready path (traced path (frames_so_far at) None) (reached_follows model plan bound (more at) reached path)

-- ---- the instants of a run

module _ (model : Parts) (plan : Plan) (bound : ℕ) where
  abbrev AllSettled : List Instant → Type 0
  AllSettled instants = EachAfter (IsSettledInstant model plan bound) [] instants

  abbrev PlaceSettled : Next SimulationState Run → Type 0
  PlaceSettled (more at) = AllSettled at.instants
  PlaceSettled (finished run) = AllSettled run.instants

  outcome_settled : (at : SimulationState) (outcome : Batch) → AllSettled at.instants → PlaceSettled (after_outcome model plan bound at outcome)
  outcome_settled at limit all = all
  outcome_settled at (failed who fault) all = all
  outcome_settled at (committed next touched frames) all = all

  module _ (at : SimulationState) (reached : IsReached model plan bound (more at)) (settled : IsSettled at) (all : AllSettled at.instants) where
    one_more : AllSettled (at.instants ++ instant_at at ∷ [])
    one_more = after_push (IsSettledInstant model plan bound) [] at.instants (instant_at at) all (record { at = at; is_reached = reached; is_settled = settled; instants_before = refl; is_instant = refl })

    time_settled : (time : ℕ) (cells : List CellState) (out : Option ℕ) → PlaceSettled (to_time model plan bound at time cells out)
    time_settled time cells (Some cell) = one_more
    time_settled time cells None = one_more

    end_settled : (out : Option ℕ) → PlaceSettled (to_end model plan bound at out)
    end_settled (Some cell) = one_more
    end_settled None = one_more

    moved_settled : (time : Option ℕ) → PlaceSettled (moved model plan bound at time)
    moved_settled (Some time) = time_settled time (passed at.cells (time - at.time)) (first_out (passed at.cells (time - at.time)))
    moved_settled None = end_settled (first_out (passed at.cells (plan.duration - at.time)))

  module _ (at : SimulationState) (reached : IsReached model plan bound (more at)) (all : AllSettled at.instants) where
    judged_settled : (jobs : List (ℕ × Job)) → ready_jobs at.cells at.table ≡ [] → ready_jobs at.cells (on_each (woken at.cells) at.table) ≡ jobs →
        PlaceSettled (woken_or_moved model plan bound at (on_each (woken at.cells) at.table) jobs)
    judged_settled [] none e = moved_settled at reached (record { none_ready = none; none_wakes = e }) all (below plan.duration (least_due at.time plan.duration at.cells at.table))
    judged_settled (job ∷ rest) none e = all

    next_settled : (jobs : List (ℕ × Job)) → ready_jobs at.cells at.table ≡ jobs → PlaceSettled (next_by model plan bound at jobs)
    next_settled [] e = judged_settled (ready_jobs at.cells (on_each (woken at.cells) at.table)) e refl
    next_settled (job ∷ rest) e = outcome_settled at (batch model bound at.spent at.cells (job ∷ rest)) all

  reached_settled : (place : Next SimulationState Run) → IsReached model plan bound place → PlaceSettled place
  reached_settled (more at) begins = tt
  reached_settled place (onward {point = at} reached) = next_settled at reached (reached_settled (more at) reached) (ready_jobs at.cells at.table) refl

pub instants_are_settled : InstantsAreSettled
instants_are_settled model plan bound run fresh = reached_settled model plan bound (finished run) fresh
