-- A simulation ends: with each transition a weight falls.
use Rattle.std.proofs.Common.{◌≡◌, ◌⊎◌, inl, inr, ℕ, zero, suc, ◌+◌, ◌-◌, ◌<◌, ◌≤◌, Bool, true, false, List, [], ◌∷◌, length, Option, Some, None, if◌then◌else◌, nat_lt, nat_abs, refl, sym, ap, ◌∙◌, subst, arith}
use Rattle.std.proofs.lemmas.Bool.{ltb-false}
use Rattle.std.specs.declared.cmp.Ordering.{Ordering}
use Rattle.std.specs.declared.cmp.Ordering.TheVariants.{Less, Equal, Greater}
use Rattle.aerie_base.specs.declared.models.Daemon.{Daemon}
use Rattle.aerie_base.specs.declared.models.model.Parts.{Parts}
use Rattle.aerie_base.specs.declared.plans.Directive.{Directive}
use Rattle.aerie_base.specs.declared.plans.Plan.{Plan}
use Rattle.aerie_base.specs.Paths.{root, daemon_root, path_cmp}
use Rattle.effect_cells.specs.declared.effects.CellState.{CellState}
use Rattle.effect_cells.specs.Cells.{passed, first_out, committed_cells}
use Rattle.run_data.specs.declared.jobs.Job.{Job}
use Rattle.run_data.specs.TaskFrames.{Frame}
use Rattle.run_data.specs.declared.frames.Status.{Status}
use Rattle.run_data.specs.declared.frames.Status.TheVariants as status
use Rattle.run_data.specs.declared.tasks.TaskState.{TaskState}
use Rattle.run_data.specs.declared.runs.Run.{Run}
use Rattle.run_data.specs.Batches.{Batch, limit, failed, committed, batch, judged as judged_batch, when_within, when_no_fault, unless_out, Blame, least_fault, tree_of, cost_of, by_path, put_by_path, in_front_unless_greater}
use Rattle.run_data.specs.Endings.{is_open, after_batch, gone_on, back}
use Rattle.run_data.specs.Transitions.{Next, more, finished, begins, onward, iterate}
use Rattle.run_data.specs.Frames.{Made, Making, made_by_all}
use Rattle.run_data.specs.Fresh.{SimulationState, start, next_state, next_by, woken_or_moved, moved, to_time, to_end, after_outcome, least_due, below, IsReached, IsFresh, after_transitions}
use Rattle.run_data.specs.TaskStates.{activity_begun, daemon_begun}
use Rattle.run_data.specs.Tasks.{delayed, Task, Table, task_at, with_task, on_each, planned, with_directives, with_daemons, children_made, children_in, after_delay, phase_after, task_after, after_frame, after_frames, ready_jobs, woken, rested}
use Rattle.run_data.specs.laws.Ending.{enough_transitions, TransitionsFinish, HasFreshRun, FreshRunByTransitions}
use Rattle.run_data.specs.laws.Weights.{one_if, opens, idle, weigh, weight, WeightFalls, WeightBegins}
use Rattle.run_data.specs.laws.Iteration.{result_stays, transitions_come, same_result}
use Rattle.run_data.proofs.FramePaths.{HasPath}
use Rattle.run_data.specs.laws.OpenTasks.{order_batch, back_open, due_open, woken_open, rested_open}
use Rattle.run_data.specs.laws.OrderedTables.{IsOrderedTable}
use Rattle.run_data.specs.FrameLaws.{sorted_cost, each_sorted}
use Rattle.run_data.specs.TableLaws.{order_with, order_each, path_same}
use Rattle.run_data.proofs.Counting.{opens_each, standing, open_there, opens_with, standing_still, Found, FirstFound, first_found}
use Rattle.run_data.proofs.DueTimes.{StillWaits, IsAfter, least_is_after, none_ready}
use Rattle.run_data.proofs.Paying.{open_status, Pays, AllPay, HasFrameOf, all_pay, all_first}
use Rattle.run_data.specs.TaskLaws.{Each}
use Rattle.run_data.proofs.Rising.{StandsWell, GoesWell, next_well, start_well, stands_well, below_is}
use Rattle.run_data.specs.laws.Orders.{EachOf}

-- ---- any fold

module _ (S R : Type 0) (go : S → Next S R) (Good : S → Type 0) (weight : S → ℕ) where
  abbrev pub FallsTo : S → Next S R → Type 0
  FallsTo at (more point) = Good point × (weight point < weight at)
  FallsTo at (finished result) = Unit {0}

  pub ends : ((at : S) → Good at → FallsTo at (go at)) → (count : ℕ) (at : S) → Good at → weight at < count → (result : R) × (iterate S R go count (more at) ≡ finished result)
  ends falls zero at good less = absurd (omega arith)
  ends falls (suc count) at good less = by (go at) (falls at good) (ends falls count)
    where
      by : (point : Next S R) → FallsTo at point → ((at : S) → Good at → weight at < count → (result : R) × (iterate S R go count (more at) ≡ finished result)) →
          (result : R) × (iterate S R go count point ≡ finished result)
      by (more point) fall further = further point fall.0 (omega (arith, fall.1))
      by (finished result) fall further = (result, result_stays S R go count result)

-- ---- the frames of a batch

delay_open : (now by : ℕ) (state : TaskState) → one_if (is_open (after_delay now by state)) ≤ 1
delay_open now zero state = omega arith
delay_open now (suc less) state = omega arith

open_after : (now made : ℕ) (ending : Status) → one_if (is_open (phase_after now made ending)) ≤ open_status ending
open_after now made (status.Delayed by state) = delay_open now (nat_abs by) state
open_after now made (status.Waiting condition state) = omega arith
open_after now made (status.Calling into state) = omega arith
open_after now made (status.Done result) = omega arith
open_after now made (status.Faulted fault) = omega arith

open_frames : List Frame → ℕ
open_frames [] = 0
open_frames (frame ∷ rest) = open_status frame.status + open_frames rest

pay_cost : (frames : List Frame) → EachOf Pays frames → open_frames frames ≤ cost_of frames
unfolding open_frames
pay_cost [] pay = omega arith
pay_cost (frame ∷ rest) pay = omega (arith, pay.0, pay_cost rest pay.1)

abbrev new_task : ℕ → Frame → Table → Task
new_task now frame table = task_after now frame.status (children_made (task_at table frame.path) + children_in frame.items)

one_frame : (now : ℕ) (frame : Frame) (table : Table) → opens (after_frame now frame table) + open_there (standing frame.path table) ≤ opens table + open_status frame.status
one_frame now frame table =
    omega (arith, opens_with table frame.path (new_task now frame table), open_after now (children_made (task_at table frame.path) + children_in frame.items) frame.status)

frames_open : (now : ℕ) (frames : List Frame) (table : Table) → opens (after_frames now frames table) ≤ opens table + open_frames frames
unfolding open_frames
frames_open now [] table = omega arith
frames_open now (frame ∷ rest) table = omega (arith, one_frame now frame table, frames_open now rest (after_frame now frame table))

module _ (now : ℕ) (path : List ℕ) (task : Task) (open_ : is_open task.phase ≡ true) where
  falls_here : (frame : Frame) (rest : List Frame) (table : Table) → frame.path ≡ path → standing path table ≡ Some task →
      opens (after_frames now (frame ∷ rest) table) + 1 ≤ opens table + open_frames (frame ∷ rest)
  unfolding open_frames
  falls_here frame rest table e stands =
      let one : open_there (standing frame.path table) ≡ 1 = ap (λ p. open_there (standing p table)) e ∙ ap open_there stands ∙ ap one_if open_ in
      omega (arith, one, one_frame now frame table, frames_open now rest (after_frame now frame table))

  frames_fall : (frames : List Frame) (table : Table) → HasPath path frames → standing path table ≡ Some task → opens (after_frames now frames table) + 1 ≤ opens table + open_frames frames
  unfolding open_frames
  frames_fall [] table has stands = absurd has
  frames_fall (frame ∷ rest) table (inl e) stands = falls_here frame rest table e stands
  frames_fall (frame ∷ rest) table (inr has) stands = by (path_cmp path frame.path) refl (frames_fall rest (after_frame now frame table) has)
    where
      apart_falls : (path_cmp path frame.path ≡ Equal → ⊥) →
          (standing path (after_frame now frame table) ≡ Some task → opens (after_frames now rest (after_frame now frame table)) + 1 ≤ opens (after_frame now frame table) + open_frames rest) →
          opens (after_frames now rest (after_frame now frame table)) + 1 ≤ opens table + (open_status frame.status + open_frames rest)
      apart_falls apart further =
          omega (arith, one_frame now frame table, further (standing_still path frame.path (new_task now frame table) apart table ∙ stands))

      by : (order : Ordering) → path_cmp path frame.path ≡ order →
          (standing path (after_frame now frame table) ≡ Some task → opens (after_frames now rest (after_frame now frame table)) + 1 ≤ opens (after_frame now frame table) + open_frames rest) →
          opens (after_frames now rest (after_frame now frame table)) + 1 ≤ opens table + (open_status frame.status + open_frames rest)
      by Less e further = apart_falls (λ same. (let clash : ◌≡◌ {A = Ordering} Less Equal = sym e ∙ same in cc)) further
      by Equal e further = falls_here frame rest table (sym (path_same path frame.path e)) stands
      by Greater e further = apart_falls (λ same. (let clash : ◌≡◌ {A = Ordering} Greater Equal = sym e ∙ same in cc)) further

-- ---- the tasks after a batch

opens_batch : (now : ℕ) (frames : List Frame) (table : Table) → opens (after_batch now frames table) ≡ opens (after_frames now frames table)
opens_batch now frames table =
    let whole = after_frames now frames table in
    opens_each (gone_on whole now) (λ path task. due_open whole now (back whole path task.phase) ∙ back_open whole path task.phase) whole

-- ---- frames in order of path

put_path : (path : List ℕ) (frame : Frame) (frames : List Frame) → (frame.path ≡ path) ⊎ HasPath path frames → HasPath path (put_by_path frame frames)
put_path path frame [] has = has
put_path path frame (first ∷ rest) has = by (path_cmp frame.path first.path) has (put_path path frame rest)
  where
    by : (order : Ordering) → (frame.path ≡ path) ⊎ HasPath path (first ∷ rest) → ((frame.path ≡ path) ⊎ HasPath path rest → HasPath path (put_by_path frame rest)) →
        HasPath path (in_front_unless_greater order frame first rest (put_by_path frame rest))
    by Less has further = has
    by Equal has further = has
    by Greater (inl e) further = inr (further (inl e))
    by Greater (inr (inl e)) further = inl e
    by Greater (inr (inr h)) further = inr (further (inr h))

sorted_path : (path : List ℕ) (frames : List Frame) → HasPath path frames → HasPath path (by_path frames)
sorted_path path [] has = has
sorted_path path (frame ∷ rest) (inl e) = put_path path frame (by_path rest) (inl e)
sorted_path path (frame ∷ rest) (inr h) = put_path path frame (by_path rest) (inr (sorted_path path rest h))

-- ---- a batch

-- what is committed is within the bound, each frame pays, and one is of this path
abbrev pub Commits : ℕ → ℕ → List ℕ → Batch → Type 0
Commits bound spent path limit = Unit {0}
Commits bound spent path (failed who fault) = Unit {0}
Commits bound spent path (committed cells touched frames) = (spent + cost_of frames ≤ bound) × EachOf Pays frames × HasPath path frames

module _ (bound spent : ℕ) (path : List ℕ) (made : Made) (pay : EachOf Pays made.frames) (has : HasPath path made.frames) where
  out_commits : spent + cost_of made.frames ≤ bound → (cells after_cells : List CellState) (out : Option ℕ) → Commits bound spent path (unless_out out made cells after_cells)
  out_commits fit cells after_cells None = (omega (arith, fit, sorted_cost made.frames), each_sorted Pays made.frames pay, sorted_path path made.frames has)
  out_commits fit cells after_cells (Some cell) = tt

  fault_commits : spent + cost_of made.frames ≤ bound → (cells : List CellState) (blame : Option Blame) → Commits bound spent path (when_no_fault blame made cells)
  fault_commits fit cells None = out_commits fit cells (committed_cells cells (tree_of made)) (first_out (committed_cells cells (tree_of made)))
  fault_commits fit cells (Some (other, fault)) = tt

  made_commits : (cells : List CellState) → Commits bound spent path (judged_batch bound spent cells (Some made))
  made_commits cells = by (nat_lt bound (spent + cost_of made.frames)) refl
    where
      by : (past : Bool) → nat_lt bound (spent + cost_of made.frames) ≡ past → Commits bound spent path (when_within (if past then false else true) made cells)
      by true e = tt
      by false e = fault_commits (ltb-false bound (spent + cost_of made.frames) e) cells (least_fault made.frames)

making_commits : (bound spent : ℕ) (path : List ℕ) (cells : List CellState) (making : Making) → AllPay making → HasFrameOf path making → Commits bound spent path (judged_batch bound spent cells making)
making_commits bound spent path cells None pay has = tt
making_commits bound spent path cells (Some made) pay has = made_commits bound spent path made pay has cells

pub batch_commits : (model : Parts) (bound spent : ℕ) (cells : List CellState) (job : ℕ × Job) (rest : List (ℕ × Job)) → Commits bound spent job.1.path (batch model bound spent cells (job ∷ rest))
batch_commits model bound spent cells job rest =
    making_commits bound spent job.1.path cells (made_by_all model bound (job ∷ rest)) (all_pay model bound (job ∷ rest)) (all_first model bound job rest)

-- ---- the weight

idle_most : (jobs : List (ℕ × Job)) → idle jobs ≤ 1
idle_most [] = omega arith
idle_most (job ∷ rest) = omega arith

by_batch : (before after_ opened cost spent bound rest later time : ℕ) → after_ + 1 ≤ before + opened → opened ≤ cost → spent + cost ≤ bound → later ≤ 1 →
    weigh after_ (bound - (spent + cost)) later time < weigh before (bound - spent) rest time
by_batch before after_ opened cost spent bound rest later time h k m n = omega arith

by_time : (open_ left later now next_time duration : ℕ) → now < next_time → next_time < duration → later ≤ 1 →
    weigh open_ left later (duration - next_time) < weigh open_ left 1 (duration - now)
by_time open_ left later now next_time duration h k m = omega arith

by_waking : (open_ left time : ℕ) → weigh open_ left 0 time < weigh open_ left 1 time
by_waking open_ left time = omega arith

module _ (model : Parts) (plan : Plan) (bound : ℕ) where
  abbrev Falls : SimulationState → Next SimulationState Run → Type 0
  Falls at (more next_) = IsOrderedTable next_.table × (weight plan bound next_ < weight plan bound at)
  Falls at (finished run) = Unit {0}

  outcome_falls : (at : SimulationState) (outcome : Batch) (path : List ℕ) → IsOrderedTable at.table → Found path at.table → Commits bound at.spent path outcome → Falls at (after_outcome model plan bound at outcome)
  outcome_falls at limit path order found commits = tt
  outcome_falls at (failed who fault) path order found commits = tt
  outcome_falls at (committed cells touched frames) path order found commits =
      let fall = frames_fall at.time path found.task found.is_open frames at.table commits.2 found.stands in
      let table = after_batch at.time frames at.table in
      let same : opens table ≡ opens (after_frames at.time frames at.table) = opens_batch at.time frames at.table in (
        order_batch at.time frames at.table order,
        by_batch (opens at.table) (opens table) (open_frames frames) (cost_of frames) at.spent bound (idle (ready_jobs at.cells at.table)) (idle (ready_jobs cells table)) (plan.duration - at.time)
            (omega (arith, fall, same)) (pay_cost frames commits.1) commits.0 (idle_most (ready_jobs cells table)),
      )

  time_falls : (at : SimulationState) (time : ℕ) (cells : List CellState) (out : Option ℕ) → IsOrderedTable at.table → idle (ready_jobs at.cells at.table) ≡ 1 → at.time < time → time < plan.duration →
      Falls at (to_time model plan bound at time cells out)
  time_falls at time cells (Some cell) order none later below = tt
  time_falls at time cells None order none later below =
      let table = on_each (rested time) at.table in
      let same : opens table ≡ opens at.table = opens_each (rested time) (λ path task. rested_open time task.phase) at.table in (
        order_each (rested time) at.table order,
        subst (λ n. weigh (opens table) (bound - at.spent) (idle (ready_jobs cells table)) (plan.duration - time) < weigh (opens at.table) (bound - at.spent) n (plan.duration - at.time)) (sym none)
            (subst (λ n. weigh n (bound - at.spent) (idle (ready_jobs cells table)) (plan.duration - time) < weigh (opens at.table) (bound - at.spent) 1 (plan.duration - at.time)) (sym same)
            (by_time (opens at.table) (bound - at.spent) (idle (ready_jobs cells table)) at.time time plan.duration later below (idle_most (ready_jobs cells table)))),
      )

  end_falls : (at : SimulationState) (out : Option ℕ) → Falls at (to_end model plan bound at out)
  end_falls at (Some cell) = tt
  end_falls at None = tt

  moved_falls : (at : SimulationState) (next_time : Option ℕ) → StandsWell plan at → IsOrderedTable at.table → idle (ready_jobs at.cells at.table) ≡ 1 →
      below plan.duration (least_due at.time plan.duration at.cells at.table) ≡ next_time → Each (StillWaits at.cells) at.table → Falls at (moved model plan bound at next_time)
  moved_falls at None well order none e waits = end_falls at (first_out (passed at.cells (plan.duration - at.time)))
  moved_falls at (Some time) well order none e waits =
      let is = below_is model plan bound plan.duration time (least_due at.time plan.duration at.cells at.table) e in
      let later : at.time < time = subst (IsAfter at.time) is.0 (least_is_after at.time plan.duration at.cells at.table well.delays waits) in
      time_falls at time (passed at.cells (time - at.time)) (first_out (passed at.cells (time - at.time))) order none later is.1

  judged_falls : (at : SimulationState) (jobs : List (ℕ × Job)) → StandsWell plan at → IsOrderedTable at.table → idle (ready_jobs at.cells at.table) ≡ 1 →
      ready_jobs at.cells (on_each (woken at.cells) at.table) ≡ jobs → Falls at (woken_or_moved model plan bound at (on_each (woken at.cells) at.table) jobs)
  judged_falls at [] well order none e =
      moved_falls at (below plan.duration (least_due at.time plan.duration at.cells at.table)) well order none refl (none_ready at.cells at.table e)
  judged_falls at (job ∷ rest) well order none e =
      let table = on_each (woken at.cells) at.table in
      let same : opens table ≡ opens at.table = opens_each (woken at.cells) (λ path task. woken_open at.cells task.phase) at.table in
      let some : idle (ready_jobs at.cells table) ≡ 0 = ap idle e in (
        order_each (woken at.cells) at.table order,
        subst (λ n. weigh (opens table) (bound - at.spent) n (plan.duration - at.time) < weight plan bound at) (sym some)
            (subst (λ n. weigh (opens table) (bound - at.spent) 0 (plan.duration - at.time) < weigh (opens at.table) (bound - at.spent) n (plan.duration - at.time)) (sym none)
            (subst (λ n. weigh n (bound - at.spent) 0 (plan.duration - at.time) < weigh (opens at.table) (bound - at.spent) 1 (plan.duration - at.time)) (sym same)
            (by_waking (opens at.table) (bound - at.spent) (plan.duration - at.time)))),
      )

  next_by_falls : (at : SimulationState) (jobs : List (ℕ × Job)) → StandsWell plan at → IsOrderedTable at.table → ready_jobs at.cells at.table ≡ jobs → FirstFound at.table jobs → Falls at (next_by model plan bound at jobs)
  next_by_falls at [] well order e found = judged_falls at (ready_jobs at.cells (on_each (woken at.cells) at.table)) well order (ap idle e) refl
  next_by_falls at (job ∷ rest) well order e found =
      outcome_falls at (batch model bound at.spent at.cells (job ∷ rest)) job.1.path order found (batch_commits model bound at.spent at.cells job rest)

  next_falls : (at : SimulationState) → StandsWell plan at → IsOrderedTable at.table → Falls at (next_state model plan bound at)
  next_falls at well order = next_by_falls at (ready_jobs at.cells at.table) well order refl (first_found at.cells at.table order)

  abbrev Good : SimulationState → Type 0
  Good at = StandsWell plan at × IsOrderedTable at.table

  both_fall : (at : SimulationState) (point : Next SimulationState Run) → GoesWell plan point → Falls at point → FallsTo SimulationState Run (next_state model plan bound) Good (weight plan bound) at point
  both_fall at (more point) well fall = ((well, fall.0), fall.1)
  both_fall at (finished run) well fall = tt

  -- ---- at the start

  order_directives : (directives : List Directive) (table : Table) → IsOrderedTable table → IsOrderedTable (with_directives model directives table)
  order_directives [] table order = order
  order_directives (directive ∷ rest) table order = order_directives rest _ (order_with table (root directive.id) _ order)

  order_daemons : (number : ℕ) (daemons : List Daemon) (table : Table) → IsOrderedTable table → IsOrderedTable (with_daemons number daemons table)
  order_daemons number [] table order = order
  order_daemons number (daemon ∷ rest) table order = order_daemons (number + 1) rest _ (order_with table (daemon_root number) _ order)

  one_most : (is : Bool) → one_if is ≤ 1
  one_most true = omega arith
  one_most false = omega arith

  one_more : (table : Table) (path : List ℕ) (task : Task) → opens (with_task table path task) ≤ opens table + 1
  one_more table path task = omega (arith, opens_with table path task, one_most (is_open task.phase))

  abbrev directive_task : Directive → Task
  directive_task directive = record {
    phase = planned directive.anchor directive.start (activity_begun model directive.kind directive.arguments);
    made = 0;
    begun = false;
  }

  abbrev daemon_task : ℕ → Daemon → Task
  daemon_task number daemon = record { phase = delayed 0 (daemon_begun number daemon); made = 0; begun = false }

  opens_directives : (directives : List Directive) (table : Table) → opens (with_directives model directives table) ≤ opens table + length directives
  opens_directives [] table = omega arith
  opens_directives (directive ∷ rest) table =
      omega (arith, opens_directives rest (with_task table (root directive.id) (directive_task directive)), one_more table (root directive.id) (directive_task directive))

  opens_daemons : (number : ℕ) (daemons : List Daemon) (table : Table) → opens (with_daemons number daemons table) ≤ opens table + length daemons
  opens_daemons number [] table = omega arith
  opens_daemons number (daemon ∷ rest) table =
      omega (arith, opens_daemons (number + 1) rest (with_task table (daemon_root number) (daemon_task number daemon)), one_more table (daemon_root number) (daemon_task number daemon))

  order_start : IsOrderedTable (start model plan).table
  order_start = order_each (rested 0) _ (order_directives plan.directives _ (order_daemons 0 model.daemons [] tt))

  opens_start : opens (start model plan).table ≤ length plan.directives + length model.daemons
  opens_start =
      omega (
        arith,
        opens_each (rested 0) (λ path task. rested_open 0 task.phase) (with_directives model plan.directives (with_daemons 0 model.daemons [])),
        opens_directives plan.directives (with_daemons 0 model.daemons []),
        opens_daemons 0 model.daemons [],
      )

  start_weight : weight plan bound (start model plan) < enough_transitions model plan bound
  start_weight = omega (arith, opens_start, idle_most (ready_jobs (start model plan).cells (start model plan).table))

  pub run_ends : (run : Run) × (after_transitions model plan bound (enough_transitions model plan bound) ≡ finished run)
  run_ends =
      ends SimulationState Run (next_state model plan bound) Good (weight plan bound) (λ at good. both_fall at (next_state model plan bound at) (next_well model plan bound at good.0) (next_falls at good.0 good.1))
      (enough_transitions model plan bound) (start model plan) (start_well model plan bound, order_start) start_weight

pub transitions_finish : TransitionsFinish
transitions_finish model plan bound = run_ends model plan bound

transitions_are_fresh : (model : Parts) (plan : Plan) (bound : ℕ) (run : Run) → after_transitions model plan bound (enough_transitions model plan bound) ≡ finished run → IsFresh model plan bound run
transitions_are_fresh model plan bound run e =
    subst (IsReached model plan bound) e
    (transitions_come SimulationState Run (next_state model plan bound) (enough_transitions model plan bound) (start model plan) (more (start model plan)) begins)

pub has_fresh_run : HasFreshRun
has_fresh_run model plan bound =
    let found = run_ends model plan bound in
    (found.0, transitions_are_fresh model plan bound found.0 found.1)

pub fresh_by_transitions : FreshRunByTransitions
fresh_by_transitions model plan bound run =
    let found = run_ends model plan bound in (
      λ fresh. found.1 ∙ ap finished (same_result SimulationState Run (next_state model plan bound) (start model plan) found.0 run (transitions_are_fresh model plan bound found.0 found.1) fresh),
      transitions_are_fresh model plan bound run,
    )

-- ---- each transition

abbrev OrderedPoint : Next SimulationState Run → Type 0
OrderedPoint (more at) = IsOrderedTable at.table
OrderedPoint (finished run) = Unit {0}

standing_good : (model : Parts) (plan : Plan) (bound : ℕ) (point : Next SimulationState Run) → IsReached model plan bound point → OrderedPoint point
standing_good model plan bound (more at) begins = order_start model plan bound
standing_good model plan bound point (onward {point = at} before) =
    ordered_next (next_state model plan bound at) (next_falls model plan bound at (stands_well model plan bound (more at) before) (standing_good model plan bound (more at) before))
  where
    ordered_next : (later : Next SimulationState Run) → Falls model plan bound at later → OrderedPoint later
    ordered_next (more later) falls = falls.0
    ordered_next (finished run) falls = tt

pub weight_falls : WeightFalls
weight_falls model plan bound at later reached e =
    (subst (Falls model plan bound at) e (next_falls model plan bound at (stands_well model plan bound (more at) reached) (standing_good model plan bound (more at) reached))).1

pub weight_begins : WeightBegins
weight_begins model plan bound = start_weight model plan bound
