-- A table stays of the model where frames of steps that end well come to it, and where all its tasks change by themselves.
use Rattle.std.proofs.Common.{◌≡◌, ◌⊎◌, inl, inr, ℕ, zero, suc, ◌+◌, ◌-◌, ◌≤◌, nat_eq, nat_abs, Bool, true, false, cond, if◌then◌else◌, IsTrue, List, [], ◌∷◌, Option, Some, None, refl, sym, ap, ◌∙◌, subst, arith}
use Rattle.std.specs.Prelude.{option_map}
use Rattle.std.specs.BTreeMap.{is_at}
use Rattle.std.proofs.lemmas.Bool.{false≢true}
use Rattle.aerie_base.specs.declared.values.Value.{Value}
use Rattle.aerie_base.specs.declared.models.model.Parts.{Parts}
use Rattle.aerie_base.specs.models.ValidModel.{valid_model}
use Rattle.aerie_base.specs.Paths.{child_path, path_cmp}
use Rattle.effect_cells.specs.declared.effects.CellState.{CellState}
use Rattle.effect_cells.specs.WakeTimes.{holds_on}
use Rattle.run_data.specs.declared.tasks.BodyId.{BodyId}
use Rattle.run_data.specs.declared.tasks.BodyId.TheVariants as body
use Rattle.run_data.specs.declared.tasks.TaskState.{TaskState}
use Rattle.run_data.specs.TaskFrames.{Frame}
use Rattle.run_data.specs.declared.frames.Item.{Item}
use Rattle.run_data.specs.declared.frames.Status.{Status}
use Rattle.run_data.specs.declared.frames.Status.TheVariants as status
use Rattle.run_data.specs.Batches.{fault_in}
use Rattle.run_data.specs.Endings.{is_open, has_ended, back, due_phase, has_come, result_of, result_of_phase, with_result, gone_on, after_batch}
use Rattle.run_data.specs.Tasks.{TaskPhase, anchored, ready, delayed, waiting, calling, over, Task, Table, task_at, on_each, children_made, children_in, after_delay, phase_after, after_frames, woken, woken_phase, rested, rested_phase}
use Rattle.run_data.specs.laws.BatchFrames.{Among, HasPath, Differ, OfReady, OfChild}
use Rattle.run_data.specs.laws.ReachedStates.{MayGoOn, IsResultOf, IsTaskOf, HasCallee, IsPhaseOf, ComesFrom, directive, daemon, maker, IsTableOf}
use Rattle.run_data.specs.laws.EndedTaskLaws.{open_stops}
use Rattle.run_data.specs.laws.OpenTasks.{order_frames}
use Rattle.run_data.specs.laws.PathsUnder.{under_itself}
use Rattle.run_data.specs.laws.FramesByPath.{frame_of_path, path_of, either_path, new_at, at_no_frame, at_one_frame}
use Rattle.run_data.proofs.MadeByJobs.{each_among, Known, HasChild}
use Rattle.run_data.specs.TableLaws.{is_same, order_each}
use Rattle.run_data.proofs.StepEndings.{last_is, EndsWell}
use Rattle.run_data.specs.laws.Orders.{EachOf}

-- ---- a task that stays in its body

module _ (model : Parts) where
  -- the task of a path is still there, made no fewer children and is of the same bodies
  pub record Moved (table : Table) (path : List ℕ) (task : Task) : Type 0 where
    pub now : Task
    pub there : task_at table path ≡ Some now
    pub made : task.made ≤ now.made
    pub declared : (kind : BodyId) → IsTaskOf model kind task.phase → IsTaskOf model kind now.phase

  abbrev pub Grows : Table → Table → Type 0
  Grows table later = (path : List ℕ) (task : Task) → task_at table path ≡ Some task → Moved later path task

  callee_moves : (table later : Table) → Grows table later → (path : List ℕ) (into : Option ℕ) (state : TaskState) → HasCallee model table path into state → HasCallee model later path into state
  callee_moves table later grows path into state has =
      let moved = grows path has.callee has.there in
      record { kind = has.kind; callee = moved.now; there = moved.there; declared = moved.declared (body.Activity has.kind) has.declared; goes_on = has.goes_on }

  pub phase_moves : (table later : Table) → Grows table later → (path : List ℕ) (phase : TaskPhase) → IsPhaseOf model table path phase → IsPhaseOf model later path phase
  phase_moves table later grows path (anchored to edge start state) h = h
  phase_moves table later grows path (ready state) h = h
  phase_moves table later grows path (delayed until state) h = h
  phase_moves table later grows path (waiting condition state) h = h
  phase_moves table later grows path (calling child into state) h = callee_moves table later grows (child_path path child) into state h
  phase_moves table later grows path (over result) h = tt

  pub maker_moves : (table later : Table) → Grows table later → (path : List ℕ) → ComesFrom table path → ComesFrom later path
  maker_moves table later grows path (directive id e) = directive id e
  maker_moves table later grows path (daemon number e) = daemon number e
  maker_moves table later grows path (maker parent number task e there below) =
      let moved = grows parent task there in maker parent number moved.now e moved.there (omega (arith, below, moved.made))

  -- ---- all tasks change

  each_at : (change : List ℕ → Task → Task) (table : Table) (path : List ℕ) → task_at (on_each change table) path ≡ option_map (change path) (task_at table path)
  each_at change [] path = refl
  each_at change (entry ∷ rest) path = by (is_at (path_cmp path) entry.0) refl (each_at change rest path)
    where
      by : (here : Bool) → is_at (path_cmp path) entry.0 ≡ here → task_at (on_each change rest) path ≡ option_map (change path) (task_at rest path) →
          cond here (Some (change entry.0 entry.1)) (task_at (on_each change rest) path) ≡ option_map (change path) (cond here (Some entry.1) (task_at rest path))
      by true e further = ap (λ p. Some (change p entry.1)) (sym (is_same path entry.0 e))
      by false e further = further

  pub record Found (change : List ℕ → Task → Task) (table : Table) (path : List ℕ) (new : Task) : Type 0 where
    pub old : Task
    pub there : task_at table path ≡ Some old
    pub is : change path old ≡ new

  found_by : (change : List ℕ → Task → Task) (table : Table) (path : List ℕ) (new : Task) (found : Option Task) → task_at table path ≡ found → option_map (change path) found ≡ Some new → Found change table path new
  found_by change table path new None there e = absurd (cc)
  found_by change table path new (Some old) there e = record { old = old; there = there; is = cc }

  pub found_at : (change : List ℕ → Task → Task) (table : Table) (path : List ℕ) (new : Task) → task_at (on_each change table) path ≡ Some new → Found change table path new
  found_at change table path new e = found_by change table path new (task_at table path) refl (sym (each_at change table path) ∙ e)

  -- a change that leaves each task in its body, and may go on where the task may
  pub record Keeps (change : List ℕ → Task → Task) (table : Table) : Type 0 where
    pub made : (path : List ℕ) (task : Task) → (change path task).made ≡ task.made
    pub declared : (path : List ℕ) (task : Task) (kind : BodyId) → IsTaskOf model kind task.phase → IsTaskOf model kind (change path task).phase
    pub phases : (path : List ℕ) (task : Task) → IsPhaseOf model table path task.phase → IsPhaseOf model table path (change path task).phase

  grows_each : (change : List ℕ → Task → Task) (table : Table) → Keeps change table → Grows table (on_each change table)
  grows_each change table keeps path task there = record {
    now = change path task;
    there = each_at change table path ∙ ap (option_map (change path)) there;
    made = omega (arith, keeps.made path task);
    declared = keeps.declared path task;
  }

  pub table_changed : (change : List ℕ → Task → Task) (table : Table) → IsTableOf model table → Keeps change table → IsTableOf model (on_each change table)
  table_changed change table is keeps = record {
    order = order_each change table is.order;
    phases = λ path new e. (let found = found_at change table path new e in
        subst (λ (task : Task). IsPhaseOf model (on_each change table) path task.phase) found.is
        (phase_moves table (on_each change table) (grows_each change table keeps) path (change path found.old).phase (keeps.phases path found.old (is.phases path found.old found.there))));
    makers = λ path new e. (let found = found_at change table path new e in
        maker_moves table (on_each change table) (grows_each change table keeps) path (is.makers path found.old found.there));
  }

  -- ---- delays end, waits end, callers and anchored directives go on

  rested_declared : (now : ℕ) (kind : BodyId) (phase : TaskPhase) → IsTaskOf model kind phase → IsTaskOf model kind (rested_phase now phase)
  rested_declared now kind (delayed until state) h = by (nat_eq until now)
    where
      by : (b : Bool) → IsTaskOf model kind (if b then ready state else delayed until state)
      by true = h
      by false = h
  rested_declared now kind (anchored to edge start state) h = h
  rested_declared now kind (ready state) h = h
  rested_declared now kind (waiting condition state) h = h
  rested_declared now kind (calling child into state) h = h
  rested_declared now kind (over result) h = h

  rested_goes : (now : ℕ) (table : Table) (path : List ℕ) (phase : TaskPhase) → IsPhaseOf model table path phase → IsPhaseOf model table path (rested_phase now phase)
  rested_goes now table path (delayed until state) h = by (nat_eq until now)
    where
      by : (b : Bool) → IsPhaseOf model table path (if b then ready state else delayed until state)
      by true = h
      by false = h
  rested_goes now table path (anchored to edge start state) h = h
  rested_goes now table path (ready state) h = h
  rested_goes now table path (waiting condition state) h = h
  rested_goes now table path (calling child into state) h = h
  rested_goes now table path (over result) h = h

  pub rested_keeps : (now : ℕ) (table : Table) → Keeps (rested now) table
  rested_keeps now table = record {
    made = λ path task. refl;
    declared = λ path task kind. rested_declared now kind task.phase;
    phases = λ path task. rested_goes now table path task.phase;
  }

  woken_declared : (cells : List CellState) (kind : BodyId) (phase : TaskPhase) → IsTaskOf model kind phase → IsTaskOf model kind (woken_phase cells phase)
  woken_declared cells kind (waiting condition state) h = by (holds_on cells condition)
    where
      by : (b : Bool) → IsTaskOf model kind (if b then ready state else waiting condition state)
      by true = h
      by false = h
  woken_declared cells kind (anchored to edge start state) h = h
  woken_declared cells kind (ready state) h = h
  woken_declared cells kind (delayed until state) h = h
  woken_declared cells kind (calling child into state) h = h
  woken_declared cells kind (over result) h = h

  woken_goes : (cells : List CellState) (table : Table) (path : List ℕ) (phase : TaskPhase) → IsPhaseOf model table path phase → IsPhaseOf model table path (woken_phase cells phase)
  woken_goes cells table path (waiting condition state) h = by (holds_on cells condition)
    where
      by : (b : Bool) → IsPhaseOf model table path (if b then ready state else waiting condition state)
      by true = h.0
      by false = h
  woken_goes cells table path (anchored to edge start state) h = h
  woken_goes cells table path (ready state) h = h
  woken_goes cells table path (delayed until state) h = h
  woken_goes cells table path (calling child into state) h = h
  woken_goes cells table path (over result) h = h

  pub woken_keeps : (cells : List CellState) (table : Table) → Keeps (woken cells) table
  woken_keeps cells table = record {
    made = λ path task. refl;
    declared = λ path task kind. woken_declared cells kind task.phase;
    phases = λ path task. woken_goes cells table path task.phase;
  }

  kind_with : (into : Option ℕ) (result : Option Value) (state : TaskState) → (with_result into result state).kind ≡ state.kind
  kind_with None result state = refl
  kind_with (Some slot) None state = refl
  kind_with (Some slot) (Some value) state = refl

  delay_declared : (now by : ℕ) (state : TaskState) (kind : BodyId) → state.kind ≡ kind → IsTaskOf model kind (after_delay now by state)
  delay_declared now zero state kind h = h
  delay_declared now (suc less) state kind h = h

  delay_goes : (table : Table) (path : List ℕ) (now by : ℕ) (state : TaskState) → MayGoOn model state → IsPhaseOf model table path (after_delay now by state)
  delay_goes table path now zero state h = h
  delay_goes table path now (suc less) state h = h

  module _ (whole : Table) (now : ℕ) (path : List ℕ) where
    back_declared : (kind : BodyId) (phase : TaskPhase) → IsTaskOf model kind phase → IsTaskOf model kind (back whole path phase)
    back_declared kind (calling child into state) h = by (has_ended whole (child_path path child))
      where
        by : (b : Bool) → IsTaskOf model kind (if b then ready (with_result into (result_of (task_at whole (child_path path child))) state) else calling child into state)
        by true = kind_with into (result_of (task_at whole (child_path path child))) state ∙ h
        by false = h
    back_declared kind (anchored to edge start state) h = h
    back_declared kind (ready state) h = h
    back_declared kind (delayed until state) h = h
    back_declared kind (waiting condition state) h = h
    back_declared kind (over result) h = h

    due_declared : (kind : BodyId) (phase : TaskPhase) → IsTaskOf model kind phase → IsTaskOf model kind (due_phase whole now phase)
    due_declared kind (anchored to edge start state) h = by (has_come whole to edge)
      where
        by : (b : Bool) → IsTaskOf model kind (if b then after_delay now start state else anchored to edge start state)
        by true = delay_declared now start state kind h
        by false = h
    due_declared kind (ready state) h = h
    due_declared kind (delayed until state) h = h
    due_declared kind (waiting condition state) h = h
    due_declared kind (calling child into state) h = h
    due_declared kind (over result) h = h

    -- what has ended has a declared result
    ended_result : (kind : BodyId) (other : List ℕ) (task : Task) → task_at whole other ≡ Some task → has_ended whole other ≡ true → IsTaskOf model kind task.phase →
        IsResultOf model kind (result_of (task_at whole other))
    ended_result kind other task there ended is = subst (λ (o : Option Task). IsResultOf model kind (result_of o)) (sym there) (by task.phase refl is)
      where
        not_open : (phase : TaskPhase) → task.phase ≡ phase → is_open phase ≡ true → ⊥
        not_open phase e open_ =
            false≢true (sym (open_stops other other task (under_itself other) (ap is_open e ∙ open_) whole there) ∙ ended)

        by : (phase : TaskPhase) → task.phase ≡ phase → IsTaskOf model kind phase → IsResultOf model kind (result_of_phase phase)
        by (over result) e h = h
        by (anchored to edge start state) e h = absurd (not_open (anchored to edge start state) e refl)
        by (ready state) e h = absurd (not_open (ready state) e refl)
        by (delayed until state) e h = absurd (not_open (delayed until state) e refl)
        by (waiting condition state) e h = absurd (not_open (waiting condition state) e refl)
        by (calling child into state) e h = absurd (not_open (calling child into state) e refl)

    back_goes : (phase : TaskPhase) → IsPhaseOf model whole path phase → IsPhaseOf model whole path (back whole path phase)
    back_goes (calling child into state) h = by (has_ended whole (child_path path child)) refl
      where
        by : (b : Bool) → has_ended whole (child_path path child) ≡ b →
            IsPhaseOf model whole path (if b then ready (with_result into (result_of (task_at whole (child_path path child))) state) else calling child into state)
        by true e = h.goes_on (result_of (task_at whole (child_path path child))) (ended_result (body.Activity h.kind) (child_path path child) h.callee h.there e h.declared)
        by false e = h
    back_goes (anchored to edge start state) h = h
    back_goes (ready state) h = h
    back_goes (delayed until state) h = h
    back_goes (waiting condition state) h = h
    back_goes (over result) h = h

    due_goes : (phase : TaskPhase) → IsPhaseOf model whole path phase → IsPhaseOf model whole path (due_phase whole now phase)
    due_goes (anchored to edge start state) h = by (has_come whole to edge)
      where
        by : (b : Bool) → IsPhaseOf model whole path (if b then after_delay now start state else anchored to edge start state)
        by true = delay_goes whole path now start state h
        by false = h
    due_goes (ready state) h = h
    due_goes (delayed until state) h = h
    due_goes (waiting condition state) h = h
    due_goes (calling child into state) h = h
    due_goes (over result) h = h

  pub gone_keeps : (now : ℕ) (whole : Table) → Keeps (gone_on whole now) whole
  gone_keeps now whole = record {
    made = λ path task. refl;
    declared = λ path task kind h. due_declared whole now path kind (back whole path task.phase) (back_declared whole now path kind task.phase h);
    phases = λ path task h. due_goes whole now path (back whole path task.phase) (back_goes whole now path task.phase h);
  }

-- ---- frames

module _ (model : Parts) (valid : IsTrue (valid_model model)) (table : Table) (is : IsTableOf model table) (all : List Frame) (sound : EachOf (λ frame. fault_in frame.status ≡ None) all)
    (each : EachOf (Known model valid table all sound) all) (differ : Differ all) (now : ℕ) where
  abbrev whole : Table
  whole = after_frames now all table

  abbrev known : (frame : Frame) → Among frame all → Known model valid table all sound frame
  known frame among = each_among (Known model valid table all sound) all frame each among

  abbrev made_after : Frame → ℕ
  made_after frame = children_made (task_at table frame.path) + children_in frame.items

  after_declared : (made : ℕ) (kind : BodyId) (items : List Item) (how : Status) → fault_in how ≡ None → EndsWell model kind items how → IsTaskOf model kind (phase_after now made how)
  after_declared made kind items (status.Delayed by next) e h = delay_declared model now (nat_abs by) next kind h.body
  after_declared made kind items (status.Waiting condition next) e h = h.on.body
  after_declared made kind items (status.Calling into next) e h = h.body
  after_declared made kind items (status.Done result) e h = h
  after_declared made kind items (status.Faulted fault) e h = absurd (cc)

  none_faults : (frame : Frame) → Among frame all → fault_in frame.status ≡ None
  none_faults frame among = each_among (λ one. fault_in one.status ≡ None) all frame sound among

  -- the task of a frame is of the body of the frame
  frame_declared : (frame : Frame) → Among frame all → IsTaskOf model frame.before.kind (new_at now table frame).phase
  frame_declared frame among = after_declared (made_after frame) frame.before.kind frame.items frame.status (none_faults frame among) (known frame among).well

  there_after : (frame : Frame) → Among frame all → task_at whole frame.path ≡ Some (new_at now table frame)
  there_after frame among = at_one_frame now all table frame differ among

  -- a task of the table before is still there
  moved_by : (frame : Frame) (task : Task) → Among frame all → task_at table frame.path ≡ Some task → OfReady table frame ⊎ OfChild table all frame → Moved model whole frame.path task
  moved_by frame task among there (inr fresh) = let e : ◌≡◌ {A = Option Task} None (Some task) = sym fresh.fresh ∙ there in absurd (cc)
  moved_by frame task among there (inl from) = record {
    now = new_at now table frame;
    there = there_after frame among;
    made = omega (arith, ap children_made there);
    declared = λ kind h. subst (λ k. IsTaskOf model k (new_at now table frame).phase) (kind_is kind h) (frame_declared frame among);
  }
    where
      same : from.task ≡ task
      same = let e : ◌≡◌ {A = Option Task} (Some from.task) (Some task) = sym from.there ∙ there in cc

      kind_is : (kind : BodyId) → IsTaskOf model kind task.phase → frame.before.kind ≡ kind
      kind_is kind h = subst (IsTaskOf model kind) (ap (λ (t : Task). t.phase) (sym same) ∙ from.phase) h

  grows : Grows model table whole
  grows path task there = by (either_path path all)
    where
      by : HasPath path all ⊎ (HasPath path all → ⊥) → Moved model whole path task
      by (inr none) = record { now = task; there = at_no_frame now all table path none ∙ there; made = omega arith; declared = λ kind h. h }
      by (inl has) =
          let found = frame_of_path path all has in
          subst (λ p. Moved model whole p task) found.2
          (moved_by found.0 task found.1 (ap (task_at table) found.2 ∙ there) (known found.0 found.1).origin)

  -- the task of a frame may go on
  child_stands : (frame : Frame) (number kind : ℕ) → Among frame all → HasChild model valid table all sound (child_path frame.path number) kind → (into : Option ℕ) (state : TaskState) →
      ((result : Option Value) → IsResultOf model (body.Activity kind) result → MayGoOn model (with_result into result state)) →
      HasCallee model whole (child_path frame.path number) into state
  child_stands frame number kind among has into state goes_on = record {
    kind = kind;
    callee = new_at now table has.frame;
    there = ap (task_at whole) (sym has.is) ∙ there_after has.frame has.among;
    declared = subst (λ k. IsTaskOf model k (new_at now table has.frame).phase) has.of (frame_declared has.frame has.among);
    goes_on = goes_on;
  }

  after_goes : (frame : Frame) → Among frame all → (how : Status) → frame.status ≡ how → EndsWell model frame.before.kind frame.items how →
      IsPhaseOf model whole frame.path (phase_after now (made_after frame) how)
  after_goes frame among (status.Delayed by next) e h = delay_goes model whole frame.path now (nat_abs by) next h.good
  after_goes frame among (status.Waiting condition next) e h = (h.on.good, h.waits)
  after_goes frame among (status.Calling into next) e h =
      let last = last_is frame.items h.child h.last in
      let place : children_made (task_at table frame.path) + last.number ≡ made_after frame - 1 = omega (arith, last.count) in
      subst (λ (n : ℕ). HasCallee model whole (child_path frame.path n) into next) place
      (child_stands frame (children_made (task_at table frame.path) + last.number) h.child among ((known frame among).children last.number h.child last.is) into next h.goes_on)
  after_goes frame among (status.Done result) e h = tt
  after_goes frame among (status.Faulted fault) e h = tt

  -- the child that a frame calls has a frame too
  called_by : (frame : Frame) → Among frame all → (how : Status) → EndsWell model frame.before.kind frame.items how → (into : Option ℕ) (next : TaskState) → how ≡ status.Calling into next →
      HasPath (child_path frame.path (made_after frame - 1)) all
  called_by frame among (status.Delayed by next) h slot state e = absurd (cc)
  called_by frame among (status.Waiting condition next) h slot state e = absurd (cc)
  called_by frame among (status.Calling into next) h slot state e =
      let last = last_is frame.items h.child h.last in
      let place : children_made (task_at table frame.path) + last.number ≡ made_after frame - 1 = omega (arith, last.count) in
      let has = (known frame among).children last.number h.child last.is in
      subst (λ (n : ℕ). HasPath (child_path frame.path n) all) place (subst (λ p. HasPath p all) has.is (path_of has.frame all has.among))
  called_by frame among (status.Done result) h slot state e = absurd (cc)
  called_by frame among (status.Faulted fault) h slot state e = absurd (cc)

  pub called : (frame : Frame) → Among frame all → (into : Option ℕ) (next : TaskState) → frame.status ≡ status.Calling into next →
      HasPath (child_path frame.path (children_made (task_at table frame.path) + children_in frame.items - 1)) all
  called frame among into next e = called_by frame among frame.status (known frame among).well into next e

  origin_moves : (frame : Frame) → OfReady table frame ⊎ OfChild table all frame → ComesFrom whole frame.path
  origin_moves frame (inl from) = maker_moves model table whole grows frame.path (is.makers frame.path from.task from.there)
  origin_moves frame (inr from) =
      maker from.maker.path (children_made (task_at table from.maker.path) + from.number) (new_at now table from.maker) from.is (there_after from.maker from.among) (omega (arith, from.below))

  record Stands (path : List ℕ) (task : Task) : Type 0 where
    phase : IsPhaseOf model whole path task.phase
    from : ComesFrom whole path

  frame_stands : (frame : Frame) → Among frame all → Stands frame.path (new_at now table frame)
  frame_stands frame among = record {
    phase = after_goes frame among frame.status refl (known frame among).well;
    from = origin_moves frame (known frame among).origin;
  }

  stands : (path : List ℕ) (task : Task) → task_at whole path ≡ Some task → Stands path task
  stands path task there = by (either_path path all)
    where
      by : HasPath path all ⊎ (HasPath path all → ⊥) → Stands path task
      by (inr none) =
          let before : task_at table path ≡ Some task = sym (at_no_frame now all table path none) ∙ there in
          record { phase = phase_moves model table whole grows path task.phase (is.phases path task before); from = maker_moves model table whole grows path (is.makers path task before) }
      by (inl has) =
          let found = frame_of_path path all has in
          let same : new_at now table found.0 ≡ task = (let e : Some (new_at now table found.0) ≡ Some task = sym (there_after found.0 found.1) ∙ ap (task_at whole) found.2 ∙ there in cc) in
          subst (λ p. Stands p task) found.2 (subst (λ (t : Task). Stands found.0.path t) same (frame_stands found.0 found.1))

  pub frames_keep_table : IsTableOf model whole
  frames_keep_table = record {
    order = order_frames now all table is.order;
    phases = λ path task there. (stands path task there).phase;
    makers = λ path task there. (stands path task there).from;
  }

  pub batch_keeps_table : IsTableOf model (after_batch now all table)
  batch_keeps_table = table_changed model (gone_on whole now) whole frames_keep_table (gone_keeps model now whole)
