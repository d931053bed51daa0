-- A file of lemmas: what it proves need not be read to trust a clause.
--
-- Tables with the same live part have the same live part after the same batch.
use Rattle.std.proofs.Common.{◌≡◌, ◌⊎◌, inl, inr, ℕ, zero, suc, ◌+◌, ◌<◌, Bool, true, false, List, [], ◌∷◌, length, Option, Some, None, refl, sym, ap, ◌∙◌, subst, if◌then◌else◌, arith}
use Rattle.std.proofs.lemmas.List.{length-append}
use Rattle.aerie_base.specs.declared.plans.Edge.{Edge}
use Rattle.aerie_base.specs.declared.plans.Edge.TheVariants.{Start, End}
use Rattle.aerie_base.specs.Paths.{root, child_path, is_prefix}
use Rattle.run_data.specs.declared.tasks.TaskState.{TaskState}
use Rattle.run_data.specs.TaskFrames.{Frame}
use Rattle.run_data.specs.Endings.{is_open, has_ended, has_begun, has_come, back, due_phase, result_of, with_result, gone_on, after_batch}
use Rattle.run_data.specs.Tasks.{TaskPhase, anchored, ready, delayed, waiting, calling, over, Task, Table, task_at, after_frames, children_made, children_in}
use Rattle.run_data.specs.laws.BatchFrames.{Among, HasPath, OfReady, OfChild, AreFramesOf}
use Rattle.run_data.specs.laws.GoingOn.{IsQuiet, AllQuiet}
use Rattle.run_data.specs.laws.OrderedTables.{IsOrderedTable}
use Rattle.run_data.specs.laws.EndedTaskLaws.{open_stops}
use Rattle.run_data.specs.laws.OpenTasks.{order_frames, back_open, due_open}
use Rattle.run_data.specs.laws.PathsUnder.{under_itself}
use Rattle.run_data.specs.laws.FramesByPath.{either_path, frame_of_path, new_at, at_no_frame, at_one_frame, any_weaker}
use Rattle.run_data.specs.laws.QuietTasks.{ended_each}
use Rattle.run_data.specs.laws.TableParts.{each_at, changed_at}
use Rattle.run_data.specs.laws.LivePartLaws.{SameLive}
use Rattle.run_data.specs.laws.LiveAfterFrames.{AgreeAt, agree_frames, ended_same, opens_same, prefix_child, each_of_among, Under, any_frame, live_before, quiet_at, calls_by, anchors_never}

ready_open : (phase : TaskPhase) (state : TaskState) → phase ≡ ready state → is_open phase ≡ true
ready_open phase state e = ap is_open e

module _ (now : ℕ) (frames : List Frame) (table other : Table) (order : IsOrderedTable table) (second : IsOrderedTable other) (same : SameLive table other)
    (quiet : AllQuiet table table) (still : AllQuiet other other) (are : AreFramesOf table frames) (be : AreFramesOf other frames) where
  abbrev Kept : List ℕ → Type 0
  Kept path = (has_ended table path ≡ false) ⊎ Under frames path

  -- ---- before the batch

  ready_above : (of : Table) → IsOrderedTable of → (frame : Frame) → OfReady of frame → (path : List ℕ) → is_prefix path frame.path ≡ true → has_ended of path ≡ false
  ready_above of in_order frame from path under = open_stops path frame.path from.task under (ready_open from.task.phase frame.before from.phase) of from.there

  -- at the path of a new child is no task in either table, or the same
  at_child : (frame : Frame) → Among frame frames → task_at table frame.path ≡ None → task_at table frame.path ≡ task_at other frame.path
  at_child frame among fresh = by (each_of_among (λ one. OfReady other one ⊎ OfChild other frames one) frames frame be.origin among)
    where
      by : OfReady other frame ⊎ OfChild other frames frame → task_at table frame.path ≡ task_at other frame.path
      by (inl from) = same.tasks frame.path (same.ended frame.path ∙ ready_above other second frame from frame.path (under_itself frame.path))
      by (inr from) = fresh ∙ sym from.fresh

  above_frame : (most : ℕ) (frame : Frame) → Among frame frames → length frame.path < most → (path : List ℕ) → is_prefix path frame.path ≡ true → task_at table path ≡ task_at other path
  above_frame zero frame among short path under = absurd (omega arith)
  above_frame (suc most) frame among short path under =
      by (each_of_among (λ one. OfReady table one ⊎ OfChild table frames one) frames frame are.origin among) (λ maker there less above. above_frame most maker there less path above)
    where
      by : OfReady table frame ⊎ OfChild table frames frame →
          ((maker : Frame) → Among maker frames → length maker.path < most → is_prefix path maker.path ≡ true → task_at table path ≡ task_at other path) → task_at table path ≡ task_at other path
      by (inl from) further = same.tasks path (ready_above table order frame from path under)
      by (inr from) further = go (prefix_child path from.maker.path (children_made (task_at table from.maker.path) + from.number) (ap (is_prefix path) (sym from.is) ∙ under))
        where
          long : length frame.path ≡ length from.maker.path + 1
          long = ap length from.is ∙ length-append from.maker.path ((children_made (task_at table from.maker.path) + from.number) ∷ [])

          go : (path ≡ child_path from.maker.path (children_made (task_at table from.maker.path) + from.number)) ⊎ (is_prefix path from.maker.path ≡ true) → task_at table path ≡ task_at other path
          go (inl e) = subst (λ p. task_at table p ≡ task_at other p) (sym (e ∙ sym from.is)) (at_child frame among from.fresh)
          go (inr above) = further from.maker from.among (omega (arith, long, short)) above

  kept_same : (path : List ℕ) → Kept path → task_at table path ≡ task_at other path
  kept_same path (inl e) = same.tasks path e
  kept_same path (inr h) =
      let found = any_frame (λ frame. is_prefix path frame.path ≡ true) frames h in
      above_frame (length found.0.path + 1) found.0 found.1 (omega arith) path found.2

  kept_frame : (path : List ℕ) → HasPath path frames → Kept path
  kept_frame path has = inr (any_weaker (λ frame. frame.path ≡ path) (λ frame. is_prefix path frame.path ≡ true) (λ frame e. ap (is_prefix path) e ∙ under_itself path) frames has)

  -- ---- after the frames

  abbrev whole : Table
  whole = after_frames now frames table

  abbrev whole_other : Table
  whole_other = after_frames now frames other

  agree : AgreeAt Kept whole whole_other
  agree = agree_frames Kept now frames table other kept_frame (record { tasks = kept_same; opens = opens_same table other order second same })

  whole_ended : (path : List ℕ) → has_ended whole path ≡ has_ended whole_other path
  whole_ended = ended_same whole whole_other (order_frames now frames table order) (order_frames now frames other second) agree.opens

  -- a caller's callee is kept
  callee_kept : (path : List ℕ) (task : Task) → task_at whole path ≡ Some task → (child : ℕ) (into : Option ℕ) (state : TaskState) → task.phase ≡ calling child into state → Kept (child_path path child)
  callee_kept path task there child into state e = by (either_path path frames)
    where
      by : HasPath path frames ⊎ (HasPath path frames → ⊥) → Kept (child_path path child)
      by (inr none) = inl (subst (IsQuiet table path) e (quiet_at table table path task quiet (sym (at_no_frame now frames table path none) ∙ there)))
      by (inl has) =
          let found = frame_of_path path frames has in
          let o : Some (new_at now table found.0) ≡ Some task = sym (at_one_frame now frames table found.0 are.differ found.1) ∙ ap (task_at whole) found.2 ∙ there in
          let t : new_at now table found.0 ≡ task = cc in
          let call = calls_by now (children_made (task_at table found.0.path) + children_in found.0.items) found.0.status child into state (ap (λ (one : Task). one.phase) t ∙ e) in
          kept_frame (child_path path child)
          (subst (λ p. HasPath p frames) (ap (λ n. child_path found.0.path n) (sym call.1) ∙ ap (λ p. child_path p child) found.2) (are.calls found.0 found.1 into state call.0))

  -- an anchor has come in both or in neither
  anchor_same : (path : List ℕ) (task : Task) → Kept path → task_at whole path ≡ Some task → (to : ℕ) (edge : Edge) (start : ℕ) (state : TaskState) → task.phase ≡ anchored to edge start state →
      has_come whole to edge ≡ has_come whole_other to edge
  anchor_same path task kept there to End start state e = whole_ended (root to)
  anchor_same path task kept there to Start start state e = by (either_path (root to) frames)
    where
      none_here : HasPath path frames → ⊥
      none_here has =
          let found = frame_of_path path frames has in
          let o : Some (new_at now table found.0) ≡ Some task = sym (at_one_frame now frames table found.0 are.differ found.1) ∙ ap (task_at whole) found.2 ∙ there in
          let t : new_at now table found.0 ≡ task = cc in
          anchors_never now (children_made (task_at table found.0.path) + children_in found.0.items) found.0.status to Start start state (ap (λ (one : Task). one.phase) t ∙ e)

      before : task_at table path ≡ Some task
      before = sym (at_no_frame now frames table path none_here) ∙ there

      first : has_begun (task_at table (root to)) ≡ false
      first = subst (IsQuiet table path) e (quiet_at table table path task quiet before)

      again : has_begun (task_at other (root to)) ≡ false
      again = subst (IsQuiet other path) e (quiet_at other other path task still (sym (kept_same path kept) ∙ before))

      by : HasPath (root to) frames ⊎ (HasPath (root to) frames → ⊥) → has_begun (task_at whole (root to)) ≡ has_begun (task_at whole_other (root to))
      by (inl has) = ap has_begun (agree.tasks (root to) (kept_frame (root to) has))
      by (inr none) = ap has_begun (at_no_frame now frames table (root to) none) ∙ first ∙ sym (ap has_begun (at_no_frame now frames other (root to) none) ∙ again)

  -- ---- who goes on

  back_same : (path : List ℕ) (child : ℕ) (into : Option ℕ) (state : TaskState) (ended : Bool) (first again : Option Task) → first ≡ again →
      due_phase whole now (if ended then ready (with_result into (result_of first) state) else calling child into state)
      ≡ due_phase whole_other now (if ended then ready (with_result into (result_of again) state) else calling child into state)
  back_same path child into state true first again e = ap (λ o. ready (with_result into (result_of o) state)) e
  back_same path child into state false first again e = refl

  goes_by : (path : List ℕ) (task : Task) → Kept path → task_at whole path ≡ Some task → (phase : TaskPhase) → task.phase ≡ phase →
      due_phase whole now (back whole path phase) ≡ due_phase whole_other now (back whole_other path phase)
  goes_by path task kept there (calling child into state) e =
      back_same path child into state (has_ended whole (child_path path child)) (task_at whole (child_path path child)) (task_at whole_other (child_path path child))
      (agree.tasks (child_path path child) (callee_kept path task there child into state e))
      ∙ ap (λ b. due_phase whole_other now (if b then ready (with_result into (result_of (task_at whole_other (child_path path child))) state) else calling child into state)) (whole_ended (child_path path child))
  goes_by path task kept there (anchored to edge start state) e = rw (anchor_same path task kept there to edge start state e) refl
  goes_by path task kept there (ready state) e = refl
  goes_by path task kept there (delayed until state) e = refl
  goes_by path task kept there (waiting condition state) e = refl
  goes_by path task kept there (over result) e = refl

  gone_same : (path : List ℕ) → Kept path → (found : Option Task) → task_at whole path ≡ found → changed_at (gone_on whole now) path found ≡ changed_at (gone_on whole_other now) path found
  gone_same path kept None there = refl
  gone_same path kept (Some task) there = ap (λ (phase : TaskPhase). Some (record task { phase = phase })) (goes_by path task kept there task.phase refl)

  gone_open : (of : Table) (path : List ℕ) (task : Task) → is_open (gone_on of now path task).phase ≡ is_open task.phase
  gone_open of path task = due_open of now (back of path task.phase) ∙ back_open of path task.phase

  pub batch_same : SameLive (after_batch now frames table) (after_batch now frames other)
  batch_same = record {
    ended = λ path.
        ended_each (gone_on whole now) (gone_open whole) (λ p t. refl) whole path ∙ whole_ended path
        ∙ sym (ended_each (gone_on whole_other now) (gone_open whole_other) (λ p t. refl) whole_other path);
    tasks = λ path e.
        let kept = live_before now frames table path order (sym (ended_each (gone_on whole now) (gone_open whole) (λ p t. refl) whole path) ∙ e) in
        each_at (gone_on whole now) whole path ∙ gone_same path kept (task_at whole path) refl
        ∙ ap (changed_at (gone_on whole_other now) path) (agree.tasks path kept) ∙ sym (each_at (gone_on whole_other now) whole_other path);
  }
