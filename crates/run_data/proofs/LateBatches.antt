-- Tables with the same others have the same others after the same batch.
use Rattle.std.proofs.Common.{◌≡◌, ◌⊎◌, inl, inr, ℕ, suc, ◌+◌, ◌≤◌, Bool, true, false, not, List, [], ◌∷◌, length, Some, None, refl, sym, ap, ◌∙◌, if◌then◌else◌, slice_get, arith}
use Rattle.aerie_base.specs.declared.models.model.Parts.{Parts}
use Rattle.aerie_base.specs.declared.plans.Edge.{Edge}
use Rattle.aerie_base.specs.declared.plans.Edge.TheVariants.{Start, End}
use Rattle.aerie_base.specs.Paths.{root, child_path}
use Rattle.run_data.specs.declared.tasks.TaskState.{TaskState}
use Rattle.run_data.specs.TaskFrames.{Frame}
use Rattle.run_data.specs.Endings.{has_ended, has_begun, has_come, back, due_phase, result_of, with_result, gone_on, after_batch}
use Rattle.run_data.specs.Tasks.{TaskPhase, anchored, ready, delayed, waiting, calling, over, Task, Table, task_at, on_each, after_frames}
use Rattle.run_data.specs.laws.BatchFrames.{HasPath, AreFramesOf}
use Rattle.run_data.specs.laws.GoingOn.{AllQuiet}
use Rattle.run_data.specs.laws.ReachedStates.{IsTableOf}
use Rattle.run_data.specs.laws.EndedTaskLaws.{stands_at}
use Rattle.run_data.specs.laws.OpenTasks.{order_frames}
use Rattle.run_data.specs.laws.FramesByPath.{either_path, frame_of_path, at_no_frame}
use Rattle.std.proofs.lemmas.List.{length-append}
use Rattle.run_data.specs.laws.LateDifferences.{is_of_differing, is_common, common_tasks}
use Rattle.run_data.specs.laws.TableParts.{order_part, part_each, part_at, part_none}
use Rattle.run_data.proofs.LateTasks.{longer_of, stands_long, frame_long, AllRest, ended_others, whole_others, not_come, was_anchored}

each_same : (change other : List ℕ → Task → Task) (table : Table) → ((number : ℕ) (path : List ℕ) (task : Task) → slice_get table number ≡ Some (path, task) → change path task ≡ other path task) →
    on_each change table ≡ on_each other table
each_same change other [] same = refl
each_same change other (entry ∷ rest) same =
    let here = same 0 entry.0 entry.1 refl in
    let further = each_same change other rest (λ number path task at. same (suc number) path task at) in
    λ i. (entry.0, here i) ∷ further i

module _ (differs : ℕ → Bool) (Late Later : ℕ → Edge → ℕ → Type 0) (until : ℕ) (model : Parts) (now : ℕ) (frames : List Frame) (table other : Table) (is : IsTableOf model table) (second : IsTableOf model other)
    (all : AllRest differs Late until table) (rest : AllRest differs Later until other) (quiet : AllQuiet table table) (still : AllQuiet other other) (are : AreFramesOf table frames) (be : AreFramesOf other frames)
    (same : common_tasks differs table ≡ common_tasks differs other) where
  abbrev pub here_whole : Table
  here_whole = after_frames now frames table

  abbrev pub there_whole : Table
  there_whole = after_frames now frames other

  others_same : common_tasks differs here_whole ≡ common_tasks differs there_whole
  others_same =
      whole_others differs Late until model now frames table is all quiet are ∙ ap (after_frames now frames) same
      ∙ sym (whole_others differs Later until model now frames other second rest still be)

  ended_pair : (path : List ℕ) → 2 ≤ length path → is_of_differing differs path ≡ false → has_ended here_whole path ≡ has_ended there_whole path
  ended_pair path long out = sym (ended_others differs here_whole path long out) ∙ ap (λ t. has_ended t path) others_same ∙ ended_others differs there_whole path long out

  at_pair : (path : List ℕ) → is_common differs path ≡ true → task_at here_whole path ≡ task_at there_whole path
  at_pair path e = sym (part_at (is_common differs) here_whole path e) ∙ ap (λ t. task_at t path) others_same ∙ part_at (is_common differs) there_whole path e

  pub come_pair : (to : ℕ) (edge : Edge) → differs to ≡ false → has_come here_whole to edge ≡ has_come there_whole to edge
  come_pair to Start e = ap has_begun (at_pair (root to) (ap not e))
  come_pair to End e = ended_pair (root to) (omega arith) e

  anchor_pair : (path : List ℕ) (task : Task) → task_at here_whole path ≡ Some task → task_at there_whole path ≡ Some task → (to : ℕ) (edge : Edge) (start : ℕ) (state : TaskState) →
      task.phase ≡ anchored to edge start state → has_come here_whole to edge ≡ has_come there_whole to edge
  anchor_pair path task there again to edge start state e = by (differs to) refl
    where
      by : (b : Bool) → differs to ≡ b → has_come here_whole to edge ≡ has_come there_whole to edge
      by true d =
          not_come differs Late until model now frames table is all quiet are to edge d (was_anchored differs Late until model now frames table is all quiet are path task there to edge start state e)
          ∙ sym (not_come differs Later until model now frames other second rest still be to edge d (was_anchored differs Later until model now frames other second rest still be path task again to edge start state e))
      by false d = come_pair to edge d

  phase_pair : (path : List ℕ) (task : Task) → task_at here_whole path ≡ Some task → task_at there_whole path ≡ Some task → 2 ≤ length path → is_of_differing differs path ≡ false → (phase : TaskPhase) →
      task.phase ≡ phase → due_phase here_whole now (back here_whole path phase) ≡ due_phase there_whole now (back there_whole path phase)
  phase_pair path task there again long out (calling child into state) e = by (has_ended there_whole (child_path path child)) (ended_pair (child_path path child) longer outer) (at_pair (child_path path child) (ap not outer))
    where
      longer : 2 ≤ length (child_path path child)
      longer = let k = length-append path (child ∷ []) in omega (arith, k, long)

      outer : is_of_differing differs (child_path path child) ≡ false
      outer = longer_of differs path child long ∙ out

      by : (b : Bool) → has_ended here_whole (child_path path child) ≡ b → task_at here_whole (child_path path child) ≡ task_at there_whole (child_path path child) →
          due_phase here_whole now (if has_ended here_whole (child_path path child) then ready (with_result into (result_of (task_at here_whole (child_path path child))) state) else calling child into state)
          ≡ due_phase there_whole now (if b then ready (with_result into (result_of (task_at there_whole (child_path path child))) state) else calling child into state)
      by true f g = rw (f, g) refl
      by false f g = rw f refl
  phase_pair path task there again long out (anchored to edge start state) e = rw (anchor_pair path task there again to edge start state e) refl
  phase_pair path task there again long out (ready state) e = refl
  phase_pair path task there again long out (delayed until_ state) e = refl
  phase_pair path task there again long out (waiting condition state) e = refl
  phase_pair path task there again long out (over result) e = refl

  whole_long : (path : List ℕ) (task : Task) → task_at here_whole path ≡ Some task → 2 ≤ length path
  whole_long path task there = by (either_path path frames)
    where
      by : HasPath path frames ⊎ (HasPath path frames → ⊥) → 2 ≤ length path
      by (inl has) =
          let found = frame_of_path path frames has in
          let long = frame_long model table is frames are (length found.0.path + 1) found.0 (omega arith) found.1 in
          let e : length found.0.path ≡ length path = ap length found.2 in omega (arith, long, e)
      by (inr none) = stands_long model table is path task (sym (at_no_frame now frames table path none) ∙ there)

  kept_is : (b : Bool) (path : List ℕ) (task : Task) → is_of_differing differs path ≡ b → task_at (common_tasks differs here_whole) path ≡ Some task → b ≡ false
  kept_is true path task e there = let k : None ≡ Some task = sym (part_none (is_common differs) here_whole path (ap not e)) ∙ there in absurd (cc)
  kept_is false path task e there = refl

  gone_pair : (number : ℕ) (path : List ℕ) (task : Task) → slice_get (common_tasks differs here_whole) number ≡ Some (path, task) → gone_on here_whole now path task ≡ gone_on there_whole now path task
  gone_pair number path task at =
      let stands = stands_at (common_tasks differs here_whole) number path task (order_part (is_common differs) here_whole (order_frames now frames table is.order)) at in
      let out : is_of_differing differs path ≡ false = (let k = kept_is (is_of_differing differs path) path task refl stands in k) in
      let there : task_at here_whole path ≡ Some task = sym (part_at (is_common differs) here_whole path (ap not out)) ∙ stands in
      let again : task_at there_whole path ≡ Some task = sym (at_pair path (ap not out)) ∙ there in
      ap (λ (phase : TaskPhase). record task { phase = phase }) (phase_pair path task there again (whole_long path task there) out task.phase refl)

  pub others_after : common_tasks differs (after_batch now frames table) ≡ common_tasks differs (after_batch now frames other)
  others_after =
      part_each (is_common differs) (gone_on here_whole now) here_whole ∙ each_same (gone_on here_whole now) (gone_on there_whole now) (common_tasks differs here_whole) gone_pair
      ∙ ap (on_each (gone_on there_whole now)) others_same ∙ sym (part_each (is_common differs) (gone_on there_whole now) there_whole)
