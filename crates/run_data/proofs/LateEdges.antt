-- Edges come once and for all.
use Rattle.std.proofs.Common.{◌≡◌, ◌⊎◌, inl, inr, ℕ, zero, suc, ◌+◌, ◌-◌, ◌<◌, ◌≤◌, Bool, true, false, cond, List, [], ◌∷◌, length, Option, Some, None, refl, sym, ap, ◌∙◌, subst, IsTrue, arith}
use Rattle.std.proofs.lemmas.Bool.{false≢true}
use Rattle.std.proofs.lemmas.List.{length-append}
use Rattle.std.specs.BTreeMap.{is_at}
use Rattle.aerie_base.specs.declared.models.model.Parts.{Parts}
use Rattle.aerie_base.specs.declared.plans.Edge.{Edge}
use Rattle.aerie_base.specs.declared.plans.Edge.TheVariants.{Start, End}
use Rattle.aerie_base.specs.declared.plans.Plan.{Plan}
use Rattle.aerie_base.specs.models.ValidModel.{valid_model}
use Rattle.aerie_base.specs.Paths.{root, child_path, path_cmp, is_prefix}
use Rattle.aerie_base.specs.plans.OfModel.{IsPlanOf}
use Rattle.effect_cells.specs.declared.effects.CellState.{CellState}
use Rattle.effect_cells.specs.Cells.{passed, first_out}
use Rattle.run_data.specs.TaskFrames.{Frame}
use Rattle.run_data.specs.declared.jobs.Job.{Job}
use Rattle.run_data.specs.declared.runs.Run.{Run}
use Rattle.run_data.specs.Batches.{Batch, limit, failed, committed, batch}
use Rattle.run_data.specs.Endings.{is_open, has_ended, has_begun, has_come, back, gone_on}
use Rattle.run_data.specs.Fresh.{SimulationState, start, next_state, next_by, woken_or_moved, moved, to_time, to_end, after_outcome, least_due, below, IsReached}
use Rattle.run_data.specs.Tasks.{Table, task_at, on_each, ready_jobs, after_frame, after_frames, children_made, woken, rested}
use Rattle.run_data.specs.Transitions.{Next, more, finished, onward, and_on, iterate}
use Rattle.run_data.specs.laws.BatchFrames.{Among, OfReady, OfChild, AreFramesOf}
use Rattle.run_data.specs.laws.Iteration.{result_stays, comes_by_transitions}
use Rattle.run_data.specs.laws.ReachedStates.{IsTableOf}
use Rattle.run_data.specs.laws.EndedTaskLaws.{open_stops}
use Rattle.run_data.specs.laws.OpenTasks.{back_open, due_open, woken_open, rested_open}
use Rattle.run_data.specs.laws.FramesByPath.{new_at}
use Rattle.run_data.specs.TableLaws.{at_with}
use Rattle.run_data.specs.laws.QuietTasks.{come_each}
use Rattle.run_data.proofs.ReachedStates.{reached_is_of_model, batch_frames}
use Rattle.run_data.specs.laws.LateEdges.{EdgesStay, LateByTime, LateByAbsence}
use Rattle.run_data.specs.laws.LiveAfterFrames.{prefix_child, each_of_among, Under, any_frame, live_before}
use Rattle.run_data.proofs.LateTasks.{frame_long}
use Rattle.run_data.proofs.LatePlaces.{step_later}

-- ---- frames

begun_stays : (now : ℕ) (frames : List Frame) (table : Table) (path : List ℕ) → has_begun (task_at table path) ≡ true → has_begun (task_at (after_frames now frames table) path) ≡ true
begun_stays now [] table path e = e
begun_stays now (frame ∷ rest) table path e =
    begun_stays now rest (after_frame now frame table) path (ap has_begun (at_with table frame.path path (new_at now table frame)) ∙ by (is_at (path_cmp path) frame.path))
  where
    by : (b : Bool) → has_begun (cond b (Some (new_at now table frame)) (task_at table path)) ≡ true
    by true = refl
    by false = e

module _ (model : Parts) (now : ℕ) (frames : List Frame) (table : Table) (is : IsTableOf model table) (are : AreFramesOf table frames) (id : ℕ) (ended : has_ended table (root id) ≡ true) where
  not_under : (most : ℕ) (frame : Frame) → length frame.path < most → Among frame frames → is_prefix (root id) frame.path ≡ true → ⊥
  not_under zero frame short among under = omega arith
  not_under (suc most) frame short among under =
      by (each_of_among (λ one. OfReady table one ⊎ OfChild table frames one) frames frame are.origin among) (λ one less there above. not_under most one less there above)
    where
      by : OfReady table frame ⊎ OfChild table frames frame → ((one : Frame) → length one.path < most → Among one frames → is_prefix (root id) one.path ≡ true → ⊥) → ⊥
      by (inl from) further = false≢true (sym (open_stops (root id) frame.path from.task under (ap is_open from.phase) table from.there) ∙ ended)
      by (inr from) further = go (prefix_child (root id) from.maker.path n (ap (is_prefix (root id)) (sym from.is) ∙ under))
        where
          n : ℕ
          n = children_made (task_at table from.maker.path) + from.number

          long : length frame.path ≡ length from.maker.path + 1
          long = ap length from.is ∙ length-append from.maker.path ((children_made (task_at table from.maker.path) + from.number) ∷ [])

          enough : 2 ≤ length from.maker.path
          enough = frame_long model table is frames are (length from.maker.path + 1) from.maker (omega arith) from.among

          go : (root id ≡ child_path from.maker.path (children_made (task_at table from.maker.path) + from.number)) ⊎ (is_prefix (root id) from.maker.path ≡ true) → ⊥
          go (inl same) = let k : 2 ≡ length frame.path = ap length (same ∙ sym from.is) in omega (arith, k, long, enough)
          go (inr above) = further from.maker (omega (arith, long, short)) from.among above

  ended_stays : has_ended (after_frames now frames table) (root id) ≡ true
  ended_stays = by (has_ended (after_frames now frames table) (root id)) refl
    where
      by : (b : Bool) → has_ended (after_frames now frames table) (root id) ≡ b → b ≡ true
      by true e = refl
      by false e = go (live_before now frames table (root id) is.order e)
        where
          go : (has_ended table (root id) ≡ false) ⊎ Under frames (root id) → false ≡ true
          go (inl f) = sym f ∙ ended
          go (inr under) = let found = any_frame (λ frame. is_prefix (root id) frame.path ≡ true) frames under in absurd (not_under (length found.0.path + 1) found.0 (omega arith) found.1 found.2)

-- ---- one step

module _ (model : Parts) (plan : Plan) (bound : ℕ) (valid : IsTrue (valid_model model)) (is : IsPlanOf model plan) (to : ℕ) (edge : Edge) where
  abbrev Comes : Next SimulationState Run → Type 0
  Comes (more at) = has_come at.table to edge ≡ true
  Comes (finished run) = Unit {0}

  module _ (at : SimulationState) (reached : IsReached model plan bound (more at)) (come : has_come at.table to edge ≡ true) where
    frames_come : (frames : List Frame) → AreFramesOf at.table frames → (kind : Edge) → has_come at.table to kind ≡ true → has_come (after_frames at.time frames at.table) to kind ≡ true
    frames_come frames are Start e = begun_stays at.time frames at.table (root to) e
    frames_come frames are End e = ended_stays model at.time frames at.table (reached_is_of_model model plan bound at valid is reached).table are to e

    outcome_comes : (outcome : Batch) → batch model bound at.spent at.cells (ready_jobs at.cells at.table) ≡ outcome → Comes (after_outcome model plan bound at outcome)
    outcome_comes limit e = tt
    outcome_comes (failed who fault) e = tt
    outcome_comes (committed next touched frames) e =
        let whole = after_frames at.time frames at.table in
        come_each (gone_on whole at.time) (λ path task. due_open whole at.time (back whole path task.phase) ∙ back_open whole path task.phase) (λ path task. refl) whole to edge
        ∙ frames_come frames (batch_frames model plan bound at next touched frames valid is reached e) edge come

    time_comes : (time : ℕ) (cells : List CellState) (out : Option ℕ) → Comes (to_time model plan bound at time cells out)
    time_comes time cells (Some cell) = tt
    time_comes time cells None = come_each (rested time) (λ path task. rested_open time task.phase) (λ path task. refl) at.table to edge ∙ come

    end_comes : (out : Option ℕ) → Comes (to_end model plan bound at out)
    end_comes (Some cell) = tt
    end_comes None = tt

    moved_comes : (time : Option ℕ) → Comes (moved model plan bound at time)
    moved_comes (Some time) = time_comes time (passed at.cells (time - at.time)) (first_out (passed at.cells (time - at.time)))
    moved_comes None = end_comes (first_out (passed at.cells (plan.duration - at.time)))

    judged_comes : (jobs : List (ℕ × Job)) → Comes (woken_or_moved model plan bound at (on_each (woken at.cells) at.table) jobs)
    judged_comes [] = moved_comes (below plan.duration (least_due at.time plan.duration at.cells at.table))
    judged_comes (job ∷ rest) = come_each (woken at.cells) (λ path task. woken_open at.cells task.phase) (λ path task. refl) at.table to edge ∙ come

    next_comes : (jobs : List (ℕ × Job)) → ready_jobs at.cells at.table ≡ jobs → Comes (next_by model plan bound at jobs)
    next_comes [] e = judged_comes (ready_jobs at.cells (on_each (woken at.cells) at.table))
    next_comes (job ∷ rest) e = outcome_comes (batch model bound at.spent at.cells (job ∷ rest)) (ap (batch model bound at.spent at.cells) e)

    step_comes : (next : SimulationState) → next_state model plan bound at ≡ more next → has_come next.table to edge ≡ true
    step_comes next e = subst Comes e (next_comes (ready_jobs at.cells at.table) refl)

  -- ---- many steps

  record OnTheWay (at last : SimulationState) : Type 0 where
    comes : has_come at.table to edge ≡ true → has_come last.table to edge ≡ true
    time : at.time ≤ last.time

  way : (count : ℕ) (at last : SimulationState) → IsReached model plan bound (more at) → iterate SimulationState Run (next_state model plan bound) count (more at) ≡ more last → OnTheWay at last
  way zero at last reached e = let same : at ≡ last = cc in subst (OnTheWay at) same (record { comes = λ h. h; time = omega arith })
  way (suc count) at last reached e = by (next_state model plan bound at) refl (onward reached) e (λ next there f. way count next last there f)
    where
      by : (place : Next SimulationState Run) → next_state model plan bound at ≡ place → IsReached model plan bound place → iterate SimulationState Run (next_state model plan bound) count place ≡ more last →
          ((next : SimulationState) → IsReached model plan bound (more next) → iterate SimulationState Run (next_state model plan bound) count (more next) ≡ more last → OnTheWay next last) → OnTheWay at last
      by (more next) f there e further =
          let rest = further next there e in
          let later = step_later model plan bound at next reached f in
          record { comes = λ h. rest.comes (step_comes at reached h next f); time = omega (arith, later, rest.time) }
      by (finished run) f there e further =
          let k : ◌≡◌ {A = Next SimulationState Run} (finished run) (more last) = sym (result_stays SimulationState Run (next_state model plan bound) count run) ∙ e in absurd (cc)

  -- of two states one leads to the other
  record Leads (at last : SimulationState) : Type 0 where
    count : ℕ
    leads_on : iterate SimulationState Run (next_state model plan bound) count (more at) ≡ more last

  either_leads : (one two : ℕ) (place : Next SimulationState Run) (at last : SimulationState) → iterate SimulationState Run (next_state model plan bound) one place ≡ more at →
      iterate SimulationState Run (next_state model plan bound) two place ≡ more last → Leads at last ⊎ Leads last at
  either_leads zero two place at last e f = inl (record { count = two; leads_on = ap (iterate SimulationState Run (next_state model plan bound) two) (sym e) ∙ f })
  either_leads (suc one) zero place at last e f = inr (record { count = suc one; leads_on = ap (iterate SimulationState Run (next_state model plan bound) (suc one)) (sym f) ∙ e })
  either_leads (suc one) (suc two) place at last e f = either_leads one two (and_on SimulationState Run (next_state model plan bound) place) at last e f

  leads : (at last : SimulationState) → IsReached model plan bound (more at) → IsReached model plan bound (more last) → Leads at last ⊎ Leads last at
  leads at last here there =
      let one = comes_by_transitions SimulationState Run (next_state model plan bound) (start model plan) (more at) here in
      let two = comes_by_transitions SimulationState Run (next_state model plan bound) (start model plan) (more last) there in
      either_leads one.0 two.0 (more (start model plan)) at last one.1 two.1

  ends_here : (at last : SimulationState) (run : Run) → next_state model plan bound last ≡ finished run → Leads last at → last ≡ at
  ends_here at last run e l = by l.count l.leads_on
    where
      by : (count : ℕ) → iterate SimulationState Run (next_state model plan bound) count (more last) ≡ more at → last ≡ at
      by zero f = cc
      by (suc count) f =
          let k : ◌≡◌ {A = Next SimulationState Run} (finished run) (more at) =
          sym (result_stays SimulationState Run (next_state model plan bound) count run) ∙ ap (iterate SimulationState Run (next_state model plan bound) count) (sym e) ∙ f in absurd (cc)

pub edges_stay : EdgesStay
edges_stay model plan bound at next valid is reached e to edge come = step_comes model plan bound valid is to edge at reached come next e

pub late_by_time : LateByTime
late_by_time differs until model plan bound to edge time start_ valid is comes late =
    inr (λ at reached before come. by at reached come (leads model plan bound valid is to edge at comes.before reached comes.is_reached))
  where
    by : (at : SimulationState) → IsReached model plan bound (more at) → has_come at.table to edge ≡ true → Leads model plan bound valid is to edge at comes.before ⊎ Leads model plan bound valid is to edge comes.before at →
        until ≤ at.time + start_
    by at reached come (inl l) = absurd (false≢true (sym comes.not_yet ∙ (way model plan bound valid is to edge l.count at comes.before reached l.leads_on).comes come))
    by at reached come (inr l) =
        let w = way model plan bound valid is to edge l.count comes.before at comes.is_reached l.leads_on in omega (arith, w.time, comes.at_time, late)

pub late_by_absence : LateByAbsence
late_by_absence differs until model plan bound to edge start_ last valid is there none end_ =
    inr (λ at reached before come. by at reached before come end_ (leads model plan bound valid is to edge at last reached there))
  where
    by : (at : SimulationState) → IsReached model plan bound (more at) → at.time < until → has_come at.table to edge ≡ true → (until ≤ last.time) ⊎ ((run : Run) × (next_state model plan bound last ≡ finished run)) →
        Leads model plan bound valid is to edge at last ⊎ Leads model plan bound valid is to edge last at → until ≤ at.time + start_
    by at reached before come end_ (inl l) = absurd (false≢true (sym none ∙ (way model plan bound valid is to edge l.count at last reached l.leads_on).comes come))
    by at reached before come (inl past) (inr l) = let w = way model plan bound valid is to edge l.count last at there l.leads_on in absurd (omega (arith, w.time, past, before))
    by at reached before come (inr over) (inr l) =
        let same = ends_here model plan bound valid is to edge at last over.0 over.1 l in
        absurd (false≢true (sym none ∙ ap (λ (s : SimulationState). has_come s.table to edge) same ∙ come))
