-- Callers and anchored tasks go on after a batch, one after another.
use Rattle.std.proofs.Common.{◌≡◌, ℕ, zero, suc, Bool, true, false, cond, not, ◌&&◌, ◌||◌, List, [], ◌∷◌, Option, Some, None, refl, sym, ap, ◌∙◌, subst, slice_set, if◌then◌else◌}
use Rattle.std.specs.BTreeMap.{is_at}
use Rattle.std.specs.List.{slice_get}
use Rattle.aerie_base.specs.declared.plans.Edge.{Edge}
use Rattle.aerie_base.specs.declared.plans.Edge.TheVariants.{Start, End}
use Rattle.aerie_base.specs.Paths.{path_cmp, is_prefix, child_path, root}
use Rattle.run_data.specs.declared.tasks.TaskState.{TaskState}
use Rattle.run_data.specs.Endings.{is_open, has_ended, back, due_phase, has_come, has_begun, result_of, result_of_phase, with_result, gone_on}
use Rattle.run_data.specs.Tasks.{TaskPhase, anchored, ready, delayed, waiting, calling, over, Task, Table, task_at, on_each, after_delay}
use Rattle.run_data.specs.laws.GoingOn.{EndsAs, GoOnInTurn, AllGoneOn}
use Rattle.run_data.specs.laws.NumberedTasks.{sorted_tasks, Distinct}
use Rattle.run_data.specs.laws.EndedTaskLaws.{ended_in_order}
use Rattle.run_data.specs.NumberLaws.{in_order_set, at_number, keys_set, same_keys, each_set}
use Rattle.run_data.specs.TableLaws.{at_with, is_same}

-- ---- judged on either table

come_same : (whole tasks : Table) → EndsAs whole tasks → (to : ℕ) (edge : Edge) → has_come (sorted_tasks tasks) to edge ≡ has_come whole to edge
come_same whole tasks ends to Start = ends.begun (root to)
come_same whole tasks ends to End = ends.ended (root to)

back_same : (whole tasks : Table) → EndsAs whole tasks → (path : List ℕ) (phase : TaskPhase) → back (sorted_tasks tasks) path phase ≡ back whole path phase
back_same whole tasks ends path (calling child into state) = rw (ends.ended (child_path path child), ends.results (child_path path child)) refl
back_same whole tasks ends path (anchored to edge start state) = refl
back_same whole tasks ends path (ready state) = refl
back_same whole tasks ends path (delayed until state) = refl
back_same whole tasks ends path (waiting condition state) = refl
back_same whole tasks ends path (over result) = refl

due_same : (whole tasks : Table) → EndsAs whole tasks → (now : ℕ) (phase : TaskPhase) → due_phase (sorted_tasks tasks) now phase ≡ due_phase whole now phase
due_same whole tasks ends now (anchored to edge start state) = rw (come_same whole tasks ends to edge) refl
due_same whole tasks ends now (ready state) = refl
due_same whole tasks ends now (delayed until state) = refl
due_same whole tasks ends now (waiting condition state) = refl
due_same whole tasks ends now (calling child into state) = refl
due_same whole tasks ends now (over result) = refl

gone_same : (whole tasks : Table) → EndsAs whole tasks → (now : ℕ) (path : List ℕ) (task : Task) → gone_on (sorted_tasks tasks) now path task ≡ gone_on whole now path task
gone_same whole tasks ends now path task =
    let k : due_phase (sorted_tasks tasks) now (back (sorted_tasks tasks) path task.phase) ≡ due_phase whole now (back whole path task.phase) =
    due_same whole tasks ends now (back (sorted_tasks tasks) path task.phase) ∙ ap (due_phase whole now) (back_same whole tasks ends path task.phase) in
    ap (λ (phase : TaskPhase). record task { phase = phase }) k

-- ---- what stays with a task that goes on

module _ (whole : Table) (now : ℕ) (path : List ℕ) where
  went : TaskPhase → TaskPhase
  went phase = due_phase whole now (back whole path phase)

  delay_open : (n : ℕ) (state : TaskState) → is_open (after_delay now n state) ≡ true
  delay_open zero state = refl
  delay_open (suc n) state = refl

  delay_none : (n : ℕ) (state : TaskState) → result_of_phase (after_delay now n state) ≡ None
  delay_none zero state = refl
  delay_none (suc n) state = refl

  delay_goes : (n : ℕ) (state : TaskState) → due_phase whole now (back whole path (after_delay now n state)) ≡ after_delay now n state
  delay_goes zero state = refl
  delay_goes (suc n) state = refl

  record Stays (phase : TaskPhase) : Type 0 where
    open_ : is_open (due_phase whole now (back whole path phase)) ≡ is_open phase
    result : result_of_phase (due_phase whole now (back whole path phase)) ≡ result_of_phase phase
    twice : due_phase whole now (back whole path (due_phase whole now (back whole path phase))) ≡ due_phase whole now (back whole path phase)

  anchored_stays : (to : ℕ) (edge : Edge) (start : ℕ) (state : TaskState) → Stays (anchored to edge start state)
  anchored_stays to edge start state = record {
    open_ = open_by (has_come whole to edge);
    result = result_by (has_come whole to edge);
    twice = twice_by (has_come whole to edge) refl;
  }
    where
      open_by : (b : Bool) → is_open (if b then after_delay now start state else anchored to edge start state) ≡ true
      open_by true = delay_open start state
      open_by false = refl

      result_by : (b : Bool) → result_of_phase (if b then after_delay now start state else anchored to edge start state) ≡ None
      result_by true = delay_none start state
      result_by false = refl

      twice_by : (b : Bool) → has_come whole to edge ≡ b →
          due_phase whole now (back whole path (if b then after_delay now start state else anchored to edge start state)) ≡ (if b then after_delay now start state else anchored to edge start state)
      twice_by true e = delay_goes start state
      twice_by false e = rw e refl

  calling_stays : (child : ℕ) (into : Option ℕ) (state : TaskState) → Stays (calling child into state)
  calling_stays child into state = record {
    open_ = open_by (has_ended whole (child_path path child));
    result = result_by (has_ended whole (child_path path child));
    twice = twice_by (has_ended whole (child_path path child)) refl;
  }
    where
      next : TaskState
      next = with_result into (result_of (task_at whole (child_path path child))) state

      open_by : (b : Bool) → is_open (due_phase whole now (if b then ready next else calling child into state)) ≡ true
      open_by true = refl
      open_by false = refl

      result_by : (b : Bool) → result_of_phase (due_phase whole now (if b then ready next else calling child into state)) ≡ None
      result_by true = refl
      result_by false = refl

      twice_by : (b : Bool) → has_ended whole (child_path path child) ≡ b →
          due_phase whole now (back whole path (due_phase whole now (if b then ready next else calling child into state))) ≡ due_phase whole now (if b then ready next else calling child into state)
      twice_by true e = refl
      twice_by false e = rw e refl

  stays : (phase : TaskPhase) → Stays phase
  stays (anchored to edge start state) = anchored_stays to edge start state
  stays (calling child into state) = calling_stays child into state
  stays (ready state) = record { open_ = refl; result = refl; twice = refl }
  stays (delayed until state) = record { open_ = refl; result = refl; twice = refl }
  stays (waiting condition state) = record { open_ = refl; result = refl; twice = refl }
  stays (over result) = record { open_ = refl; result = refl; twice = refl }

-- ---- one of the tasks

ended_set : (tasks : Table) (number : ℕ) (path : List ℕ) (old new : Task) (whose : List ℕ) → slice_get tasks number ≡ Some (path, old) → is_open new.phase ≡ is_open old.phase →
    has_ended (slice_set tasks number (path, new)) whose ≡ has_ended tasks whose
ended_set [] number path old new whose at same = absurd (cc)
ended_set (entry ∷ rest) zero path old new whose at same = let k : entry.0 ≡ path = cc in let v : entry.1 ≡ old = cc in rw (k, v, same) refl
ended_set (entry ∷ rest) (suc number) path old new whose at same = ap (λ b. (not (is_prefix whose entry.0) || not (is_open entry.1.phase)) && b) (ended_set rest number path old new whose at same)

module _ (tasks : Table) (number : ℕ) (path : List ℕ) (old new : Task) (distinct : Distinct tasks) (at : slice_get tasks number ≡ Some (path, old)) where
  ended_after : is_open new.phase ≡ is_open old.phase → (whose : List ℕ) → has_ended (sorted_tasks (slice_set tasks number (path, new))) whose ≡ has_ended (sorted_tasks tasks) whose
  ended_after same whose =
      ended_in_order whose (slice_set tasks number (path, new)) (same_keys tasks (slice_set tasks number (path, new)) (keys_set tasks number path old new at) distinct)
      ∙ ended_set tasks number path old new whose at same ∙ sym (ended_in_order whose tasks distinct)

  -- what is the same of both tasks is the same at each path
  look_after : {X : Type 0} (look : Option Task → X) → look (Some new) ≡ look (Some old) → (whose : List ℕ) → look (task_at (sorted_tasks (slice_set tasks number (path, new))) whose) ≡ look (task_at (sorted_tasks tasks) whose)
  look_after look same whose =
      ap look (ap (λ t. task_at t whose) (in_order_set tasks number path old new distinct at) ∙ at_with (sorted_tasks tasks) path whose new) ∙ by (is_at (path_cmp whose) path) refl
    where
      by : (b : Bool) → is_at (path_cmp whose) path ≡ b → look (cond b (Some new) (task_at (sorted_tasks tasks) whose)) ≡ look (task_at (sorted_tasks tasks) whose)
      by true e =
          let k : whose ≡ path = is_same whose path e in
          let there : task_at (sorted_tasks tasks) whose ≡ Some old = subst (λ p. task_at (sorted_tasks tasks) p ≡ Some old) (sym k) (at_number tasks number path old distinct at) in
          same ∙ ap look (sym there)
      by false e = refl

pub go_on_in_turn : GoOnInTurn
go_on_in_turn now whole tasks number path task distinct ends at =
    subst (λ (new : Task). EndsAs whole (slice_set tasks number (path, new)) × (on_each (gone_on whole now) (slice_set tasks number (path, new)) ≡ on_each (gone_on whole now) tasks))
    (sym (gone_same whole tasks ends now path task)) (
      record {
        ended = λ whose. ended_after tasks number path task new distinct at k.open_ whose ∙ ends.ended whose;
        results = λ whose. look_after tasks number path task new distinct at result_of k.result whose ∙ ends.results whose;
        begun = λ whose. look_after tasks number path task new distinct at has_begun refl whose ∙ ends.begun whose;
      },
      each_set (gone_on whole now) tasks number path task new at (ap (λ (phase : TaskPhase). record task { phase = phase }) k.twice),
    )
  where
    new : Task
    new = gone_on whole now path task

    k : Stays whole now path task.phase
    k = stays whole now path task.phase

pub all_gone_on : AllGoneOn
all_gone_on now whole tasks ends still = go tasks (λ number path task at. sym (gone_same whole tasks ends now path task) ∙ still number path task at)
  where
    go : (others : Table) → ((number : ℕ) (path : List ℕ) (task : Task) → slice_get others number ≡ Some (path, task) → gone_on whole now path task ≡ task) → on_each (gone_on whole now) others ≡ others
    go [] same = refl
    go (entry ∷ rest) same = rw (same 0 entry.0 entry.1 refl, go rest (λ number path task at. same (suc number) path task at)) refl
