-- A file of lemmas: what it proves need not be read to trust a clause.
--
-- Which tasks go on after a batch.
use Rattle.std.proofs.Common.{◌≡◌, ℕ, zero, suc, ◌+◌, Bool, true, false, cond, List, [], ◌∷◌, Option, Some, refl, sym, ap, ◌∙◌, if◌then◌else◌}
use Rattle.std.specs.BTreeMap.{is_at}
use Rattle.aerie_base.specs.declared.plans.Edge.{Edge}
use Rattle.aerie_base.specs.declared.plans.Edge.TheVariants.{Start, End}
use Rattle.aerie_base.specs.Paths.{path_cmp, child_path, root}
use Rattle.run_data.specs.declared.tasks.TaskState.{TaskState}
use Rattle.run_data.specs.TaskFrames.{Frame}
use Rattle.run_data.specs.Endings.{is_open, has_ended, back, due_phase, has_come, has_begun, result_of, with_result, gone_on}
use Rattle.run_data.specs.Tasks.{TaskPhase, anchored, ready, delayed, waiting, calling, over, Task, Table, task_at, on_each, after_frame, after_frames, task_after, after_delay, children_made, children_in}
use Rattle.run_data.specs.laws.GoingOn.{HasFrame, at_first, at_later, IsQuiet, AllQuiet, MayComeBy, MayGoOnBy, OthersStay, QuietAfter, NoneGoesOn, GoOnOnce}
use Rattle.run_data.specs.laws.OrderedTables.{IsOrderedTable}
use Rattle.run_data.specs.laws.EndedTaskLaws.{ended_by_frames}
use Rattle.run_data.specs.laws.OpenTasks.{back_open, due_open}
use Rattle.run_data.specs.TableLaws.{at_with, is_same}

-- ---- by frames

begun_by_frames : (now : ℕ) (frames : List Frame) (table : Table) (path : List ℕ) → has_begun (task_at table path) ≡ false → has_begun (task_at (after_frames now frames table) path) ≡ true → HasFrame path frames
begun_by_frames now [] table path before after = absurd (cc)
begun_by_frames now (frame ∷ rest) table path before after =
    by (is_at (path_cmp path) frame.path) refl (λ b. begun_by_frames now rest (after_frame now frame table) path b after)
  where
    new : Task
    new = task_after now frame.status (children_made (task_at table frame.path) + children_in frame.items)

    by : (b : Bool) → is_at (path_cmp path) frame.path ≡ b → (has_begun (task_at (after_frame now frame table) path) ≡ false → HasFrame path rest) → HasFrame path (frame ∷ rest)
    by true e further = at_first (sym (is_same path frame.path e))
    by false e further = at_later (further (ap has_begun (at_with table frame.path path new ∙ ap (λ b. cond b (Some new) (task_at table path)) e) ∙ before))

module _ (now : ℕ) (frames : List Frame) (table : Table) (path : List ℕ) (order : IsOrderedTable table) where
  not_come : (to : ℕ) (edge : Edge) → has_come table to edge ≡ false → (MayComeBy frames to edge → ⊥) → has_come (after_frames now frames table) to edge ≡ false
  not_come to Start before none = by (has_come (after_frames now frames table) to Start) refl
    where
      by : (b : Bool) → has_come (after_frames now frames table) to Start ≡ b → b ≡ false
      by false e = refl
      by true e = absurd (none (begun_by_frames now frames table (root to) before e))
  not_come to End before none = by (has_come (after_frames now frames table) to End) refl
    where
      by : (b : Bool) → has_come (after_frames now frames table) to End ≡ b → b ≡ false
      by false e = refl
      by true e = absurd (none (ended_by_frames now frames table (root to) order before e))

  not_ended : (child : ℕ) (into : Option ℕ) (state : TaskState) → has_ended table (child_path path child) ≡ false → (MayGoOnBy frames path (calling child into state) → ⊥) →
      has_ended (after_frames now frames table) (child_path path child) ≡ false
  not_ended child into state before none = by (has_ended (after_frames now frames table) (child_path path child)) refl
    where
      by : (b : Bool) → has_ended (after_frames now frames table) (child_path path child) ≡ b → b ≡ false
      by false e = refl
      by true e = absurd (none (ended_by_frames now frames table (child_path path child) order before e))

  stays : (phase : TaskPhase) → IsQuiet table path phase → (MayGoOnBy frames path phase → ⊥) →
      due_phase (after_frames now frames table) now (back (after_frames now frames table) path phase) ≡ phase
  stays (calling child into state) quiet none = rw (not_ended child into state quiet none) refl
  stays (anchored to edge start state) quiet none = rw (not_come to edge quiet none) refl
  stays (ready state) quiet none = refl
  stays (delayed until state) quiet none = refl
  stays (waiting condition state) quiet none = refl
  stays (over result) quiet none = refl

pub others_stay : OthersStay
others_stay now frames table path task order quiet none = ap (λ (phase : TaskPhase). record task { phase = phase }) (stays now frames table path order task.phase quiet none)

quiet_delay : (whole : Table) (path : List ℕ) (now n : ℕ) (state : TaskState) → IsQuiet whole path (after_delay now n state)
quiet_delay whole path now zero state = tt
quiet_delay whole path now (suc n) state = tt

quiet : (now : ℕ) (whole : Table) (path : List ℕ) (phase : TaskPhase) → IsQuiet whole path (due_phase whole now (back whole path phase))
quiet now whole path (calling child into state) = by (has_ended whole (child_path path child)) refl
  where
    next : TaskState
    next = with_result into (result_of (task_at whole (child_path path child))) state

    by : (b : Bool) → has_ended whole (child_path path child) ≡ b → IsQuiet whole path (due_phase whole now (if b then ready next else calling child into state))
    by true e = tt
    by false e = e
quiet now whole path (anchored to edge start state) = by (has_come whole to edge) refl
  where
    by : (b : Bool) → has_come whole to edge ≡ b → IsQuiet whole path (if b then after_delay now start state else anchored to edge start state)
    by true e = quiet_delay whole path now start state
    by false e = e
quiet now whole path (ready state) = tt
quiet now whole path (delayed until state) = tt
quiet now whole path (waiting condition state) = tt
quiet now whole path (over result) = tt

pub quiet_after : QuietAfter
quiet_after now whole path task = quiet now whole path task.phase

-- ---- the whole table

quiet_stays : (table : Table) (now : ℕ) (path : List ℕ) (phase : TaskPhase) → IsQuiet table path phase → due_phase table now (back table path phase) ≡ phase
quiet_stays table now path (calling child into state) h = rw h refl
quiet_stays table now path (anchored to edge start state) h = rw h refl
quiet_stays table now path (ready state) h = refl
quiet_stays table now path (delayed until state) h = refl
quiet_stays table now path (waiting condition state) h = refl
quiet_stays table now path (over result) h = refl

none_changes : (now : ℕ) (table others : Table) → AllQuiet table others → on_each (gone_on table now) others ≡ others
none_changes now table [] all = refl
none_changes now table (entry ∷ rest) all =
    let k : gone_on table now entry.0 entry.1 ≡ entry.1 = ap (λ (phase : TaskPhase). record entry.1 { phase = phase }) (quiet_stays table now entry.0 entry.1.phase all.0) in
    rw (k, none_changes now table rest all.1) refl

pub none_goes_on : NoneGoesOn
none_goes_on now table all = none_changes now table table all

-- a change that leaves bodies open and begun leaves what has ended and begun
module _ (change : List ℕ → Task → Task) (open_ : (path : List ℕ) (task : Task) → is_open (change path task).phase ≡ is_open task.phase)
    (begun : (path : List ℕ) (task : Task) → (change path task).begun ≡ task.begun) where
  pub ended_each : (table : Table) (path : List ℕ) → has_ended (on_each change table) path ≡ has_ended table path
  ended_each [] path = refl
  ended_each (entry ∷ rest) path = rw (open_ entry.0 entry.1, ended_each rest path) refl

  pub begun_each : (table : Table) (path : List ℕ) → has_begun (task_at (on_each change table) path) ≡ has_begun (task_at table path)
  begun_each [] path = refl
  begun_each (entry ∷ rest) path = by (is_at (path_cmp path) entry.0) (begun_each rest path)
    where
      by : (b : Bool) → has_begun (task_at (on_each change rest) path) ≡ has_begun (task_at rest path) →
          has_begun (cond b (Some (change entry.0 entry.1)) (task_at (on_each change rest) path)) ≡ has_begun (cond b (Some entry.1) (task_at rest path))
      by true further = begun entry.0 entry.1
      by false further = further

  pub come_each : (table : Table) (to : ℕ) (edge : Edge) → has_come (on_each change table) to edge ≡ has_come table to edge
  come_each table to Start = begun_each table (root to)
  come_each table to End = ended_each table (root to)

  pub quiet_each : (table : Table) (path : List ℕ) (phase : TaskPhase) → IsQuiet table path phase → IsQuiet (on_each change table) path phase
  quiet_each table path (calling child into state) h = ended_each table (child_path path child) ∙ h
  quiet_each table path (anchored to edge start state) h = come_each table to edge ∙ h
  quiet_each table path (ready state) h = tt
  quiet_each table path (delayed until state) h = tt
  quiet_each table path (waiting condition state) h = tt
  quiet_each table path (over result) h = tt

all_quiet : (now : ℕ) (table others : Table) → AllQuiet (on_each (gone_on table now) table) (on_each (gone_on table now) others)
all_quiet now table [] = tt
all_quiet now table (entry ∷ rest) = (
  quiet_each (gone_on table now) (λ path task. due_open table now (back table path task.phase) ∙ back_open table path task.phase) (λ path task. refl) table entry.0
      (gone_on table now entry.0 entry.1).phase (quiet_after now table entry.0 entry.1),
  all_quiet now table rest,
)

pub go_on_once : GoOnOnce
go_on_once now later table =
    let all = all_quiet now table table in (all, none_goes_on later (on_each (gone_on table now) table) all)
