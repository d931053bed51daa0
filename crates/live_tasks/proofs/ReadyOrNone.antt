-- Whether a task is ready, by the table and by number.
use Rattle.std.proofs.Common.{◌≡◌, ℕ, Bool, true, false, cond, List, [], ◌∷◌, Option, Some, None, refl, sym, ap, ◌∙◌}
use Rattle.std.proofs.lemmas.Bool.{false≢true}
use Rattle.std.specs.BTreeMap.{is_at}
use Rattle.aerie_base.specs.Paths.{path_cmp}
use Rattle.effect_cells.specs.declared.effects.CellState.{CellState}
use Rattle.run_data.specs.declared.jobs.Job.{Job}
use Rattle.run_data.specs.Tasks.{TaskPhase, anchored, ready, delayed, waiting, calling, over, Task, Table, task_at, job_if_ready, ready_jobs}
use Rattle.run_data.specs.laws.ReadyTasks.{is_ready_phase}
use Rattle.live_tasks.specs.declared.slots.Slot.{Slot}
use Rattle.live_tasks.specs.Listing.{is_ready_slot}
use Rattle.live_tasks.specs.Slots.{Slots, slot_at, AreTable}
use Rattle.live_tasks.proofs.ReadyTasks.{ready_in_order}

-- no task is ready, so there is no job
pub no_jobs : (slots : Slots) (table : Table) → AreTable slots table → ((number : ℕ) → is_ready_slot (slot_at slots number) ≡ false) → (cells : List CellState) → ready_jobs cells table ≡ []
no_jobs slots table are none cells = ready_in_order cells table slots [] are (record {
  sorted = tt;
  each = λ number among. absurd among;
  all = λ number slot at e. absurd (false≢true (sym (none number) ∙ ap is_ready_slot at ∙ e));
})

not_empty : (cells : List CellState) (path : List ℕ) (task : Task) (phase : TaskPhase) (rest : List (ℕ × Job)) → is_ready_phase phase ≡ true → job_if_ready cells path task phase rest ≡ [] → ⊥
not_empty cells path task (ready state) rest e f = cc
not_empty cells path task (anchored to edge start state) rest e f = false≢true e
not_empty cells path task (delayed until state) rest e f = false≢true e
not_empty cells path task (waiting condition state) rest e f = false≢true e
not_empty cells path task (calling child into state) rest e f = false≢true e
not_empty cells path task (over result) rest e f = false≢true e

rest_empty : (cells : List CellState) (path : List ℕ) (task : Task) (phase : TaskPhase) (rest : List (ℕ × Job)) → job_if_ready cells path task phase rest ≡ [] → rest ≡ []
rest_empty cells path task (ready state) rest f = absurd (cc)
rest_empty cells path task (anchored to edge start state) rest f = f
rest_empty cells path task (delayed until state) rest f = f
rest_empty cells path task (waiting condition state) rest f = f
rest_empty cells path task (calling child into state) rest f = f
rest_empty cells path task (over result) rest f = f

job_there : (cells : List CellState) (table : Table) (path : List ℕ) (task : Task) → task_at table path ≡ Some task → is_ready_phase task.phase ≡ true → ready_jobs cells table ≡ [] → ⊥
job_there cells [] path task at e f = cc
job_there cells (entry ∷ rest) path task at e f = by (is_at (path_cmp path) entry.0) at (λ g. job_there cells rest path task g e)
  where
    by : (b : Bool) → cond b (Some entry.1) (task_at rest path) ≡ Some task → (task_at rest path ≡ Some task → ready_jobs cells rest ≡ [] → ⊥) → ⊥
    by true g further =
        let k : entry.1 ≡ task = cc in
        not_empty cells entry.0 entry.1 entry.1.phase (ready_jobs cells rest) (ap (λ (t : Task). is_ready_phase t.phase) k ∙ e) f
    by false g further = further g (rest_empty cells entry.0 entry.1 entry.1.phase (ready_jobs cells rest) f)

-- a task is ready, so there is a job
pub some_job : (slots : Slots) (table : Table) → AreTable slots table → (number : ℕ) → is_ready_slot (slot_at slots number) ≡ true → (cells : List CellState) → ready_jobs cells table ≡ [] → ⊥
some_job slots table are number e cells none = by (slot_at slots number) refl
  where
    by : (found : Option Slot) → slot_at slots number ≡ found → ⊥
    by None f = false≢true (ap is_ready_slot (sym f) ∙ e)
    by (Some slot) f = job_there cells table slot.path slot.task (are.tasks number slot f) (ap is_ready_slot (sym f) ∙ e) none
