-- The task of a directive that has not begun, in the table of a simulation.
use Rattle.std.proofs.Common.{◌≡◌, inl, inr, ℕ, ◌+◌, ◌<◌, ◌≤◌, nat_lt, Bool, true, false, cond, ◌&&◌, List, [], ◌∷◌, min, Option, Some, None, refl, sym, ap, ◌∙◌, subst, arith}
use Rattle.std.proofs.lemmas.Bool.{ltb-true}
use Rattle.std.specs.BTreeMap.{is_at}
use Rattle.aerie_base.specs.TimeOrder.{earlier}
use Rattle.aerie_base.specs.Paths.{path_cmp, root}
use Rattle.aerie_base.specs.declared.models.model.Parts.{Parts}
use Rattle.aerie_base.specs.declared.plans.Directive.{Directive}
use Rattle.aerie_base.specs.plans.OfModel.{rise_to, ids_of}
use Rattle.effect_cells.specs.declared.effects.CellState.{CellState}
use Rattle.run_data.specs.TaskFrames.{Frame}
use Rattle.run_data.specs.declared.jobs.Job.{Job}
use Rattle.run_data.specs.declared.tasks.TaskState.{TaskState}
use Rattle.run_data.specs.Fresh.{due_time, least_due}
use Rattle.run_data.specs.TaskStates.{activity_begun}
use Rattle.run_data.specs.Tasks.{TaskPhase, anchored, ready, delayed, waiting, calling, over, Task, Table, task_at, with_task, on_each, planned, with_directives, ready_jobs, job_if_ready, after_frame, after_frames, task_after, children_made, children_in}
use Rattle.run_data.specs.laws.BatchFrames.{HasPath}
use Rattle.run_data.specs.laws.OrderedTables.{PutIsThere}
use Rattle.span_table.specs.PlannedSpans.{IsOneOf}
use Rattle.span_table.proofs.Planned.Paths.{at_same, at_itself}

-- a task with this phase stands at a path
pub record HasPhase (table : Table) (path : List ℕ) (phase : TaskPhase) : Type 0 where
  pub task : Task
  pub there : task_at table path ≡ Some task
  pub is : task.phase ≡ phase

-- ---- each task changed

each_at : (change : List ℕ → Task → Task) (path : List ℕ) (table : Table) (task : Task) → task_at table path ≡ Some task →
    (at : List ℕ) × (task_at (on_each change table) path ≡ Some (change at task))
each_at change path [] task there = absurd (cc)
each_at change path (entry ∷ rest) task there = by (is_at (path_cmp path) entry.0) there (each_at change path rest task)
  where
    by : (here : Bool) → cond here (Some entry.1) (task_at rest path) ≡ Some task →
        (task_at rest path ≡ Some task → (at : List ℕ) × (task_at (on_each change rest) path ≡ Some (change at task))) →
        (at : List ℕ) × (cond here (Some (change entry.0 entry.1)) (task_at (on_each change rest) path) ≡ Some (change at task))
    by true e further = let same : entry.1 ≡ task = cc in (entry.0, ap (λ (t : Task). Some (change entry.0 t)) same)
    by false e further = further e

pub phase_changed : (change : List ℕ → Task → Task) (path : List ℕ) (table : Table) (phase next : TaskPhase) →
    ((at : List ℕ) (task : Task) → task.phase ≡ phase → (change at task).phase ≡ next) → HasPhase table path phase → HasPhase (on_each change table) path next
phase_changed change path table phase next changes has =
    let found = each_at change path table has.task has.there in
    record { task = change found.0 has.task; there = found.1; is = changes found.0 has.task has.is }

-- ---- ready tasks

-- a ready task has its job
pub ready_has_job : (cells : List CellState) (path : List ℕ) (state : TaskState) (table : Table) → HasPhase table path (ready state) →
    (job : ℕ × Job) × IsOneOf job (ready_jobs cells table) × (job.1.path ≡ path)
ready_has_job cells path state table has = go table has.task has.there has.is
  where
    go : (table : Table) (task : Task) → task_at table path ≡ Some task → task.phase ≡ ready state → (job : ℕ × Job) × IsOneOf job (ready_jobs cells table) × (job.1.path ≡ path)
    go [] task there is = absurd (cc)
    go (entry ∷ rest) task there is = by (is_at (path_cmp path) entry.0) refl there (go rest task)
      where
        later : (phase : TaskPhase) → (job : ℕ × Job) → IsOneOf job (ready_jobs cells rest) → IsOneOf job (job_if_ready cells entry.0 entry.1 phase (ready_jobs cells rest))
        later (ready state) job among = inr among
        later (anchored to edge start state) job among = among
        later (delayed until state) job among = among
        later (waiting condition state) job among = among
        later (calling child into state) job among = among
        later (over result) job among = among

        by : (here : Bool) → is_at (path_cmp path) entry.0 ≡ here → cond here (Some entry.1) (task_at rest path) ≡ Some task →
            (task_at rest path ≡ Some task → task.phase ≡ ready state → (job : ℕ × Job) × IsOneOf job (ready_jobs cells rest) × (job.1.path ≡ path)) →
            (job : ℕ × Job) × IsOneOf job (ready_jobs cells (entry ∷ rest)) × (job.1.path ≡ path)
        by true at e further =
            let same : entry.1 ≡ task = cc in
            let phase : entry.1.phase ≡ ready state = ap (λ (t : Task). t.phase) same ∙ is in
            let job : ℕ × Job = (entry.1.made, record { path = entry.0; state = state; view = cells }) in (
              job,
              subst (λ (p : TaskPhase). IsOneOf job (job_if_ready cells entry.0 entry.1 p (ready_jobs cells rest))) (sym phase) (inl refl),
              sym (at_same path entry.0 at),
            )
        by false at e further = let found = further e is in (found.0, later entry.1.phase found.0 found.1, found.2)

-- ---- the next time

-- a delay ends no earlier than the least due time
pub least_is_upto : (now horizon : ℕ) (cells : List CellState) (path : List ℕ) (until : ℕ) (state : TaskState) (table : Table) → HasPhase table path (delayed until state) →
    (least : ℕ) × (least_due now horizon cells table ≡ Some least) × (least ≤ until)
least_is_upto now horizon cells path until state table has = go table has.task has.there has.is
  where
    first : (rest : Option ℕ) → (least : ℕ) × (earlier (Some until) rest ≡ Some least) × (least ≤ until)
    first None = (until, refl, omega arith)
    first (Some other) = (min until other, refl, omega arith)

    later : (one : Option ℕ) (least : ℕ) → least ≤ until → (other : ℕ) × (earlier one (Some least) ≡ Some other) × (other ≤ until)
    later None least l = (least, refl, l)
    later (Some one) least l = (min one least, refl, omega (arith, l))

    go : (table : Table) (task : Task) → task_at table path ≡ Some task → task.phase ≡ delayed until state → (least : ℕ) × (least_due now horizon cells table ≡ Some least) × (least ≤ until)
    go [] task there is = absurd (cc)
    go (entry ∷ rest) task there is = by (is_at (path_cmp path) entry.0) there (go rest task)
      where
        by : (here : Bool) → cond here (Some entry.1) (task_at rest path) ≡ Some task →
            (task_at rest path ≡ Some task → task.phase ≡ delayed until state → (least : ℕ) × (least_due now horizon cells rest ≡ Some least) × (least ≤ until)) →
            (least : ℕ) × (earlier (due_time now horizon cells entry.1.phase) (least_due now horizon cells rest) ≡ Some least) × (least ≤ until)
        by true e further =
            let same : entry.1 ≡ task = cc in
            let phase : entry.1.phase ≡ delayed until state = ap (λ (t : Task). t.phase) same ∙ is in
            subst (λ (p : TaskPhase). (least : ℕ) × (earlier (due_time now horizon cells p) (least_due now horizon cells rest) ≡ Some least) × (least ≤ until)) (sym phase)
            (first (least_due now horizon cells rest))
        by false e further =
            let found = further e is in
            subst (λ (o : Option ℕ). (least : ℕ) × (earlier (due_time now horizon cells entry.1.phase) o ≡ Some least) × (least ≤ until)) (sym found.1)
            (later (due_time now horizon cells entry.1.phase) found.0 found.2)

-- ---- tasks put

module _ (put : PutIsThere) where
  apart_at : (path other : List ℕ) → (path ≡ other → ⊥) → is_at (path_cmp path) other ≡ false
  apart_at path other apart = by (is_at (path_cmp path) other) refl
    where
      by : (here : Bool) → is_at (path_cmp path) other ≡ here → here ≡ false
      by true e = absurd (apart (at_same path other e))
      by false e = refl

  put_elsewhere : (table : Table) (path other : List ℕ) (task : Task) → (path ≡ other → ⊥) → task_at (with_task table other task) path ≡ task_at table path
  put_elsewhere table path other task apart =
      put table other path task ∙ ap (λ (here : Bool). cond here (Some task) (task_at table path)) (apart_at path other apart)

  put_here : (table : Table) (path : List ℕ) (task : Task) → task_at (with_task table path task) path ≡ Some task
  put_here table path task = put table path path task ∙ ap (λ (here : Bool). cond here (Some task) (task_at table path)) (at_itself path)

  -- where no frame is, the task is as it was
  pub after_no_frame : (now : ℕ) (path : List ℕ) (frames : List Frame) (table : Table) → (HasPath path frames → ⊥) → task_at (after_frames now frames table) path ≡ task_at table path
  after_no_frame now path [] table none = refl
  after_no_frame now path (frame ∷ rest) table none =
      after_no_frame now path rest (after_frame now frame table) (λ has. none (inr has))
      ∙ put_elsewhere table path frame.path (task_after now frame.status (children_made (task_at table frame.path) + children_in frame.items)) (λ e. none (inl (sym e)))

  -- ---- the tasks of a plan

  -- no directive has this id
  abbrev NoId : ℕ → List Directive → Type 0
  NoId id [] = Unit {0}
  NoId id (directive ∷ rest) = (directive.id ≡ id → ⊥) × NoId id rest

  both : (a b : Bool) → (a && b) ≡ true → (a ≡ true) × (b ≡ true)
  both true true h = (refl, refl)
  both true false h = absurd (cc)
  both false b h = absurd (cc)

  above_none : (next before id : ℕ) (directives : List Directive) → id ≤ before → rise_to next before (ids_of directives) ≡ true → NoId id directives
  above_none next before id [] le rise = tt
  above_none next before id (directive ∷ rest) le rise =
      let parts = both (nat_lt before directive.id) (rise_to next directive.id (ids_of rest)) rise in
      let less : before < directive.id = ltb-true before directive.id parts.0 in
      ((λ e. absurd (omega (arith, less, le, e))), above_none next directive.id id rest (omega (arith, less, le)) parts.1)

  root_same : (id other : ℕ) → root id ≡ root other → other ≡ id
  root_same id other e = cc

  begun_of : Parts → Directive → Task
  begun_of model directive = record { phase = planned directive.anchor directive.start (activity_begun model directive.kind directive.arguments); made = 0; begun = false }

  others_put : (model : Parts) (id : ℕ) (directives : List Directive) (table : Table) → NoId id directives → task_at (with_directives model directives table) (root id) ≡ task_at table (root id)
  others_put model id [] table none = refl
  others_put model id (directive ∷ rest) table none =
      others_put model id rest _ none.1
      ∙ put_elsewhere table (root id) (root directive.id) _ (λ e. none.0 (root_same id directive.id e))

  pub planned_put : (model : Parts) (next before : ℕ) (directive : Directive) (directives : List Directive) (table : Table) → rise_to next before (ids_of directives) ≡ true →
      IsOneOf directive directives → directive.anchor ≡ None →
      HasPhase (with_directives model directives table) (root directive.id) (delayed directive.start (activity_begun model directive.kind directive.arguments))
  planned_put model next before directive [] table rise among loose = absurd among
  planned_put model next before directive (first ∷ rest) table rise (inl same) loose =
      subst (λ (d : Directive). HasPhase (with_directives model (first ∷ rest) table) (root d.id) (delayed d.start (activity_begun model d.kind d.arguments))) same
      (record {
        task = _;
        there = others_put model first.id rest _ (above_none next first.id first.id rest (omega arith) (both (nat_lt before first.id) (rise_to next first.id (ids_of rest)) rise).1)
            ∙ put_here table (root first.id) _;
        is = ap (λ anchor. planned anchor first.start (activity_begun model first.kind first.arguments)) (ap (λ (d : Directive). d.anchor) same ∙ loose);
      })
  planned_put model next before directive (first ∷ rest) table rise (inr among) loose =
      planned_put model next first.id directive rest _ (both (nat_lt before first.id) (rise_to next first.id (ids_of rest)) rise).1 among loose
