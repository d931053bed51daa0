-- A file of lemmas: what it proves need not be read to trust a clause.
--
-- A simulation that was set aside, and where the simulation of another plan goes on from it.
use Rattle.std.proofs.Common.{◌≡◌, ℕ, ◌<◌, ◌≤◌, Bool, true, IsTrue, List, [], ◌∷◌, Option, Some, None, refl, sym, ap, ◌∙◌, subst}
use Rattle.aerie_base.specs.Ranges.{step_limit}
use Rattle.aerie_base.specs.declared.models.model.Parts.{Parts}
use Rattle.aerie_base.specs.declared.plans.Anchor.{Anchor}
use Rattle.aerie_base.specs.declared.plans.Directive.{Directive}
use Rattle.aerie_base.specs.declared.plans.Plan.{Plan}
use Rattle.aerie_base.specs.plans.OfModel.{IsPlanOf}
use Rattle.effect_cells.specs.declared.effects.CellState.{CellState}
use Rattle.run_data.specs.declared.jobs.Job.{Job}
use Rattle.run_data.specs.declared.runs.Run.{Run}
use Rattle.run_data.specs.Fresh.{SimulationState, IsReached}
use Rattle.run_data.specs.Tasks.{Task, Table, task_at, ready_jobs}
use Rattle.run_data.specs.Transitions.{Next, more, finished}
use Rattle.run_data.specs.laws.InstantBeginnings.{InstantsBeginUntouched}
use Rattle.run_data.specs.laws.LateDifferences.{is_of_differing, DifferLate}
use Rattle.run_data.specs.laws.LiveParts.{live}
use Rattle.run_data.specs.laws.Orders.{EachOf}
use Rattle.run_data.specs.laws.PrunedStates.{pruned}
use Rattle.run_data.specs.laws.ReachedStates.{ReachedIsOfModel}
use Rattle.parting.specs.Exchanges.{exchanged, exchanged_state}
use Rattle.parting.specs.LiveExchanges.{LiveIsExchanged, PrunedIsExchanged}
use Rattle.parting.specs.PlainLateness.{StartsPlainlyLate, IsPlainlyLate}
use Rattle.parting.specs.Resuming.{Resumes, SameJobs}
use Rattle.parting.specs.UnbegunDirectives.{IsYetToStart, HaveNotStarted}
use Rattle.live_tasks.specs.Exchanging.{IsYetToBegin, HaveNotBegun, HasNoAnchor, MayExchange}
use Rattle.live_tasks.specs.InStep.{table_in, IsInStep}
use Rattle.live_tasks.specs.Waking.{AreKept, KeepsWakes}
use Rattle.live_tasks.specs.declared.tasks.LiveTasks.{LiveTasks}
use Rattle.engine_core.specs.EngineStates.{EngineState, IsReachedPruned, HasJob, jobs_in, time_in, batches_in, instants_in, spent_in}
use Rattle.engine_core.specs.Bookmarks.{IsSetAside, IsCopyOf, IsCopyFor}
use Rattle.engine_core.specs.PrunedPoints.{HasWhole, has_whole, in_whole, jobs_of_whole}
use Rattle.engine_core.specs.Simulations.{state_of, point_by, point_in, AreTasksAt, AreTasksBefore, IsOnCourse, IsBeforeBatch, StandsAt, engine_state_of}
use Rattle.engine_core.specs.declared.history.History.{History}
use Rattle.engine_core.specs.declared.present.Present.{Present}
use Rattle.engine_core.specs.declared.simulation.Request.{Request}
use Rattle.engine_core.specs.declared.simulation.RunEnd.{RunEnd}
use Rattle.engine_core.specs.declared.simulation.Simulation.{Simulation}
use Rattle.engine_core.proofs.SimulationMoves.{with_tasks}

-- ---- a simulation that was set aside

open_with_job : (request : Request) (history : History) (present : Present) (ending : Option RunEnd) → (jobs_in (point_by request history present ending) ≡ [] → ⊥) → ending ≡ None
open_with_job request history present None job = refl
open_with_job request history present (Some ending) job = absurd (job refl)

-- a job is ready where as many are
has_job_too : (point : Next SimulationState Run) (jobs : List (ℕ × Job)) → jobs_in point ≡ jobs → (jobs ≡ [] → ⊥) → HasJob point
has_job_too (more at) jobs same job = λ none. job (sym same ∙ none)
has_job_too (finished run) jobs same job = tt

module _ (model : Parts) (simulation : Simulation) (aside : IsSetAside model simulation) where
  abbrev at : SimulationState
  at = state_of simulation.history simulation.present

  pub goes_on : simulation.ending ≡ None
  goes_on = open_with_job simulation.request simulation.history simulation.present simulation.ending aside.job

  pub point_is : ◌≡◌ {A = Next SimulationState Run} (point_in simulation) (more at)
  point_is = ap (point_by simulation.request simulation.history simulation.present) goes_on

  pub tasks : AreTasksAt simulation.request.plan.duration simulation.present
  tasks = subst (AreTasksBefore simulation.request.plan.duration simulation.present) goes_on aside.course.tasks

  pub in_step : IsInStep simulation.present.tasks
  in_step = tasks.in_step

  from : HasWhole model simulation.request.plan simulation.request.bound at
  from = has_whole model simulation.request.plan simulation.request.bound at
      (subst (IsReachedPruned model simulation.request.plan simulation.request.bound) point_is aside.course.reached)

  pub no_batches : simulation.history.batches ≡ []
  no_batches = sym (ap batches_in point_is) ∙ aside.begins

  pub no_touched : InstantsBeginUntouched → simulation.history.touched ≡ []
  no_touched untouched =
      sym (ap (λ (s : SimulationState). s.touched) from.is)
      ∙ (untouched model simulation.request.plan simulation.request.bound from.whole from.reached (ap (λ (s : SimulationState). s.batches) from.is ∙ no_batches)).0

  -- ---- copies

  module _ (request : Request) (copy : Simulation) (is : IsCopyFor request simulation copy) where
    same_state : state_of copy.history copy.present ≡ at
    same_state i = record {
      time = is.present.time i;
      cells = is.present.cells i;
      spent = is.present.spent i;
      table = is.present.table i;
      instants = (is.history i).instants;
      batches = (is.history i).batches;
      touched = (is.history i).touched;
    }

    -- with tasks that keep their wake times
    kept_at : (later : LiveTasks) → KeepsWakes copy.present.tasks later → request.plan.duration ≡ simulation.request.plan.duration →
        AreKept copy.present.time copy.request.plan.duration copy.present.cells later
    kept_at later keeps long =
        keeps copy.present.time copy.request.plan.duration copy.present.cells
        (subst (λ (r : Request). AreKept copy.present.time r.plan.duration copy.present.cells copy.present.tasks) (sym is.request)
        (subst (λ n. AreKept copy.present.time n copy.present.cells copy.present.tasks) (sym long)
        (subst (λ (cells : List CellState). AreKept copy.present.time simulation.request.plan.duration cells copy.present.tasks) (sym is.present.cells)
        (subst (λ n. AreKept n simulation.request.plan.duration simulation.present.cells copy.present.tasks) (sym is.present.time)
        (is.present.kept simulation.present.time simulation.request.plan.duration simulation.present.cells tasks.kept)))))

    -- with other tasks, whose table is known
    stands_with : (later : LiveTasks) (table : Table) → table_in later ≡ table → IsInStep later → KeepsWakes copy.present.tasks later →
        request.plan.duration ≡ simulation.request.plan.duration → StandsAt request (more (record at { table = table })) (with_tasks copy later)
    stands_with later table has in_step_too keeps long = record {
      request = is.request;
      point =
          ap (point_by copy.request copy.history (record copy.present { tasks = later })) is.open_
          ∙ (λ i. more (record (same_state i) { table = has i }));
      tasks =
          subst (AreTasksBefore copy.request.plan.duration (record copy.present { tasks = later })) (sym is.open_)
          (record { in_step = in_step_too; kept = kept_at later keeps long });
    }

  module _ (copy : Simulation) (is : IsCopyFor simulation.request simulation copy) where
    stands_too : StandsAt simulation.request (more at) copy
    stands_too = stands_with simulation.request copy is copy.present.tasks at.table is.present.table is.present.in_step (λ now horizon cells kept. kept) refl

    -- a copy for the same request is set aside as well, and it is the same to an engine
    pub same_point : point_in copy ≡ point_in simulation
    same_point = stands_too.point ∙ sym point_is

    pub same_engine : engine_state_of model copy ≡ engine_state_of model simulation
    same_engine i = record { model = model; plan = (is.request i).plan; bound = (is.request i).bound; point = same_point i }

    pub copy_aside : IsSetAside model copy
    copy_aside = record {
      course = record {
        plan = subst (λ (r : Request). IsPlanOf model r.plan) (sym is.request) aside.course.plan;
        bound = subst (λ (r : Request). r.bound ≤ step_limit) (sym is.request) aside.course.bound;
        reached = subst (λ (s : EngineState). IsReachedPruned s.model s.plan s.bound s.point) (sym same_engine) aside.course.reached;
        tasks = stands_too.tasks;
      };
      job = λ none. aside.job (sym (ap jobs_in same_point) ∙ none);
      begins = ap batches_in same_point ∙ aside.begins;
    }

  -- ---- another plan

  module _ (differs : ℕ → Bool) (until : ℕ) (plan : Plan) (bound : ℕ) (ahead : time_in (point_in simulation) < until)
      (late : DifferLate differs until model plan simulation.request.plan bound simulation.request.bound)
      (plain : EachOf (IsPlainlyLate differs until) plan.directives) where
    before : from.whole.time < until
    before = subst (λ n. n < until) (ap time_in point_is ∙ sym (ap (λ (s : SimulationState). s.time) from.is)) ahead

    abbrev begins_with : Request
    begins_with = record { plan = plan; bound = bound }

    abbrev there : SimulationState
    there = exchanged_state differs model plan at

    -- no anchor

    none_if_late : (anchor : Option Anchor) (start : ℕ) → StartsPlainlyLate until anchor start → anchor ≡ None
    none_if_late None start starts = refl
    none_if_late (Some anchor) start starts = absurd starts

    no_anchors : (directives : List Directive) → EachOf (IsPlainlyLate differs until) directives → EachOf (HasNoAnchor differs) directives
    no_anchors [] each = tt
    no_anchors (directive ∷ rest) each = (λ e. none_if_late directive.anchor directive.start (each.0 e), no_anchors rest each.1)

    pub alone : EachOf (HasNoAnchor differs) plan.directives
    alone = no_anchors plan.directives plain

    -- what is exchanged has not begun

    yet_to_begin : (path : List ℕ) (task : Task) → IsYetToStart until path task → IsYetToBegin path task
    yet_to_begin path task yet = record { id = yet.id; path_is = yet.path_is; begun = yet.begun; anchor = None; phase = (yet.start, yet.state, yet.phase) }

    pub unbegun : HaveNotStarted → EachOf (IsPlainlyLate differs until) simulation.request.plan.directives → (table : Table) → table ≡ at.table → HaveNotBegun differs table
    unbegun not_started old_plain table same path task e stands =
        yet_to_begin path task
        (not_started differs until model simulation.request.plan simulation.request.bound late.valid late.old_is old_plain from.whole from.reached before path task e
        (in_whole from.whole.table path task (ap (λ (s : SimulationState). task_at s.table path) from.is ∙ sym (ap (λ (t : Table). task_at t path) same) ∙ stands)))

    module _ (resumes : Resumes) where
      abbrev whole : SimulationState
      whole = exchanged_state differs model plan from.whole

      reached : IsReached model plan bound (more whole)
      reached = resumes differs until model plan simulation.request.plan bound simulation.request.bound late plain from.whole from.reached before

      pub may_exchange : LiveIsExchanged → (table : Table) → table ≡ at.table → MayExchange differs model plan table
      may_exchange is_exchanged table same = record {
        bound = bound;
        at = whole;
        is_reached = reached;
        is_live =
            is_exchanged differs model plan simulation.request.plan simulation.request.bound from.whole late.valid late.old_is from.reached
            ∙ ap (λ (s : SimulationState). exchanged differs model plan s.table) from.is ∙ sym (ap (exchanged differs model plan) same);
      }

      module _ (is_pruned : PrunedIsExchanged) where
        new_from : HasWhole model plan bound there
        new_from = record {
          whole = whole;
          reached = reached;
          is =
              is_pruned differs model plan simulation.request.plan simulation.request.bound from.whole late.valid late.old_is from.reached
              ∙ ap (exchanged_state differs model plan) from.is;
        }

        reached_there : IsReachedPruned model plan bound (more there)
        unfolding new_from
        reached_there = record { whole = more whole; reached = reached; is = ap (λ (s : SimulationState). more s) new_from.is }

        module _ (jobs_stay : SameJobs) (of_model : ReachedIsOfModel) where
          same_jobs : ready_jobs there.cells there.table ≡ ready_jobs at.cells at.table
          unfolding new_from
          same_jobs =
              sym (jobs_of_whole of_model model plan bound late.valid late.is there new_from)
              ∙ jobs_stay differs until model plan simulation.request.plan bound simulation.request.bound late plain from.whole from.reached before
              ∙ jobs_of_whole of_model model simulation.request.plan simulation.request.bound late.valid late.old_is at from

          pub jobs_there : jobs_in (more there) ≡ jobs_in (point_in simulation)
          jobs_there = same_jobs ∙ sym (ap jobs_in point_is)

          -- the simulation that stands there is before a batch
          module _ (next : Simulation) (stands : StandsAt begins_with (more there) next) where
            pub is_before : bound ≤ step_limit → (jobs : List (ℕ × Job)) → jobs ≡ jobs_in (point_in next) → IsBeforeBatch model jobs next
            is_before small jobs ready = record {
              course = record {
                plan = subst (λ (r : Request). IsPlanOf model r.plan) (sym stands.request) late.is;
                bound = subst (λ (r : Request). r.bound ≤ step_limit) (sym stands.request) small;
                reached =
                    subst (λ (p : Next SimulationState Run). IsReachedPruned model next.request.plan next.request.bound p) (sym stands.point)
                    (subst (λ (r : Request). IsReachedPruned model r.plan r.bound (more there)) (sym stands.request) reached_there);
                tasks = stands.tasks;
              };
              has_job = has_job_too (point_in next) (jobs_in (point_in simulation)) (ap jobs_in stands.point ∙ jobs_there) aside.job;
              ready = ready;
            }

    -- the copy with the directives exchanged stands there, and where their jobs are taken
    pub stands_there_too : (copy : Simulation) (is : IsCopyFor begins_with simulation copy) (later : LiveTasks) → table_in later ≡ exchanged differs model plan (table_in copy.present.tasks) →
        IsInStep later → KeepsWakes copy.present.tasks later → StandsAt begins_with (more there) (with_tasks copy later)
    stands_there_too copy is later has in_step_too keeps =
        stands_with begins_with copy is later there.table (has ∙ ap (exchanged differs model plan) is.present.table) in_step_too keeps late.duration

stands_still : (request : Request) (point : Next SimulationState Run) (now next : Simulation) → StandsAt request point now → StandsAt now.request (point_in now) next → StandsAt request point next
stands_still request point now next stands still = record {
  request = still.request ∙ stands.request;
  point = still.point ∙ stands.point;
  tasks = still.tasks;
}

-- ---- what an engine sets aside

pub set_aside_by : (model : Parts) (simulation : Simulation) (engine : EngineState) → engine_state_of model simulation ≡ engine → IsOnCourse model simulation → (jobs_in engine.point ≡ [] → ⊥) →
    batches_in engine.point ≡ [] → IsSetAside model simulation
set_aside_by model simulation engine is course job begins = record {
  course = course;
  job = subst (λ (s : EngineState). jobs_in s.point ≡ [] → ⊥) (sym is) job;
  begins = ap (λ (s : EngineState). batches_in s.point) is ∙ begins;
}

-- ---- a bookmark from which another plan goes on

pub record MayResume (bookmark : EngineState) (differs : ℕ → Bool) (until : ℕ) (model : Parts) (plan : Plan) (bound : ℕ) : Type 0 where
  pub same_model : model ≡ bookmark.model
  pub ahead : time_in bookmark.point < until
  pub late : DifferLate differs until model plan bookmark.plan bound bookmark.bound
  pub plain : EachOf (IsPlainlyLate differs until) plan.directives

module _ (held : Parts) (simulation : Simulation) (set_aside : IsSetAside held simulation) (bookmark : EngineState) (view_is : engine_state_of held simulation ≡ bookmark)
    (differs : ℕ → Bool) (until : ℕ) (model : Parts) (plan : Plan) (bound : ℕ) (may : MayResume bookmark differs until model plan bound) where
  aside : IsSetAside model simulation
  aside = subst (λ (m : Parts). IsSetAside m simulation) (ap (λ (s : EngineState). s.model) view_is ∙ sym may.same_model) set_aside

  ahead : time_in (point_in simulation) < until
  ahead = subst (λ (s : EngineState). time_in s.point < until) (sym view_is) may.ahead

  late : DifferLate differs until model plan simulation.request.plan bound simulation.request.bound
  late = subst (λ (s : EngineState). DifferLate differs until model plan s.plan bound s.bound) (sym view_is) may.late

  pub has_no_anchors : EachOf (HasNoAnchor differs) plan.directives
  has_no_anchors = alone model simulation aside differs until plan bound ahead late may.plain

  abbrev to_resume : Request
  to_resume = record { plan = plan; bound = bound }

  abbrev resumed : Next SimulationState Run
  resumed = more (exchanged_state differs model plan (state_of simulation.history simulation.present))

  module _ (copy : Simulation) (is : IsCopyFor to_resume simulation copy) where
    pub has_not_begun : HaveNotStarted → EachOf (IsPlainlyLate differs until) bookmark.plan.directives → HaveNotBegun differs (table_in copy.present.tasks)
    has_not_begun not_started old_plain =
        unbegun model simulation aside differs until plan bound ahead late may.plain not_started
        (subst (λ (s : EngineState). EachOf (IsPlainlyLate differs until) s.plan.directives) (sym view_is) old_plain) (table_in copy.present.tasks) is.present.table

    pub fits_there : Resumes → LiveIsExchanged → MayExchange differs model plan (table_in copy.present.tasks)
    fits_there resumes is_exchanged = may_exchange model simulation aside differs until plan bound ahead late may.plain resumes is_exchanged (table_in copy.present.tasks) is.present.table

    module _ (later : LiveTasks) (table : table_in later ≡ exchanged differs model plan (table_in copy.present.tasks)) (in_step_too : IsInStep later) (keeps : KeepsWakes copy.present.tasks later) where
      pub stands_exchanged : StandsAt to_resume resumed (with_tasks copy later)
      stands_exchanged = stands_there_too model simulation aside differs until plan bound ahead late may.plain copy is later table in_step_too keeps

      module _ (next : Simulation) (still : StandsAt copy.request (point_in (with_tasks copy later)) next) where
        stands : StandsAt to_resume resumed next
        stands = stands_still to_resume resumed (with_tasks copy later) next stands_exchanged still

        module _ (resumes : Resumes) (is_pruned : PrunedIsExchanged) (jobs_stay : SameJobs) (of_model : ReachedIsOfModel) where
          pub before_batch : bound ≤ step_limit → (jobs : List (ℕ × Job)) → jobs ≡ jobs_in (point_in (with_tasks copy later)) → IsBeforeBatch model jobs next
          before_batch small jobs ready =
              is_before model simulation aside differs until plan bound ahead late may.plain resumes is_pruned jobs_stay of_model next stands small jobs
              (ready ∙ sym (ap jobs_in still.point))

        module _ (engine : EngineState) (engine_is : engine ≡ engine_state_of model next) where
          carried : {A : Type 0} (part_of : Next SimulationState Run → A) → part_of resumed ≡ part_of (point_in simulation) → part_of engine.point ≡ part_of bookmark.point
          carried part_of same =
              ap (λ (s : EngineState). part_of s.point) engine_is ∙ ap part_of stands.point ∙ same ∙ ap (λ (s : EngineState). part_of s.point) view_is

          pub jobs_carried : Resumes → PrunedIsExchanged → SameJobs → ReachedIsOfModel → jobs_in engine.point ≡ jobs_in bookmark.point
          jobs_carried resumes is_pruned jobs_stay of_model =
              carried jobs_in (jobs_there model simulation aside differs until plan bound ahead late may.plain resumes is_pruned jobs_stay of_model)

          pub none_carried : batches_in engine.point ≡ []
          none_carried = carried batches_in (sym (ap batches_in (point_is model simulation aside))) ∙ sym (ap (λ (s : EngineState). batches_in s.point) view_is) ∙ aside.begins

          pub instants_carried : instants_in engine.point ≡ instants_in bookmark.point
          instants_carried = carried instants_in (sym (ap instants_in (point_is model simulation aside)))

          pub time_carried : time_in engine.point ≡ time_in bookmark.point
          time_carried = carried time_in (sym (ap time_in (point_is model simulation aside)))

          pub spent_carried : spent_in engine.point ≡ spent_in bookmark.point
          spent_carried = carried spent_in (sym (ap spent_in (point_is model simulation aside)))
