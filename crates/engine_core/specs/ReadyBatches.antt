-- A file of lemmas: what it proves need not be read to trust a clause.
--
-- The batch of a state that a simulation reaches.
use Rattle.std.proofs.Common.{◌≡◌, ℕ, suc, ◌+◌, ◌*◌, ◌<◌, ◌≤◌, ◌^◌, Bool, true, false, cond, IsTrue, List, [], ◌∷◌, length, Option, Some, None, slice_get, refl, sym, ap, ◌∙◌, subst, arith}
use Rattle.std.specs.BTreeMap.{is_at}
use Rattle.aerie_base.specs.Paths.{path_cmp}
use Rattle.aerie_base.specs.Ranges.{step_limit}
use Rattle.aerie_base.specs.declared.models.model.Parts.{Parts}
use Rattle.aerie_base.specs.declared.plans.Plan.{Plan}
use Rattle.aerie_base.specs.models.ValidModel.{valid_model}
use Rattle.aerie_base.specs.plans.OfModel.{IsPlanOf}
use Rattle.effect_cells.specs.declared.effects.CellState.{CellState}
use Rattle.run_data.specs.TaskFrames.{Frame}
use Rattle.run_data.specs.declared.frames.Record.{Record}
use Rattle.run_data.specs.declared.jobs.Job.{Job}
use Rattle.run_data.specs.declared.runs.Run.{Run}
use Rattle.run_data.specs.Batches.{committed, batch}
use Rattle.run_data.specs.Endings.{gone_on}
use Rattle.run_data.specs.Fresh.{SimulationState, next_state, next_by, after_outcome, IsReached}
use Rattle.run_data.specs.Records.{unmatched}
use Rattle.run_data.specs.Tasks.{TaskPhase, anchored, ready, delayed, waiting, calling, over, Task, Table, task_at, on_each, children_made, ready_jobs, job_if_ready}
use Rattle.run_data.specs.Transitions.{Next, more, finished}
use Rattle.run_data.specs.laws.NumberedTasks.{OrderIsDistinct, OrderIsItself, FoundByNumber}
use Rattle.run_data.specs.laws.Orders.{EachOf}
use Rattle.run_data.specs.laws.ReachedStates.{ReachedIsOfModel, IsStateOf}
use Rattle.live_tasks.specs.Endings.{ChildrenAreFew}
use Rattle.engine_core.specs.BatchEnds.{batch_as, IsFrugalEnd, HasFewLooks, AreReadyJobs}
use Rattle.engine_core.specs.EngineStates.{PaysForBatch, LooksForBatch}
use Rattle.engine_core.specs.declared.batch_ends.BatchEnd.{BatchEnd}
use Rattle.engine_core.specs.declared.batch_ends.BatchEnd.TheVariants.{Limit, Failed, Committed}

-- ---- a transition with a batch

pub next_is_batch : (model : Parts) (plan : Plan) (bound : ℕ) (at : SimulationState) → (ready_jobs at.cells at.table ≡ [] → ⊥) →
    next_state model plan bound at ≡ after_outcome model plan bound at (batch model bound at.spent at.cells (ready_jobs at.cells at.table))
next_is_batch model plan bound at some = by (ready_jobs at.cells at.table) some
  where
    by : (jobs : List (ℕ × Job)) → (jobs ≡ [] → ⊥) → next_by model plan bound at jobs ≡ after_outcome model plan bound at (batch model bound at.spent at.cells jobs)
    by [] none = absurd (none refl)
    by (job ∷ rest) none = refl

-- ---- how many children tasks have made

made_stays : (whole : Table) (now : ℕ) (table : Table) (path : List ℕ) → children_made (task_at (on_each (gone_on whole now) table) path) ≡ children_made (task_at table path)
made_stays whole now [] path = refl
made_stays whole now (entry ∷ rest) path = by (is_at (path_cmp path) entry.0) (made_stays whole now rest path)
  where
    by : (b : Bool) → children_made (task_at (on_each (gone_on whole now) rest) path) ≡ children_made (task_at rest path) →
        children_made (cond b (Some (gone_on whole now entry.0 entry.1)) (task_at (on_each (gone_on whole now) rest) path)) ≡ children_made (cond b (Some entry.1) (task_at rest path))
    by true further = refl
    by false further = further

few_of : (table : Table) (spent : ℕ) → spent ≤ step_limit → ((path : List ℕ) (task : Task) → task_at table path ≡ Some task → task.made ≤ spent) → (path : List ℕ) → children_made (task_at table path) < 2 ^ 32
few_of table spent small paid path = by (task_at table path) refl
  where
    by : (o : Option Task) → task_at table path ≡ o → children_made o < 2 ^ 32
    by None is = omega arith
    by (Some task) is = omega (arith, paid path task is, small)

pub few_after : ReachedIsOfModel → (model : Parts) (plan : Plan) (bound : ℕ) (later : SimulationState) (whole : Table) (now : ℕ) → IsTrue (valid_model model) → IsPlanOf model plan → bound ≤ step_limit →
    IsReached model plan bound (more later) → later.table ≡ on_each (gone_on whole now) whole → ChildrenAreFew whole
few_after of_model model plan bound later whole now valid good small reached is path =
    let state = of_model model plan bound later valid good reached in
    let spent = state.spent in
    let less = few_of later.table later.spent (omega (arith, spent, small)) state.made path in
    let same : children_made (task_at later.table path) ≡ children_made (task_at whole path) = ap (λ (t : Table). children_made (task_at t path)) is ∙ made_stays whole now whole path in
    omega (arith, less, same)

-- ---- ready jobs

made_of : (spent : ℕ) (cells : List CellState) (table : Table) → ((number : ℕ) (path : List ℕ) (task : Task) → slice_get table number ≡ Some (path, task) → task.made ≤ spent) →
    EachOf (λ job. job.0 ≤ spent) (ready_jobs cells table)
made_of spent cells [] paid = tt
made_of spent cells (entry ∷ rest) paid = by entry.1.phase (paid 0 entry.0 entry.1 refl) (made_of spent cells rest (λ number path task there. paid (suc number) path task there))
  where
    by : (phase : TaskPhase) → entry.1.made ≤ spent → EachOf (λ job. job.0 ≤ spent) (ready_jobs cells rest) →
        EachOf (λ job. job.0 ≤ spent) (job_if_ready cells entry.0 entry.1 phase (ready_jobs cells rest))
    by (ready state) here further = (here, further)
    by (anchored to edge start state) here further = further
    by (delayed until state) here further = further
    by (waiting condition state) here further = further
    by (calling child into state) here further = further
    by (over result) here further = further

pub are_ready : OrderIsDistinct → OrderIsItself → FoundByNumber → (model : Parts) (plan : Plan) (bound : ℕ) (at : SimulationState) → IsStateOf model plan bound at →
    AreReadyJobs model at.spent at.cells (ready_jobs at.cells at.table)
are_ready distinct itself found model plan bound at is = record {
  of_model = is.cells;
  in_range = is.in_range;
  within = is.within;
  apart = is.apart;
  made =
      made_of at.spent at.cells at.table
      (λ number path task there.
      is.made path task (ap (λ (t : Table). task_at t path) (sym (itself at.table is.table.order)) ∙ found at.table number path task (distinct at.table is.table.order) there));
}

-- ---- the end of a batch

-- it does not depend on the cells before
pub same_outcome : (model : Parts) (plan : Plan) (bound : ℕ) (state : SimulationState) (cells : List CellState) (end : BatchEnd) →
    after_outcome model plan bound (record state { cells = cells }) (batch_as end cells) ≡ after_outcome model plan bound state (batch_as end cells)
same_outcome model plan bound state cells Limit = refl
same_outcome model plan bound state cells (Failed who fault) = refl
same_outcome model plan bound state cells (Committed frames touched spent) = refl

-- what was committed is known from how the batch ended
module _ (model : Parts) (plan : Plan) (bound : ℕ) (state : SimulationState) (cells : List CellState) (end : BatchEnd)
    (is : batch_as end cells ≡ batch model bound state.spent state.cells (ready_jobs state.cells state.table)) where
  abbrev state_in : SimulationState → Next SimulationState Run → SimulationState
  state_in other (more one) = one
  state_in other (finished run) = other

  of_point : (at : SimulationState) → ◌≡◌ {A = Next SimulationState Run} (more state) (more at) →
      batch model bound state.spent state.cells (ready_jobs state.cells state.table) ≡ batch model bound at.spent at.cells (ready_jobs at.cells at.table)
  of_point at e = ap (λ (p : Next SimulationState Run). let one = state_in at p in batch model bound one.spent one.cells (ready_jobs one.cells one.table)) e

  pub pays_batch : (records : List Record) (before after : ℕ) → IsFrugalEnd end records before after →
      PaysForBatch (record { model = model; plan = plan; bound = bound; point = more state }) records before after
  pays_batch records before after frugal at later touched frames point whole = by end (is ∙ of_point at point ∙ whole) frugal
    where
      by : (end : BatchEnd) → batch_as end cells ≡ committed later touched frames → IsFrugalEnd end records before after → after ≤ before + unmatched frames records
      by Limit e f = absurd (cc)
      by (Failed who fault) e f = absurd (cc)
      by (Committed these numbers spent) e f = (let same : these ≡ frames = cc in subst (λ (l : List Frame). after ≤ before + unmatched l records) same f)

  pub looks_batch : (before after : ℕ) → HasFewLooks end before after → LooksForBatch (record { model = model; plan = plan; bound = bound; point = more state }) before after
  looks_batch before after few at later touched frames point whole = by end (is ∙ of_point at point ∙ whole) few
    where
      by : (end : BatchEnd) → batch_as end cells ≡ committed later touched frames → HasFewLooks end before after → after ≤ before + 2 * length frames
      by Limit e f = absurd (cc)
      by (Failed who fault) e f = absurd (cc)
      by (Committed these numbers spent) e f = (let same : these ≡ frames = cc in subst (λ (l : List Frame). after ≤ before + 2 * length l) same f)
