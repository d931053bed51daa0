-- A file of lemmas: what it proves need not be read to trust a clause.
--
-- A state without what has ended, and the whole state that it comes from.
use Rattle.std.proofs.Common.{◌≡◌, ℕ, suc, ◌+◌, ◌-◌, ◌<◌, ◌≤◌, Bool, true, false, cond, not, IsTrue, if◌then◌else◌, List, [], ◌∷◌, Some, None, slice_get, refl, sym, ap, ◌∙◌, subst, arith}
use Rattle.std.specs.BTreeMap.{is_at}
use Rattle.aerie_base.specs.Paths.{path_cmp}
use Rattle.aerie_base.specs.Ranges.{step_limit}
use Rattle.aerie_base.specs.declared.conditions.Cond.{Cond}
use Rattle.aerie_base.specs.declared.models.model.Parts.{Parts}
use Rattle.aerie_base.specs.declared.plans.Plan.{Plan}
use Rattle.aerie_base.specs.models.Cells.{read_kind}
use Rattle.aerie_base.specs.models.ValidModel.{valid_model}
use Rattle.aerie_base.specs.plans.OfModel.{IsPlanOf}
use Rattle.effect_cells.specs.declared.effects.CellState.{CellState}
use Rattle.effect_cells.specs.Cells.{AreInRange}
use Rattle.effect_cells.specs.Reads.{kind_on}
use Rattle.effect_cells.specs.Solvable.{may_be_solved}
use Rattle.run_data.specs.TaskFrames.{Frame}
use Rattle.run_data.specs.declared.runs.Run.{Run}
use Rattle.run_data.specs.Batches.{committed, batch}
use Rattle.run_data.specs.Endings.{is_open, has_ended}
use Rattle.run_data.specs.Fresh.{SimulationState, next_state, after_outcome, IsReached}
use Rattle.run_data.specs.Jobs.{AreCellsOf}
use Rattle.run_data.specs.TableLaws.{at_with}
use Rattle.run_data.specs.Tasks.{TaskPhase, anchored, ready, delayed, waiting, calling, over, Task, Table, task_at, task_after, children_made, children_in, after_frame, after_frames, ready_jobs}
use Rattle.run_data.specs.Transitions.{Next, more, finished, onward}
use Rattle.run_data.specs.laws.BatchFrames.{AreFramesOf}
use Rattle.run_data.specs.laws.LiveParts.{part, is_live, live}
use Rattle.run_data.specs.laws.ModelSteps.{WaitsGoByCells}
use Rattle.run_data.specs.laws.NumberedTasks.{OrderIsDistinct, OrderIsItself, FoundByNumber}
use Rattle.run_data.specs.laws.OrderedTables.{IsOrderedTable}
use Rattle.run_data.specs.laws.PrunedStates.{pruned, pruned_point, PrunedStep}
use Rattle.run_data.specs.laws.ReachedStates.{ReachedIsOfModel, IsStateOf, IsPhaseOf}
use Rattle.run_data.specs.laws.Weights.{one_if, opens, idle, weigh, weight}
use Rattle.run_data.specs.laws.EndedTaskLaws.{stands_at}
use Rattle.run_data.specs.laws.LivePartLaws.{open_live, ready_live}
use Rattle.run_data.specs.laws.TableParts.{part_at, part_none}
use Rattle.live_tasks.specs.Endings.{ChildrenAreFew}
use Rattle.live_tasks.specs.Phases.{condition_of_wait}
use Rattle.live_tasks.specs.Reached.{LivePartGoesOn}
use Rattle.live_tasks.specs.Waking.{AreSolvable}
use Rattle.engine_core.specs.BatchEnds.{AreReadyJobs}
use Rattle.engine_core.specs.EngineStates.{IsReachedPruned}
use Rattle.engine_core.specs.ReadyBatches.{next_is_batch, few_after, are_ready}

-- ---- what is left out is over

closed_left : (keep : List ℕ → Bool) (table : Table) →
    ((number : ℕ) (path : List ℕ) (task : Task) → slice_get table number ≡ Some (path, task) → keep path ≡ false → is_open task.phase ≡ false) → opens (part keep table) ≡ opens table
closed_left keep [] closed = refl
closed_left keep (entry ∷ rest) closed = by (keep entry.0) refl (closed_left keep rest (λ number path task at. closed (suc number) path task at))
  where
    by : (kept : Bool) → keep entry.0 ≡ kept → opens (part keep rest) ≡ opens rest → opens (if kept then entry ∷ part keep rest else part keep rest) ≡ one_if (is_open entry.1.phase) + opens rest
    by true e further = ap (λ n. one_if (is_open entry.1.phase) + n) further
    by false e further = let none : one_if (is_open entry.1.phase) ≡ 0 = ap one_if (closed 0 entry.0 entry.1 refl e) in omega (arith, further, none)

over_if_dead : (phase : TaskPhase) (ended : Bool) → (is_open phase ≡ true → ended ≡ false) → not ended ≡ false → is_open phase ≡ false
over_if_dead phase false stops e = absurd (cc)
over_if_dead phase true stops e = by (is_open phase) stops
  where
    by : (open_ : Bool) → (open_ ≡ true → true ≡ false) → open_ ≡ false
    by true h = let k = h refl in absurd (cc)
    by false h = refl

-- as many bodies are open
pub opens_live : (table : Table) → IsOrderedTable table → opens (live table) ≡ opens table
opens_live table order =
    closed_left (is_live table) table
    (λ number path task at dead. over_if_dead task.phase (has_ended table path) (open_live table order path task (stands_at table number path task order at)) dead)

-- a task of the live part is one of the table
pub in_whole : (table : Table) (path : List ℕ) (task : Task) → task_at (live table) path ≡ Some task → task_at table path ≡ Some task
in_whole table path task at = by (is_live table path) refl
  where
    by : (b : Bool) → is_live table path ≡ b → task_at table path ≡ Some task
    by true e = sym (part_at (is_live table) table path e) ∙ at
    by false e = let clash : None ≡ Some task = sym (part_none (is_live table) table path e) ∙ at in absurd (cc)

-- ---- how many children tasks have made

abbrev MadeIsLess : Table → Table → Type 0
MadeIsLess table other = (path : List ℕ) → children_made (task_at table path) ≤ children_made (task_at other path)

less_live : (table : Table) → MadeIsLess (live table) table
less_live table path = by (is_live table path) refl
  where
    by : (b : Bool) → is_live table path ≡ b → children_made (task_at (live table) path) ≤ children_made (task_at table path)
    by true e = let same = ap children_made (part_at (is_live table) table path e) in omega (arith, same)
    by false e = let same : children_made (task_at (live table) path) ≡ 0 = ap children_made (part_none (is_live table) table path e) in omega (arith, same)

less_frame : (now : ℕ) (frame : Frame) (table other : Table) → MadeIsLess table other → MadeIsLess (after_frame now frame table) (after_frame now frame other)
less_frame now frame table other less path =
    let one = ap children_made (at_with table frame.path path (task_after now frame.status (children_made (task_at table frame.path) + children_in frame.items))) in
    let two = ap children_made (at_with other frame.path path (task_after now frame.status (children_made (task_at other frame.path) + children_in frame.items))) in
    let both = by (is_at (path_cmp path) frame.path) in
    omega (arith, one, two, both)
  where
    by : (b : Bool) → children_made (cond b (Some (task_after now frame.status (children_made (task_at table frame.path) + children_in frame.items))) (task_at table path))
        ≤ children_made (cond b (Some (task_after now frame.status (children_made (task_at other frame.path) + children_in frame.items))) (task_at other path))
    by true = let here = less frame.path in omega (arith, here)
    by false = less path

less_frames : (now : ℕ) (frames : List Frame) (table other : Table) → MadeIsLess table other → MadeIsLess (after_frames now frames table) (after_frames now frames other)
less_frames now [] table other less = less
less_frames now (frame ∷ rest) table other less = less_frames now rest (after_frame now frame table) (after_frame now frame other) (less_frame now frame table other less)

-- ---- the whole

pub record HasWhole (model : Parts) (plan : Plan) (bound : ℕ) (at : SimulationState) : Type 0 where
  pub whole : SimulationState
  pub reached : IsReached model plan bound (more whole)
  pub is : pruned whole ≡ at

pub has_whole : (model : Parts) (plan : Plan) (bound : ℕ) (at : SimulationState) → IsReachedPruned model plan bound (more at) → HasWhole model plan bound at
has_whole model plan bound at comes = by comes.whole comes.reached comes.is
  where
    state_in : Next SimulationState Run → SimulationState
    state_in (more one) = one
    state_in (finished run) = at

    by : (point : Next SimulationState Run) → IsReached model plan bound point → pruned_point point ≡ more at → HasWhole model plan bound at
    by (more one) reached is = record { whole = one; reached = reached; is = ap state_in is }
    by (finished run) reached is = absurd (cc)

pub run_reached : (model : Parts) (plan : Plan) (bound : ℕ) (run : Run) → IsReachedPruned model plan bound (finished run) → IsReached model plan bound (finished run)
run_reached model plan bound run comes = by comes.whole comes.reached comes.is
  where
    by : (point : Next SimulationState Run) → IsReached model plan bound point → pruned_point point ≡ finished run → IsReached model plan bound (finished run)
    by (more one) reached is = absurd (cc)
    by (finished other) reached is = subst (IsReached model plan bound) is reached

-- its transition is that of the whole, without what has ended
pub next_pruned : PrunedStep → (model : Parts) (plan : Plan) (bound : ℕ) → IsTrue (valid_model model) → IsPlanOf model plan → (at : SimulationState) → (from : HasWhole model plan bound at) →
    pruned_point (next_state model plan bound from.whole) ≡ pruned_point (next_state model plan bound at)
next_pruned step model plan bound valid good at from =
    sym (step model plan bound from.whole valid good from.reached) ∙ ap (λ (s : SimulationState). pruned_point (next_state model plan bound s)) from.is

module _ (of_model : ReachedIsOfModel) (model : Parts) (plan : Plan) (bound : ℕ) (valid : IsTrue (valid_model model)) (good : IsPlanOf model plan) (at : SimulationState)
    (from : HasWhole model plan bound at) where
  state : IsStateOf model plan bound from.whole
  state = of_model model plan bound from.whole valid good from.reached

  order : IsOrderedTable from.whole.table
  order = state.table.order

  pub before_end : at.time < plan.duration
  before_end = subst (λ (s : SimulationState). s.time < plan.duration) from.is state.time

  pub in_range : AreInRange at.cells
  in_range = subst (λ (s : SimulationState). AreInRange s.cells) from.is state.in_range

  pub as_many : AreCellsOf model at.cells
  as_many = subst (λ (s : SimulationState). AreCellsOf model s.cells) from.is state.cells

  pub spent_within : at.spent ≤ bound
  spent_within = subst (λ (s : SimulationState). s.spent ≤ bound) from.is state.spent

  pub jobs_of_whole : ready_jobs from.whole.cells from.whole.table ≡ ready_jobs at.cells at.table
  jobs_of_whole = sym (ready_live from.whole.table order from.whole.cells) ∙ ap (λ (s : SimulationState). ready_jobs s.cells s.table) from.is

  pub batch_of_whole : batch model bound from.whole.spent from.whole.cells (ready_jobs from.whole.cells from.whole.table) ≡ batch model bound at.spent at.cells (ready_jobs at.cells at.table)
  batch_of_whole =
      ap (batch model bound from.whole.spent from.whole.cells) (sym (ready_live from.whole.table order from.whole.cells))
      ∙ ap (λ (s : SimulationState). batch model bound s.spent s.cells (ready_jobs s.cells s.table)) from.is

  pub weight_of_whole : weight plan bound from.whole ≡ weight plan bound at
  weight_of_whole =
      (λ i. weigh (sym (opens_live from.whole.table order) i) (bound - from.whole.spent) (idle (sym (ready_live from.whole.table order from.whole.cells) i)) (plan.duration - from.whole.time))
      ∙ ap (weight plan bound) from.is

  pub jobs_are_ready : OrderIsDistinct → OrderIsItself → FoundByNumber → AreReadyJobs model at.spent at.cells (ready_jobs at.cells at.table)
  jobs_are_ready distinct itself found =
      subst (λ (s : SimulationState). AreReadyJobs model s.spent s.cells (ready_jobs s.cells s.table)) from.is
      (subst (AreReadyJobs model from.whole.spent from.whole.cells) (sym (ready_live from.whole.table order from.whole.cells)) (are_ready distinct itself found model plan bound from.whole state))

  phase_solvable : (path : List ℕ) (phase : TaskPhase) (condition : Cond) → WaitsGoByCells → condition_of_wait phase ≡ Some condition → IsPhaseOf model from.whole.table path phase →
      IsTrue (may_be_solved (kind_on at.cells) condition)
  phase_solvable path (waiting other next) condition by_cells e is =
      let same : other ≡ condition = cc in
      subst IsTrue (by_cells model at.cells condition as_many) (subst (λ (c : Cond). IsTrue (may_be_solved (read_kind model.cells) c)) same is.1)
  phase_solvable path (anchored to edge start next) condition by_cells e is = absurd (cc)
  phase_solvable path (ready next) condition by_cells e is = absurd (cc)
  phase_solvable path (delayed until next) condition by_cells e is = absurd (cc)
  phase_solvable path (calling child into next) condition by_cells e is = absurd (cc)
  phase_solvable path (over result) condition by_cells e is = absurd (cc)

  pub solvable : WaitsGoByCells → AreSolvable (kind_on at.cells) at.table
  solvable by_cells path task condition there waits =
      phase_solvable path task.phase condition by_cells waits
      (state.table.phases path task (in_whole from.whole.table path task (ap (λ (s : SimulationState). task_at s.table path) from.is ∙ there)))

  -- ---- a batch that is committed

  module _ (lives : LivePartGoesOn) (cells : List CellState) (touched : List ℕ) (frames : List Frame)
      (is : batch model bound at.spent at.cells (ready_jobs at.cells at.table) ≡ committed cells touched frames) where
    pub frames_are : AreFramesOf at.table frames
    frames_are =
        subst (λ (s : SimulationState). AreFramesOf s.table frames) from.is
        (lives model plan bound from.whole cells touched frames valid good from.reached (batch_of_whole ∙ is)).0

    pub few_are_made : bound ≤ step_limit → (ready_jobs at.cells at.table ≡ [] → ⊥) → ChildrenAreFew (after_frames at.time frames at.table)
    few_are_made small some =
        subst (λ (s : SimulationState). ChildrenAreFew (after_frames s.time frames s.table)) from.is
        (λ path. let less = less_frames from.whole.time frames (live from.whole.table) from.whole.table (less_live from.whole.table) path in
        let few = few_whole path in omega (arith, less, few))
      where
        point : next_state model plan bound from.whole ≡ after_outcome model plan bound from.whole (committed cells touched frames)
        point = next_is_batch model plan bound from.whole (λ none. some (sym jobs_of_whole ∙ none)) ∙ ap (after_outcome model plan bound from.whole) (batch_of_whole ∙ is)

        few_whole : ChildrenAreFew (after_frames from.whole.time frames from.whole.table)
        few_whole =
            few_after of_model model plan bound _ (after_frames from.whole.time frames from.whole.table) from.whole.time valid good small
            (subst (IsReached model plan bound) point (onward from.reached)) refl
