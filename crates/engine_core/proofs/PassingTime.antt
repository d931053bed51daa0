-- A file of lemmas: what it proves need not be read to trust a clause.
--
-- Where no task is ready, and as time passes.
use Rattle.std.proofs.Common.{◌≡◌, ℕ, ◌+◌, ◌-◌, ◌<◌, Bool, true, false, IsTrue, if◌then◌else◌, nat_eq, nat_lt, min, List, [], ◌∷◌, Option, Some, None, refl, sym, ap, ◌∙◌, subst, arith}
use Rattle.std.proofs.lemmas.Bool.{ltb-true}
use Rattle.aerie_base.specs.declared.models.model.Parts.{Parts}
use Rattle.aerie_base.specs.declared.plans.Plan.{Plan}
use Rattle.aerie_base.specs.models.ValidModel.{valid_model}
use Rattle.aerie_base.specs.plans.OfModel.{IsPlanOf}
use Rattle.aerie_base.specs.TimeOrder.{earlier}
use Rattle.effect_cells.specs.declared.effects.CellState.{CellState}
use Rattle.effect_cells.specs.Cells.{passed, first_out}
use Rattle.effect_cells.specs.WakeTimes.{holds_on}
use Rattle.run_data.specs.declared.jobs.Job.{Job}
use Rattle.run_data.specs.declared.runs.Run.{Run}
use Rattle.run_data.specs.Endings.{is_open}
use Rattle.run_data.specs.Fresh.{SimulationState, next_state, next_by, woken_or_moved, moved, to_time, to_end, below, least_due}
use Rattle.run_data.specs.Tasks.{TaskPhase, anchored, ready, delayed, waiting, calling, over, Task, Table, on_each, woken, woken_phase, rested, rested_phase, ready_jobs, job_if_ready}
use Rattle.run_data.specs.TableLaws.{order_each}
use Rattle.run_data.specs.Transitions.{Next, more}
use Rattle.run_data.specs.laws.NextTimes.{least_delay, least_wake, DueSplits}
use Rattle.run_data.specs.laws.LiveTables.{live_order}
use Rattle.run_data.specs.laws.OrderedTables.{IsOrderedTable}
use Rattle.run_data.specs.laws.PrunedStates.{pruned_point, PrunedStep}
use Rattle.run_data.specs.laws.ReachedStates.{ReachedIsOfModel}
use Rattle.run_data.specs.laws.Weights.{one_if, opens, idle, weight, WeightFalls}
use Rattle.live_tasks.specs.LeastTimes.{IsUpToTime}
use Rattle.engine_core.specs.EngineStates.{IsReachedPruned}
use Rattle.engine_core.specs.Passing.{GoesOnFrom}
use Rattle.engine_core.specs.PrunedPoints.{HasWhole, has_whole, before_end, opens_live}
use Rattle.engine_core.specs.EnginePoints.{point_weight, transition_less}

-- ---- waking

woken_none_here : (cells : List CellState) (path : List ℕ) (task : Task) (phase : TaskPhase) (jobs : List (ℕ × Job)) →
    job_if_ready cells path task (woken_phase cells phase) jobs ≡ [] → (woken_phase cells phase ≡ phase) × (jobs ≡ [])
woken_none_here cells path task (waiting condition state) jobs e = by (holds_on cells condition) e
  where
    by : (b : Bool) → job_if_ready cells path task (if b then ready state else waiting condition state) jobs ≡ [] →
        ((if b then ready state else waiting condition state) ≡ waiting condition state) × (jobs ≡ [])
    by true none = absurd (cc)
    by false none = (refl, none)
woken_none_here cells path task (ready state) jobs e = absurd (cc)
woken_none_here cells path task (anchored to edge start state) jobs e = (refl, e)
woken_none_here cells path task (delayed until state) jobs e = (refl, e)
woken_none_here cells path task (calling child into state) jobs e = (refl, e)
woken_none_here cells path task (over result) jobs e = (refl, e)

-- where none is ready after waking, none has woken
pub woken_none : (cells : List CellState) (table : Table) → ready_jobs cells (on_each (woken cells) table) ≡ [] → on_each (woken cells) table ≡ table
woken_none cells [] e = refl
woken_none cells (entry ∷ rest) e =
    let here = woken_none_here cells entry.0 (woken cells entry.0 entry.1) entry.1.phase (ready_jobs cells (on_each (woken cells) rest)) e in
    let others = woken_none cells rest here.1 in
    λ i. (entry.0, record { phase = here.0 i; made = entry.1.made; begun = entry.1.begun }) ∷ others i

module _ (model : Parts) (plan : Plan) (bound : ℕ) (at : SimulationState) where
  pub idle_is_woken : ready_jobs at.cells at.table ≡ [] →
      next_state model plan bound at ≡ woken_or_moved model plan bound at (on_each (woken at.cells) at.table) (ready_jobs at.cells (on_each (woken at.cells) at.table))
  idle_is_woken none = ap (next_by model plan bound at) none

  pub some_woken : ready_jobs at.cells at.table ≡ [] → (ready_jobs at.cells (on_each (woken at.cells) at.table) ≡ [] → ⊥) →
      next_state model plan bound at ≡ more (record at { table = on_each (woken at.cells) at.table })
  some_woken none some = idle_is_woken none ∙ by (ready_jobs at.cells (on_each (woken at.cells) at.table)) some
    where
      by : (jobs : List (ℕ × Job)) → (jobs ≡ [] → ⊥) → woken_or_moved model plan bound at (on_each (woken at.cells) at.table) jobs ≡ more (record at { table = on_each (woken at.cells) at.table })
      by [] other = absurd (other refl)
      by (job ∷ rest) other = refl

  pub none_woken : ready_jobs at.cells at.table ≡ [] → ready_jobs at.cells (on_each (woken at.cells) at.table) ≡ [] →
      next_state model plan bound at ≡ moved model plan bound at (below plan.duration (least_due at.time plan.duration at.cells at.table))
  none_woken none still = idle_is_woken none ∙ ap (woken_or_moved model plan bound at (on_each (woken at.cells) at.table)) still

-- ---- time does not go back

opens_rested : (time : ℕ) (table : Table) → opens (on_each (rested time) table) ≡ opens table
opens_rested time [] = refl
opens_rested time (entry ∷ rest) = by entry.1.phase (opens_rested time rest)
  where
    by : (phase : TaskPhase) → opens (on_each (rested time) rest) ≡ opens rest → one_if (is_open (rested_phase time phase)) + opens (on_each (rested time) rest) ≡ one_if (is_open phase) + opens rest
    by (delayed until state) further = at (nat_eq until time)
      where
        at : (b : Bool) → one_if (is_open (if b then ready state else delayed until state)) + opens (on_each (rested time) rest) ≡ 1 + opens rest
        at true = ap (λ n. 1 + n) further
        at false = ap (λ n. 1 + n) further
    by (ready state) further = ap (λ n. 1 + n) further
    by (anchored to edge start state) further = ap (λ n. 1 + n) further
    by (waiting condition state) further = ap (λ n. 1 + n) further
    by (calling child into state) further = ap (λ n. 1 + n) further
    by (over result) further = ap (λ n. 0 + n) further

module _ (step : PrunedStep) (falls : WeightFalls) (of_model : ReachedIsOfModel) (model : Parts) (plan : Plan) (bound : ℕ) (at : SimulationState) (valid : IsTrue (valid_model model))
    (good : IsPlanOf model plan) (comes : IsReachedPruned model plan bound (more at)) (none : ready_jobs at.cells at.table ≡ []) where
  from : HasWhole model plan bound at
  from = has_whole model plan bound at comes

  order : IsOrderedTable at.table
  order = subst (λ (s : SimulationState). IsOrderedTable s.table) from.is (live_order from.whole.table (of_model model plan bound from.whole valid good from.reached).table.order)

  at_time : (time : ℕ) (cells : List CellState) (out : Option ℕ) → next_state model plan bound at ≡ to_time model plan bound at time cells out →
      GoesOnFrom at.time (pruned_point (to_time model plan bound at time cells out))
  at_time time cells (Some cell) is = tt
  at_time time cells None is =
      let less = subst (λ (p : Next SimulationState Run). point_weight plan bound (pruned_point p) < weight plan bound at + 1) is (transition_less step model plan bound valid good of_model falls at comes) in
      let before = before_end of_model model plan bound valid good at from in
      let same = opens_live (on_each (rested time) at.table) (order_each (rested time) at.table order) ∙ opens_rested time at.table in
      let one : idle (ready_jobs at.cells at.table) ≡ 1 = ap idle none in
      omega (arith, less, before, same, one)

  by_due : (due : Option ℕ) → next_state model plan bound at ≡ moved model plan bound at due → GoesOnFrom at.time (pruned_point (moved model plan bound at due))
  by_due (Some time) is = at_time time (passed at.cells (time - at.time)) (first_out (passed at.cells (time - at.time))) is
  by_due None is = by (first_out (passed at.cells (plan.duration - at.time)))
    where
      by : (out : Option ℕ) → GoesOnFrom at.time (pruned_point (to_end model plan bound at out))
      by (Some cell) = tt
      by None = tt

  pub moves_on : ready_jobs at.cells (on_each (woken at.cells) at.table) ≡ [] →
      GoesOnFrom at.time (pruned_point (moved model plan bound at (below plan.duration (least_due at.time plan.duration at.cells at.table))))
  moves_on still = by_due (below plan.duration (least_due at.time plan.duration at.cells at.table)) (none_woken model plan bound at none still)

-- ---- the next time

pub due_is : (time horizon : ℕ) (due : Option ℕ) → Some time ≡ below horizon due → (due ≡ Some time) × (time < horizon)
due_is time horizon None e = absurd (cc)
due_is time horizon (Some other) e = by (nat_lt other horizon) refl e
  where
    by : (b : Bool) → nat_lt other horizon ≡ b → Some time ≡ (if b then Some other else None) → (Some other ≡ Some time) × (time < horizon)
    by true less same = (let is : time ≡ other = cc in (ap Some (sym is), subst (λ n. n < horizon) (sym is) (ltb-true other horizon less)))
    by false less same = absurd (cc)

pub sooner : (time : ℕ) (one other : Option ℕ) → earlier one other ≡ Some time → IsUpToTime time one × IsUpToTime time other
sooner time None None e = absurd (cc)
sooner time None (Some b) e = (tt, (let is : b ≡ time = cc in omega (arith, is)))
sooner time (Some a) None e = ((let is : a ≡ time = cc in omega (arith, is)), tt)
sooner time (Some a) (Some b) e = (let is : min a b ≡ time = cc in (omega (arith, is), omega (arith, is)))

-- no delay ends and no task wakes before the next time, which is before the horizon
pub at_next_time : DueSplits → (now horizon time : ℕ) (cells : List CellState) (table : Table) → Some time ≡ below horizon (least_due now horizon cells table) →
    IsUpToTime time (least_delay table) × IsUpToTime time (least_wake now horizon cells table) × (time < horizon)
at_next_time splits now horizon time cells table is =
    let due = due_is time horizon (least_due now horizon cells table) is in
    let both = sooner time (least_delay table) (least_wake now horizon cells table) (sym (splits now horizon cells table) ∙ due.0) in
    (both.0, both.1, due.1)

-- the least of both is the least due time
pub least_is : DueSplits → (now horizon : ℕ) (cells : List CellState) (table : Table) (delay wake time : Option ℕ) → delay ≡ least_delay table → wake ≡ least_wake now horizon cells table →
    time ≡ earlier delay wake → time ≡ least_due now horizon cells table
least_is splits now horizon cells table delay wake time first second is = is ∙ (λ i. earlier (first i) (second i)) ∙ sym (splits now horizon cells table)
