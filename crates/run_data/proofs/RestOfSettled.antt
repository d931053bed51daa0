-- The rest of an old run is taken over behind a settled instant.
use Rattle.std.proofs.Common.{◌≡◌, ℕ, ◌+◌, ◌-◌, ◌≤◌, List, [], ◌∷◌, ◌++◌, Option, Some, None, refl, sym, ap, ◌∙◌, subst, IsTrue, append_assoc, arith}
use Rattle.std.proofs.lemmas.List.{append_cancel_left}
use Rattle.aerie_base.specs.declared.models.model.Parts.{Parts}
use Rattle.aerie_base.specs.declared.plans.Plan.{Plan}
use Rattle.aerie_base.specs.models.ValidModel.{valid_model}
use Rattle.aerie_base.specs.plans.OfModel.{IsPlanOf}
use Rattle.effect_cells.specs.declared.effects.CellState.{CellState}
use Rattle.effect_cells.specs.Cells.{passed, first_out}
use Rattle.run_data.specs.declared.runs.Instant.{Instant}
use Rattle.run_data.specs.declared.runs.Run.{Run}
use Rattle.run_data.specs.declared.runs.Outcome.TheVariants.{Completed}
use Rattle.run_data.specs.Fresh.{SimulationState, start, instant_at, next_state, next_by, woken_or_moved, moved, to_time, to_end, least_due, below, IsReached}
use Rattle.run_data.specs.Tasks.{on_each, woken, rested}
use Rattle.run_data.specs.Transitions.{more, finished, onward}
use Rattle.run_data.specs.laws.Iteration.{same_result}
use Rattle.run_data.specs.laws.OrderedTables.{IsOrderedTable}
use Rattle.run_data.specs.laws.OpenTasks.{rested_open}
use Rattle.run_data.specs.TableLaws.{order_each}
use Rattle.run_data.proofs.ReachedStates.{reached_is_of_model}
use Rattle.run_data.specs.laws.RestOfRuns.{AlikeSettled, RestIsTakenOverSettled}
use Rattle.run_data.specs.laws.RunCosts.{cost_of_instants}
use Rattle.run_data.specs.laws.SettledInstants.{IsSettled}
use Rattle.run_data.proofs.RestOfRuns.{rest_is_taken_over}
use Rattle.run_data.specs.laws.LivePartLaws.{SameLive, same_of, live_of, same_due, same_each}

-- a settled state moves on in time
pub settled_moves : (model : Parts) (plan : Plan) (bound : ℕ) (at : SimulationState) → IsSettled at →
    next_state model plan bound at ≡ moved model plan bound at (below plan.duration (least_due at.time plan.duration at.cells at.table))
settled_moves model plan bound at settled = ap (next_by model plan bound at) settled.none_ready ∙ ap (woken_or_moved model plan bound at (on_each (woken at.cells) at.table)) settled.none_wakes

module _ (model : Parts) (plan old_plan : Plan) (bound old_bound : ℕ) (at other : SimulationState) (old : Run) (rest : List Instant) (valid : IsTrue (valid_model model))
    (is : IsPlanOf model plan) (old_is : IsPlanOf model old_plan) (lasts : plan.duration ≡ old_plan.duration)
    (reached : IsReached model plan bound (more at)) (old_reached : IsReached model old_plan old_bound (more other)) (alike : AlikeSettled at other)
    (fresh : IsReached model old_plan old_bound (finished old)) (completed : old.outcome ≡ Completed) (is_rest : old.instants ≡ other.instants ++ (instant_at other ∷ rest))
    (fit : at.spent + cost_of_instants rest ≤ bound) where
  abbrev taken : List Instant → Run
  taken instants = record { plan = plan; bound = bound; instants = instants; reach = plan.duration; outcome = Completed }

  abbrev Goal : Type 0
  Goal = IsReached model plan bound (finished (taken (at.instants ++ (instant_at at ∷ rest))))

  order : IsOrderedTable at.table
  order = (reached_is_of_model model plan bound at valid is reached).table.order

  second : IsOrderedTable other.table
  second = (reached_is_of_model model old_plan old_bound other valid old_is old_reached).table.order

  same : SameLive at.table other.table
  same = same_of at.table other.table order second alike.tables

  -- to a later time
  time_goes : (time : ℕ) (cells : List CellState) (out : Option ℕ) → IsReached model plan bound (to_time model plan bound at time cells out) → IsReached model old_plan old_bound (to_time model old_plan old_bound other time cells out) → Goal
  time_goes time cells (Some cell) here there =
      let run = same_result SimulationState Run (next_state model old_plan old_bound) (start model old_plan) old _ fresh there in
      let clash = sym completed ∙ ap (λ (r : Run). r.outcome) run in absurd (cc)
  time_goes time cells None here there =
      subst (λ l. IsReached model plan bound (finished (taken l))) (append_assoc at.instants (instant_at at ∷ []) rest)
      (rest_is_taken_over model plan old_plan bound old_bound _ _ old rest (record { valid = valid; is_plan = is; old_is_plan = old_is; lasts = lasts; reached = here; old_reached = there })
      (record {
        time = refl;
        cells = refl;
        batches = refl;
        touched = refl;
        tables = live_of (on_each (rested time) at.table) (on_each (rested time) other.table) (order_each (rested time) at.table order) (order_each (rested time) other.table second)
            (same_each (rested time) (λ path task. rested_open time task.phase) (λ path task. refl) at.table other.table same);
      })
      fresh completed (is_rest ∙ sym (append_assoc other.instants (instant_at other ∷ []) rest)) (omega (arith, fit)))

  -- to the end
  end_goes : (out : Option ℕ) → IsReached model plan bound (to_end model plan bound at out) → IsReached model old_plan old_bound (to_end model old_plan old_bound other out) → Goal
  end_goes (Some cell) here there =
      let run = same_result SimulationState Run (next_state model old_plan old_bound) (start model old_plan) old _ fresh there in
      let clash = sym completed ∙ ap (λ (r : Run). r.outcome) run in absurd (cc)
  end_goes None here there =
      let run = same_result SimulationState Run (next_state model old_plan old_bound) (start model old_plan) old _ fresh there in
      let instants : other.instants ++ (instant_at other ∷ rest) ≡ other.instants ++ (instant_at other ∷ []) = sym is_rest ∙ ap (λ (r : Run). r.instants) run in
      let tail : instant_at other ∷ rest ≡ instant_at other ∷ [] = append_cancel_left other.instants (instant_at other ∷ rest) (instant_at other ∷ []) instants in
      let none : rest ≡ [] = cc in
      subst (λ l. IsReached model plan bound (finished (taken (at.instants ++ (instant_at at ∷ l))))) (sym none) here

  moved_goes : (time : Option ℕ) → IsReached model plan bound (moved model plan bound at time) → IsReached model old_plan old_bound (moved model old_plan old_bound other time) → Goal
  moved_goes (Some time) here there =
      let later : passed at.cells (time - at.time) ≡ passed other.cells (time - other.time) = λ i. passed (alike.cells i) (time - alike.time i) in
      time_goes time (passed other.cells (time - other.time)) (first_out (passed other.cells (time - other.time)))
      (subst (λ c. IsReached model plan bound (to_time model plan bound at time c (first_out c))) later here) there
  moved_goes None here there =
      let later : passed at.cells (plan.duration - at.time) ≡ passed other.cells (old_plan.duration - other.time) = λ i. passed (alike.cells i) (lasts i - alike.time i) in
      end_goes (first_out (passed other.cells (old_plan.duration - other.time))) (subst (λ c. IsReached model plan bound (to_end model plan bound at (first_out c))) later here) there

  goes : Goal
  goes =
      moved_goes (below old_plan.duration (least_due other.time old_plan.duration other.cells other.table))
      (subst (λ d. IsReached model plan bound (moved model plan bound at d)) due
      (subst (IsReached model plan bound) (settled_moves model plan bound at alike.settled) (onward reached)))
      (subst (IsReached model old_plan old_bound) (settled_moves model old_plan old_bound other alike.old_settled) (onward old_reached))
    where
      due : below plan.duration (least_due at.time plan.duration at.cells at.table) ≡ below old_plan.duration (least_due other.time old_plan.duration other.cells other.table)
      due =
          (λ i. below (lasts i) (least_due (alike.time i) (lasts i) (alike.cells i) at.table))
          ∙ ap (below old_plan.duration) (same_due at.table other.table order second same other.time old_plan.duration other.cells)

pub rest_is_taken_over_settled : RestIsTakenOverSettled
rest_is_taken_over_settled model plan old_plan bound old_bound at other old rest both alike fresh completed is_rest fit =
    goes model plan old_plan bound old_bound at other old rest both.valid both.is_plan both.old_is_plan both.lasts both.reached both.old_reached alike fresh completed is_rest fit
