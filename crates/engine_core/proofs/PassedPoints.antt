-- A file of lemmas: what it proves need not be read to trust a clause.
--
-- Where a simulation stands after time has passed.
use Rattle.std.proofs.Common.{◌≡◌, ℕ, ◌+◌, ◌-◌, ◌<◌, ◌≤◌, List, [], Option, Some, None, Ok, Err, refl, sym, ap, ◌∙◌, subst, arith}
use Rattle.aerie_base.specs.declared.faults.Fault.TheVariants.{Range}
use Rattle.aerie_base.specs.declared.models.model.Parts.{Parts}
use Rattle.effect_cells.specs.declared.cells.OutOfRange.{OutOfRange}
use Rattle.effect_cells.specs.declared.effects.CellState.{CellState}
use Rattle.effect_cells.specs.Cells.{passed, first_out, refusal, verdict}
use Rattle.run_data.specs.declared.runs.Outcome.TheVariants.{Completed, Failed}
use Rattle.run_data.specs.declared.runs.Who.TheVariants as who
use Rattle.run_data.specs.Fresh.{SimulationState, to_time, to_end, settled}
use Rattle.run_data.specs.Tasks.{on_each, rested}
use Rattle.run_data.specs.Transitions.{more, finished}
use Rattle.run_data.specs.laws.LiveParts.{live}
use Rattle.run_data.specs.laws.NextTimes.{least_wake}
use Rattle.run_data.specs.laws.PrunedStates.{pruned_point}
use Rattle.live_tasks.specs.LeastTimes.{IsUpToTime}
use Rattle.live_tasks.specs.InStep.{table_in, IsInStep}
use Rattle.live_tasks.specs.Waking.{AreKept, AreFound, KeepsWakes, WakesPass}
use Rattle.engine_core.specs.Passing.{GoesOnFrom, point_then, point_last}
use Rattle.engine_core.specs.Simulations.{state_of, point_by, point_in, AreTasksBefore, AreTasksIn, StandsAt}
use Rattle.engine_core.specs.declared.simulation.RunEnd.{RunEnd}
use Rattle.engine_core.specs.declared.simulation.Request.{Request}
use Rattle.engine_core.specs.declared.simulation.Simulation.{Simulation}

none_out : (cells : List CellState) → Ok tt ≡ verdict cells → first_out cells ≡ None
none_out cells e = by (first_out cells) e
  where
    by : (out : Option ℕ) → Ok tt ≡ refusal out → out ≡ None
    by None same = refl
    by (Some cell) same = absurd (cc)

some_out : (cells : List CellState) (out : OutOfRange) → Err out ≡ verdict cells → first_out cells ≡ Some out.cell
some_out cells out e = by (first_out cells) e
  where
    by : (first : Option ℕ) → Err out ≡ refusal first → first ≡ Some out.cell
    by None same = absurd (cc)
    by (Some cell) same = (let k : out ≡ record { cell = cell } = cc in ap (λ (o : OutOfRange). Some o.cell) (sym k))

module _ (model : Parts) (before later : Simulation) (request : later.request ≡ before.request)
    (instants : later.history.instants ≡ settled model before.request.plan before.request.bound (state_of before.history before.present)) where
  abbrev at : SimulationState
  at = state_of before.history before.present

  -- it has ended so
  ended_point : (ending : RunEnd) → later.ending ≡ Some ending → point_in later ≡ finished (record {
    plan = before.request.plan;
    bound = before.request.bound;
    instants = settled model before.request.plan before.request.bound at;
    reach = ending.reach;
    outcome = ending.outcome;
  })
  ended_point ending is =
      ap (point_by later.request later.history later.present) is
      ∙ (λ i. finished (record {
        plan = (request i).plan;
        bound = (request i).bound;
        instants = instants i;
        reach = ending.reach;
        outcome = ending.outcome;
      }))

  ended_tasks : (ending : RunEnd) → later.ending ≡ Some ending → AreTasksIn later
  ended_tasks ending is = subst (AreTasksBefore later.request.plan.duration later.present) (sym is) tt

  -- a cell would leave its range
  pub stands_out : (time dt : ℕ) (out : OutOfRange) → dt ≡ time - before.present.time → Err out ≡ verdict (passed before.present.cells dt) →
      later.ending ≡ Some (record { reach = before.present.time; outcome = Failed time (who.Cell out.cell) Range }) → StandsAt before.request (point_then model before time) later
  stands_out time dt out is answer ending = record {
    request = request;
    point =
        ended_point (record { reach = before.present.time; outcome = Failed time (who.Cell out.cell) Range }) ending
        ∙ ap (λ (o : Option ℕ). pruned_point (to_time model before.request.plan before.request.bound at time (passed before.present.cells (time - before.present.time)) o))
        (sym (some_out (passed before.present.cells (time - before.present.time)) out (answer ∙ ap (λ n. verdict (passed before.present.cells n)) is)));
    tasks = ended_tasks (record { reach = before.present.time; outcome = Failed time (who.Cell out.cell) Range }) ending;
  }

  pub stands_out_at_end : (end dt : ℕ) (out : OutOfRange) → end ≡ before.request.plan.duration → dt ≡ end - before.present.time → Err out ≡ verdict (passed before.present.cells dt) →
      later.ending ≡ Some (record { reach = before.present.time; outcome = Failed end (who.Cell out.cell) Range }) → StandsAt before.request (point_last model before) later
  stands_out_at_end end dt out end_is is answer ending = record {
    request = request;
    point =
        ended_point (record { reach = before.present.time; outcome = Failed before.request.plan.duration (who.Cell out.cell) Range }) at_end
        ∙ ap (λ (o : Option ℕ). pruned_point (to_end model before.request.plan before.request.bound at o))
        (sym (some_out (passed before.present.cells (before.request.plan.duration - before.present.time)) out
        (answer ∙ ap (λ n. verdict (passed before.present.cells n)) (is ∙ ap (λ n. n - before.present.time) end_is))));
    tasks = ended_tasks (record { reach = before.present.time; outcome = Failed before.request.plan.duration (who.Cell out.cell) Range }) at_end;
  }
    where
      at_end : later.ending ≡ Some (record { reach = before.present.time; outcome = Failed before.request.plan.duration (who.Cell out.cell) Range })
      at_end = ending ∙ ap (λ n. Some (record { reach = before.present.time; outcome = Failed n (who.Cell out.cell) Range })) end_is

  -- the end is reached
  pub stands_completed : (end dt : ℕ) → end ≡ before.request.plan.duration → dt ≡ end - before.present.time → Ok tt ≡ verdict (passed before.present.cells dt) →
      later.ending ≡ Some (record { reach = end; outcome = Completed }) → StandsAt before.request (point_last model before) later
  stands_completed end dt end_is is answer ending = record {
    request = request;
    point =
        ended_point (record { reach = before.request.plan.duration; outcome = Completed }) at_end
        ∙ ap (λ (o : Option ℕ). pruned_point (to_end model before.request.plan before.request.bound at o))
        (sym (none_out (passed before.present.cells (before.request.plan.duration - before.present.time))
        (answer ∙ ap (λ n. verdict (passed before.present.cells n)) (is ∙ ap (λ n. n - before.present.time) end_is))));
    tasks = ended_tasks (record { reach = before.request.plan.duration; outcome = Completed }) at_end;
  }
    where
      at_end : later.ending ≡ Some (record { reach = before.request.plan.duration; outcome = Completed })
      at_end = ending ∙ ap (λ n. Some (record { reach = n; outcome = Completed })) end_is

  -- time has passed to a time before the end
  module _ (batches : later.history.batches ≡ []) (touched : later.history.touched ≡ []) (open_ : later.ending ≡ None) (time dt : ℕ) (is : dt ≡ time - before.present.time)
      (answer : Ok tt ≡ verdict (passed before.present.cells dt)) (same_time : later.present.time ≡ time) (same_spent : later.present.spent ≡ before.present.spent)
      (same_cells : later.present.cells ≡ passed before.present.cells dt) (table : table_in later.present.tasks ≡ on_each (rested time) (table_in before.present.tasks))
      (in_step : IsInStep later.present.tasks) (stay : live (table_in later.present.tasks) ≡ table_in later.present.tasks) (keeps : KeepsWakes before.present.tasks later.present.tasks)
      (passes : WakesPass) (was_in_step : IsInStep before.present.tasks) (found : AreFound before.present.time before.request.plan.duration before.present.cells before.present.tasks)
      (wakes : IsUpToTime time (least_wake before.present.time before.request.plan.duration before.present.cells (table_in before.present.tasks))) (early : time < before.request.plan.duration)
      (onward : GoesOnFrom before.present.time (point_then model before time)) where
    none : first_out (passed before.present.cells (time - before.present.time)) ≡ None
    none = none_out (passed before.present.cells (time - before.present.time)) (answer ∙ ap (λ n. verdict (passed before.present.cells n)) is)

    later_on : before.present.time ≤ time
    later_on =
        subst (λ (out : Option ℕ). GoesOnFrom before.present.time
        (pruned_point (to_time model before.request.plan before.request.bound at time (passed before.present.cells (time - before.present.time)) out))) none onward

    sum : before.present.time + dt ≡ time
    sum = omega (arith, is, later_on)

    pub stands_passed : StandsAt before.request (point_then model before time) later
    stands_passed = record {
      request = request;
      point =
          ap (point_by later.request later.history later.present) open_
          ∙ (λ i. more (record {
            time = same_time i;
            cells = (same_cells ∙ ap (passed before.present.cells) is) i;
            spent = same_spent i;
            table = (sym stay ∙ ap live table) i;
            instants = instants i;
            batches = batches i;
            touched = touched i;
          }))
          ∙ ap (λ (out : Option ℕ). pruned_point (to_time model before.request.plan before.request.bound at time (passed before.present.cells (time - before.present.time)) out)) (sym none);
      tasks =
          subst (AreTasksBefore later.request.plan.duration later.present) (sym open_) (record {
            in_step = in_step;
            kept =
                subst (λ (r : Request). AreKept later.present.time r.plan.duration later.present.cells later.present.tasks) (sym request)
                (subst (λ t. AreKept t before.request.plan.duration later.present.cells later.present.tasks) (sym same_time)
                (subst (λ (cs : List CellState). AreKept time before.request.plan.duration cs later.present.tasks) (sym same_cells)
                (keeps time before.request.plan.duration (passed before.present.cells dt)
                (subst (λ t. AreKept t before.request.plan.duration (passed before.present.cells dt) before.present.tasks) sum
                (passes before.present.time dt before.request.plan.duration before.present.cells before.present.tasks was_in_step found
                (subst (λ t. IsUpToTime t (least_wake before.present.time before.request.plan.duration before.present.cells (table_in before.present.tasks))) (sym sum) wakes)
                (omega (arith, sum, early)))))));
          });
    }
