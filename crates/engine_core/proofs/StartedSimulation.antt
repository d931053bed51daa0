-- A file of lemmas: what it proves need not be read to trust a clause.
--
-- A simulation at its start.
use Rattle.std.proofs.Common.{◌≡◌, ℕ, List, [], length, None, sym, ap, subst}
use Rattle.std.proofs.lemmas.List.{length-map}
use Rattle.aerie_base.specs.declared.models.model.Parts.{Parts}
use Rattle.aerie_base.specs.declared.plans.Plan.{Plan}
use Rattle.effect_cells.specs.declared.effects.CellState.{CellState}
use Rattle.effect_cells.specs.Cells.{first_state, initial}
use Rattle.run_data.specs.Fresh.{start}
use Rattle.run_data.specs.Transitions.{more}
use Rattle.run_data.specs.laws.LiveParts.{live}
use Rattle.run_data.specs.laws.PrunedStates.{pruned}
use Rattle.live_tasks.specs.InStep.{table_in, IsInStep}
use Rattle.live_tasks.specs.Waking.{AreKept, AreKeptFor}
use Rattle.engine_core.specs.Simulations.{StandsAt}
use Rattle.engine_core.specs.declared.history.History.{History}
use Rattle.engine_core.specs.declared.present.Present.{Present}

pub stands_first : (model : Parts) (plan held : Plan) (bound : ℕ) (history : History) (present : Present) → held ≡ plan →
    history ≡ record { instants = []; batches = []; touched = [] } → present.time ≡ 0 → present.spent ≡ 0 → present.cells ≡ initial model →
    table_in present.tasks ≡ live (start model plan).table → IsInStep present.tasks → AreKeptFor 0 (length model.cells) present.tasks →
    StandsAt (record { plan = plan; bound = bound }) (more (pruned (start model plan)))
    (record { request = record { plan = held; bound = bound }; history = history; present = present; ending = None })
stands_first model plan held bound history present same empty time spent cells table in_step kept = record {
  request = ap (λ (p : Plan). record { plan = p; bound = bound }) same;
  point = λ i. more (record {
    time = time i;
    cells = cells i;
    spent = spent i;
    table = table i;
    instants = (empty i).instants;
    batches = (empty i).batches;
    touched = (empty i).touched;
  });
  tasks = record {
    in_step = in_step;
    kept =
        subst (λ t. AreKept t held.duration present.cells present.tasks) (sym time)
        (subst (λ (cs : List CellState). AreKept 0 held.duration cs present.tasks) (sym cells)
        (kept held.duration (initial model) (length-map model.cells (λ cell. first_state cell.1))));
  };
}
