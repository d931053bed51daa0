-- What is settled until a time is in range, and tells the cells.
use Rattle.std.proofs.Common.{List, ◌≡◌, IfOk, subst, sym, ap, ◌∙◌}
use Rattle.effect_cells.specs.declared.effects.CellState.{CellState}
use Rattle.effect_cells.specs.Cells.{initial}
use Rattle.run_data.specs.declared.runs.Instant.{Instant}
use Rattle.run_data.specs.Values.{cells_at}
use Rattle.findings.specs.SettledStates.{AreAllInRange, SettledState, settled_at_start, settled_until, states_then}
use Rattle.findings.proofs.ChangedCells.{changes_in_range, settled_in_range, start_in_range}
use Rattle.findings.proofs.SettledStates.{settled_cells}
use Rattle.findings.proofs.cells.cells_at.Goals as goal

pub states_then-requires : goal.states_then-requires
states_then-requires c =
    let model = c.args.model.now in
    let run = c.args.run.now in
    let reached = c.reached_states_are_of_the_model.ensures in
    let valid = c.cells-cells.ensures.valid in
    subst AreAllInRange
    (sym (c.as_slice-2.ensures.value ∙ c.settle_until.ensures
    ∙ (λ i. settled_until c.args.t (c.in_ok-states.ensures i) (c.as_slice.ensures i))))
    (settled_in_range (initial model) run.instants c.args.t
    (start_in_range reached model run.plan run.bound valid c.requires.plan)
    (changes_in_range reached model run.plan run.bound valid c.requires.plan run c.requires.fresh))

pub returns : goal.returns
returns c =
    let model = c.args.model.now in
    let run = c.args.run.now in
    let settled : c.as_slice-2.result.now ≡ settled_until c.args.t (settled_at_start (initial model)) run.instants =
    c.as_slice-2.ensures.value ∙ c.settle_until.ensures ∙ (λ i. settled_until c.args.t (c.in_ok-states.ensures i) (c.as_slice.ensures i)) in
    subst (λ (told : List CellState). IfOk c.states_then.result (λ cells. cells ≡ told))
    (ap (λ (states : List SettledState). states_then c.args.t states) settled
    ∙ settled_cells (initial model) run.instants c.args.t (c.instants_rise.ensures.rise model run.plan run.bound run c.requires.fresh))
    c.states_then.ensures
