use Rattle.std.proofs.Common.{◌∙◌, ap, Some, nat_eq, if◌then◌else◌}
use Rattle.std.specs.Prelude.{slice_get}
use Rattle.task_step.specs.Overlays.{written_state}
use Rattle.task_step.proofs.WrittenPlaces.{state_set, set_found}
use Rattle.task_step.proofs.written_cells.WrittenCells.set.Goals as goal

pub returns : goal.returns
returns c = λ other.
    state_set c.self.inside.cells.items c.self.invariant.once.0 c.args.cell c.args.place c.requires.0 c.args.state c.index_mut.result.now c.self.invariant.once.1
    (ap (λ l. slice_get l c.args.place) c.self.view_is ∙ c.requires.1) c.index_mut.ensures.value other
    ∙ ap (λ l. if nat_eq other c.args.cell then Some c.args.state else written_state other l) c.self.view_is

pub invariant_of-self : goal.invariant_of-self
invariant_of-self c =
    set_found c.self.inside.cells.items c.self.inside.places.items c.args.cell c.args.place c.requires.0 c.args.state c.index_mut.result.now c.self.invariant
    (ap (λ l. slice_get l c.args.place) c.self.view_is ∙ c.requires.1) c.index_mut.ensures.value
