use Rattle.std.proofs.Common.{◌∙◌, ◌++◌, ◌∷◌, [], ap, arith}
use Rattle.task_step.specs.Overlays.{written_state}
use Rattle.task_step.proofs.WrittenPlaces.{place_small, add_found, add_puts, stands_last}
use Rattle.task_step.proofs.written_cells.WrittenCells.add.Goals as goal

pub note_place-requires : goal.note_place-requires
note_place-requires c =
    let fresh = ap (written_state c.args.cell) (c.self.view_is ∙ c.grow.ensures) ∙ c.requires.fresh in
    omega (arith, place_small c.self.inside.cells.items c.self.inside.places.items c.args.cell c.args.state c.requires.cell c.self.invariant fresh, c.len-place.ensures, c.self.inside.cells.ok.0)

pub invariant_of-self-2 : goal.invariant_of-self-2
invariant_of-self-2 c =
    let fresh = ap (written_state c.args.cell) (c.self.view_is ∙ c.grow.ensures) ∙ c.requires.fresh in
    add_found c.self.inside.cells.items c.push.new.self.items c.self.inside.places.items c.note_place.new.table.items c.args.cell c.len-place.result c.args.state c.requires.cell c.self.invariant fresh
    c.in_ok-push.ensures.items (c.len-place.ensures ∙ c.self.inside.cells.ok.0) c.note_place.ensures

pub returns-clause-added : goal.returns-clause-added
returns-clause-added c = λ other.
    ap (written_state other) c.in_ok-push.ensures.items
    ∙ ap (λ l. written_state other (l ++ (c.args.cell, c.args.state) ∷ [])) (c.self.view_is ∙ c.grow.ensures)
    ∙ add_puts c.args.cell c.args.state c.args.self.now c.requires.fresh other

pub returns-clause-place : goal.returns-clause-place
returns-clause-place c =
    stands_last c.self.inside.cells.items c.push.new.self.items c.args.cell c.len-place.result c.args.state c.in_ok-push.ensures.items (c.len-place.ensures ∙ c.self.inside.cells.ok.0)
