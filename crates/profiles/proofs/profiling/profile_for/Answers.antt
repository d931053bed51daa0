use Rattle.std.proofs.Common.{List, ℕ, [], length, ap, ◌∙◌, slice_get}
use Rattle.aerie_base.specs.declared.linear.Term.{Term}
use Rattle.profiles.specs.Touches.{positions_from, positions_if}
use Rattle.profiles.proofs.Resources.{discrete_is, linear_is}
use Rattle.profiles.proofs.TermPositions.{covers_cell, covers_terms}
use Rattle.profiles.proofs.Terms.{form_of}
use Rattle.profiles.proofs.profiling.profile_for.Goals as goal

pub value_profile-requires-clause-positions : goal.value_profile-requires-clause-positions
value_profile-requires-clause-positions c =
    covers_cell c.args.run.now.instants (length c.args.model.now.cells) c.args.by_cell.now c.requires.touches _ c.positions_of-positions.result.now
    (discrete_is c.args.model.now.cells c.in-Discrete.read c.args.resource.now c.requires.resource c.in-Discrete.is).1
    (c.positions_of-positions.ensures ∙ ap (λ (cell : ℕ). positions_if (slice_get c.args.by_cell.now cell)) c.cell.ensures)

pub line_profile-requires-clause-positions : goal.line_profile-requires-clause-positions
line_profile-requires-clause-positions c =
    let form = c.in-Linear.form in
    let known = form_of c.args.model.now.cells form (linear_is c.args.model.now.cells form c.args.resource.now c.requires.resource c.in-Linear.is) in
    covers_terms c.args.run.now.instants (length c.args.model.now.cells) c.args.by_cell.now c.requires.touches form.terms c.as_slice-in-Linear.result.now known.terms
    (c.as_slice-in-Linear.ensures.value
    ∙ (c.in_ok-positions-in-Linear.ensures ∙ ap (λ (terms : List Term). positions_from [] c.args.by_cell.now terms) c.as_slice.ensures))
