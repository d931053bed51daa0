use Rattle.std.proofs.Common.{◌∷◌, List, [], refl, ap, ◌∙◌}
use Rattle.aerie_base.specs.declared.models.CellStart.{CellStart}
use Rattle.aerie_base.specs.declared.models.CellStart.TheVariants as cell
use Rattle.aerie_base.specs.declared.models.Resource.TheVariants as resource
use Rattle.aerie_base.specs.declared.operands.CellRead.{CellRead}
use Rattle.model_reader.specs.declared.raw.items.RawItem.TheVariants.{Enum, Counter, Register, Accumulator, Discrete, Linear, Activity as RawActivity, Daemon as RawDaemon}
use Rattle.model_reader.specs.declared.raw.items.RawParameter.{RawParameter}
use Rattle.model_reader.specs.declared.raw.names.RawName.{RawName}
use Rattle.model_check.specs.BodyScopes.{empty_scope}
use Rattle.model_check.specs.DeclaredParts.{enum_type}
use Rattle.model_check.specs.Diagnostics.{noted}
use Rattle.model_check.specs.ModelDiagnostics.{repeated_diagnostics, parameter_scope, activity_diagnostics_in}
use Rattle.model_check.specs.ModelMeaning.{activity_in}
use Rattle.model_check.specs.CheckedParts.{with_checked_cell, with_checked_resource}
use Rattle.model_check.proofs.MadeParts.{as_item}
use Rattle.model_check.proofs.PartsInTurn.{cells_more, resources_more, added_enum, added_activity, added_daemon}
use Rattle.model_check.proofs.parts.add_item.Goals as goal

pub returns-in_ok-add_cell-in-Counter : goal.returns-in_ok-add_cell-in-Counter
returns-in_ok-add_cell-in-Counter c =
    let symbols = c.args.symbols.now in
    let parts = c.args.parts.now in
    as_item symbols c.args.item.now (Counter c.in-Counter.name c.in-Counter.start) c.in-Counter.is parts _ _ _
    (cells_more symbols parts _ ((c.in-Counter.name.name, cell.Counter c.in-Counter.start) ∷ []) c.in_ok-add_cell-in-Counter.ensures) refl

pub returns-in_ok-add_cell-in-Register : goal.returns-in_ok-add_cell-in-Register
returns-in_ok-add_cell-in-Register c =
    let symbols = c.args.symbols.now in
    let parts = c.args.parts.now in
    as_item symbols c.args.item.now (Register c.in-Register.name c.in-Register.kind c.in-Register.start) c.in-Register.is parts _ _ _
    (cells_more symbols parts _ _ (c.in_ok-add_cell-in-Register.ensures ∙ ap (λ (s : CellStart). with_checked_cell parts c.in-Register.name s) c.register_start-made.ensures.0)) c.register_start-made.ensures.1

pub returns-in_ok-add_cell-in-Accumulator : goal.returns-in_ok-add_cell-in-Accumulator
returns-in_ok-add_cell-in-Accumulator c =
    let symbols = c.args.symbols.now in
    let parts = c.args.parts.now in
    as_item symbols c.args.item.now (Accumulator c.in-Accumulator.name c.in-Accumulator.volume c.in-Accumulator.rate) c.in-Accumulator.is parts _ _ _
    (cells_more symbols parts _ _ (c.in_ok-add_cell-in-Accumulator.ensures ∙ ap (λ (s : CellStart). with_checked_cell parts c.in-Accumulator.name s) c.accumulator_start-made.ensures.0)) c.accumulator_start-made.ensures.1

pub returns-in_ok-add_resource-in-Discrete : goal.returns-in_ok-add_resource-in-Discrete
returns-in_ok-add_resource-in-Discrete c =
    let symbols = c.args.symbols.now in
    let parts = c.args.parts.now in
    as_item symbols c.args.item.now (Discrete c.in-Discrete.name c.in-Discrete.read) c.in-Discrete.is parts _ _ _
    (resources_more symbols parts _ _ (c.in_ok-add_resource-in-Discrete.ensures ∙ ap (λ (r : CellRead). with_checked_resource parts c.in-Discrete.name (resource.Discrete r)) c.discrete-made.ensures.0)) c.discrete-made.ensures.1

pub returns-in_ok-add_resource-in-Linear : goal.returns-in_ok-add_resource-in-Linear
returns-in_ok-add_resource-in-Linear c =
    let symbols = c.args.symbols.now in
    let parts = c.args.parts.now in
    as_item symbols c.args.item.now (Linear c.in-Linear.name c.in-Linear.sum) c.in-Linear.is parts _ _ _
    (resources_more symbols parts _ _ (c.in_ok-add_resource-in-Linear.ensures ∙ ap (λ r. with_checked_resource parts c.in-Linear.name (resource.Linear r)) c.in_ok-made-in-Linear.ensures.0)) c.in_ok-made-in-Linear.ensures.1

pub returns-in_ok-push-in-Enum : goal.returns-in_ok-push-in-Enum
returns-in_ok-push-in-Enum c =
    let symbols = c.args.symbols.now in
    let parts = c.args.parts.now in
    as_item symbols c.args.item.now (Enum c.in-Enum.name c.in-Enum.variants) c.in-Enum.is parts _ _ _
    (added_enum symbols parts c.push.new.self c.in_ok-made-in-Enum.made c.in-Enum.name c.in-Enum.variants c.in_ok-push-in-Enum.ensures.pushed
    (c.in_ok-made-in-Enum.ensures.0 ∙ ap (λ (xs : List RawName). enum_type c.in-Enum.name xs) c.as_slice.ensures))
    (c.in_ok-made-in-Enum.ensures.1 ∙ ap (λ (xs : List RawName). noted c.args.found.now (repeated_diagnostics [] xs)) c.as_slice.ensures)

pub returns-in_ok-push-in-Daemon : goal.returns-in_ok-push-in-Daemon
returns-in_ok-push-in-Daemon c =
    let symbols = c.args.symbols.now in
    let parts = c.args.parts.now in
    as_item symbols c.args.item.now (RawDaemon c.in-Daemon.body) c.in-Daemon.is parts _ _ _
    (added_daemon symbols parts _ c.in_ok-made-in-Daemon.made c.in-Daemon.body c.in_ok-push-in-Daemon.ensures.pushed c.in_ok-made-in-Daemon.ensures.0)
    c.in_ok-made-in-Daemon.ensures.1

pub returns-in_ok-push-in-Activity : goal.returns-in_ok-push-in-Activity
returns-in_ok-push-in-Activity c =
    let symbols = c.args.symbols.now in
    let parts = c.args.parts.now in
    let scope = λ (ps : List RawParameter). parameter_scope symbols empty_scope ps in
    as_item symbols c.args.item.now (RawActivity c.in-Activity.name c.in-Activity.parameters c.in-Activity.result c.in-Activity.requires_ c.in-Activity.body) c.in-Activity.is parts _ _ _
    (added_activity symbols parts _ c.in_ok-made-in-Activity.made c.in-Activity.name c.in-Activity.parameters c.in-Activity.result c.in-Activity.requires_ c.in-Activity.body c.in_ok-push-in-Activity.ensures.pushed
    (c.in_ok-made-in-Activity.ensures.0
    ∙ (λ j. activity_in symbols (scope (c.as_slice-parameters.ensures j)) c.in-Activity.name (c.as_slice-parameters.ensures j) c.in-Activity.result (c.as_slice-truths.ensures j) c.in-Activity.body)))
    (c.in_ok-made-in-Activity.ensures.1
    ∙ (λ j. noted c.args.found.now (activity_diagnostics_in symbols (scope (c.as_slice-parameters.ensures j)) c.in-Activity.name (c.as_slice-parameters.ensures j) c.in-Activity.result (c.as_slice-truths.ensures j) c.in-Activity.body)))
