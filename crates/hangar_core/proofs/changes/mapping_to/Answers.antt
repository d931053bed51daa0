use Rattle.std.proofs.Common.{sym, ◌∙◌}
use Rattle.hangar_core.proofs.EditedBranches.{mapping_found}
use Rattle.hangar_core.proofs.changes.mapping_to.Goals as goal

pub returns-then-is_named-clause-found : goal.returns-then-is_named-clause-found
returns-then-is_named-clause-found c =
    mapping_found c.args.models.now c.args.mappings.now c.args.from c.args.name.now c.loop-place.place c.index-mappings-place.result
    c.loop-place-test.true c.index-mappings-place.is c.loop-place.invariant c.if-mapping-from.true (sym c.is_named.ensures ∙ c.if-is_named.true)
