use Rattle.std.proofs.Common.{◌≡◌, Option, sym, subst}
use Rattle.std.specs.Prelude.{IfOk}
use Rattle.plan_edit.specs.declared.mappings.Mapping.{Mapping}
use Rattle.hangar_core.specs.declared.replies.Reply.{Reply}
use Rattle.hangar_core.specs.Changing.{Told, migrated_by}
use Rattle.hangar_core.proofs.EditedBranches.{mapping_chosen, mapping_from}
use Rattle.hangar_core.proofs.changes.migrated.Goals as goal

pub migrated_by-requires-clause-from : goal.migrated_by-requires-clause-from
migrated_by-requires-clause-from c =
    mapping_from c.args.models.now c.args.mappings.now c.args.branch.now.plan.model c.args.name.now c.index-mappings-place.result
    (mapping_chosen c.args.models.now c.args.mappings.now c.args.branch.now.plan c.get.result.now c.args.name.now c.in-Some.place c.index-mappings-place.result
    c.get.ensures c.in-Some.ensures.found c.in-Some.ensures.within c.index-mappings-place.is)

pub returns-in-Some-clause-made : goal.returns-in-Some-clause-made
returns-in-Some-clause-made c =
    subst (λ (o : Option Mapping). IfOk c.migrated_by.result (λ (told : Reply). ◌≡◌ {A = Told} (told, c.migrated_by.new.branch) (migrated_by c.args.models.now c.args.branch.now o)))
    (sym (mapping_chosen c.args.models.now c.args.mappings.now c.args.branch.now.plan c.get.result.now c.args.name.now c.in-Some.place c.index-mappings-place.result
    c.get.ensures c.in-Some.ensures.found c.in-Some.ensures.within c.index-mappings-place.is)) c.migrated_by.ensures.made
