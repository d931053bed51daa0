use Rattle.std.proofs.Common.{◌+◌, Some, sym, ap, ◌∙◌}
use Rattle.aerie_base.specs.declared.plans.Plan.{Plan}
use Rattle.hangar_core.proofs.EditedBranches.{edited_stays, model_at, refusal_made}
use Rattle.hangar_core.proofs.changes.edited.Goals as goal

pub returns-in-Ok-clause-stays : goal.returns-in-Ok-clause-stays
returns-in-Ok-clause-stays c = λ duration h.
    edited_stays c.args.models.now duration c.args.branch.now c.get-2.result.now c.args.edit.now c.edit.new.self (c.args.branch.now.revision + 1)
    (model_at c.args.models.now c.args.branch.now.plan c.from.result c.index-models-from.result
    (c.from.ensures ∙ ap (λ (p : Plan). p.model) c.get.ensures) c.requires.plan c.index-models-from.is ∙ ap Some (sym c.get-2.ensures))
    c.in-Ok.ensures.edited c.edit.ensures.plan h

pub returns-in-Err-clause-made : goal.returns-in-Err-clause-made
returns-in-Err-clause-made c =
    refusal_made c.in-Err.refusal c.refused.result _ c.args.models.now c.args.branch.now c.get-2.result.now c.args.edit.now c.refused.ensures
    (model_at c.args.models.now c.args.branch.now.plan c.from.result c.index-models-from.result
    (c.from.ensures ∙ ap (λ (p : Plan). p.model) c.get.ensures) c.requires.plan c.index-models-from.is ∙ ap Some (sym c.get-2.ensures))
    c.in-Err.ensures.refused (ap (λ (p : Plan). record c.args.branch.now { plan = p }) c.in-Err.ensures.unchanged)
