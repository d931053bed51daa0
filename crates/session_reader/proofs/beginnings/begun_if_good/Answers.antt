use Rattle.std.proofs.Common.{◌≡◌, List, [], sym, ap, ◌∙◌, subst}
use Rattle.aerie_base.specs.declared.models.model.Parts.{Parts}
use Rattle.diagnostics.specs.NotedInTurn.{none_found}
use Rattle.session_reader.specs.Beginnings.{models_begun, plan_diagnostics}
use Rattle.session_reader.specs.Diagnostics.{number_of_cause}
use Rattle.session_reader.proofs.BegunModels.{good_begun, some_wrong, wrong_kept}
use Rattle.session_reader.proofs.beginnings.begun_if_good.Goals as goal

pub returns-in-Some-clause-made : goal.returns-in-Some-clause-made
returns-in-Some-clause-made c =
    let wrong = plan_diagnostics c.args.beginnings.now c.args.models in
    wrong_kept c.args.beginnings.now c.args.models wrong (some_wrong wrong _ (sym c.requires.noted ∙ c.in-Some.is))

pub models_begun-requires-clause-nothing : goal.models_begun-requires-clause-nothing
models_begun-requires-clause-nothing c =
    subst (λ (models : List Parts). plan_diagnostics c.args.beginnings.now models ≡ []) (sym c.as_slice.ensures)
    (none_found number_of_cause (plan_diagnostics c.args.beginnings.now c.args.models) (sym c.requires.noted ∙ c.in-None.is))

pub returns-in_ok-begun-in-None-clause-made : goal.returns-in_ok-begun-in-None-clause-made
returns-in_ok-begun-in-None-clause-made c =
    c.in_ok-begun-in-None.ensures.made ∙ (ap (models_begun c.args.beginnings.now) c.as_slice.ensures
    ∙ good_begun c.args.beginnings.now c.args.models (none_found number_of_cause (plan_diagnostics c.args.beginnings.now c.args.models) (sym c.requires.noted ∙ c.in-None.is)))
