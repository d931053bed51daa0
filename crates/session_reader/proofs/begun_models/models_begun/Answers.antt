use Rattle.std.proofs.Common.{List, [], ◌∷◌, ◌++◌, sym, ap, ◌∙◌, subst}
use Rattle.aerie_base.specs.declared.models.model.Parts.{Parts}
use Rattle.session_reader.specs.Beginnings.{model_begun}
use Rattle.session_reader.specs.CheckedModels.{AreValid}
use Rattle.session_reader.proofs.BegunModels.{are_begun, first_empty, others_valid}
use Rattle.session_reader.proofs.begun_models.models_begun.Goals as goal

pub first_begun-requires-clause-nothing : goal.first_begun-requires-clause-nothing
first_begun-requires-clause-nothing c =
    let parts = rw c.in-Some.is at c.split_first.ensures.cases in
    first_empty c.args.beginnings.now c.args.models.now c.get.result.now _ (parts.0 ∙ ap (λ (m : Parts). m ∷ c.in-Some.others.now) (sym c.get.ensures)) c.requires.nothing

pub returns-in_ok-push_shared-in-Some-clause-made : goal.returns-in_ok-push_shared-in-Some-clause-made
returns-in_ok-push_shared-in-Some-clause-made c =
    let parts = rw c.in-Some.is at c.split_first.ensures.cases in
    let first = c.in_ok-push-in-Some.ensures.pushed ∙ ap (λ (ms : List Parts). ms ++ c.in_ok-first_begun-in-Some.field-0 ∷ []) c.new-begun.ensures in
    let all = c.in_ok-push_shared-in-Some.ensures ∙ ap (λ (ms : List Parts). ms ++ c.in-Some.others.now) first in
    all ∙ are_begun c.args.beginnings.now c.args.models.now c.in-Some.first.now c.in_ok-first_begun-in-Some.field-0 c.in-Some.others.now parts.0
    (c.in_ok-first_begun-in-Some.ensures.made ∙ ap (model_begun c.args.beginnings.now) c.get.ensures)

pub returns-in_ok-push_shared-in-Some-clause-valid : goal.returns-in_ok-push_shared-in-Some-clause-valid
returns-in_ok-push_shared-in-Some-clause-valid c =
    let parts = rw c.in-Some.is at c.split_first.ensures.cases in
    let first = c.in_ok-push-in-Some.ensures.pushed ∙ ap (λ (ms : List Parts). ms ++ c.in_ok-first_begun-in-Some.field-0 ∷ []) c.new-begun.ensures in
    let all = c.in_ok-push_shared-in-Some.ensures ∙ ap (λ (ms : List Parts). ms ++ c.in-Some.others.now) first in
    subst AreValid (sym all) (c.in_ok-first_begun-in-Some.ensures.valid, others_valid c.args.models.now c.in-Some.first.now c.in-Some.others.now parts.0 c.requires.valid)
