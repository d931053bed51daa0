use Rattle.std.proofs.Common.{◌≡◌, IsTrue, map, sym, ◌∙◌, subst}
use Rattle.aerie_base.specs.declared.models.model.Parts.{Parts}
use Rattle.aerie_base.specs.models.ValidModel.{valid_model}
use Rattle.session_reader.specs.Beginnings.{cell_begun, model_begun}
use Rattle.session_reader.proofs.begun_models.model_begun.Goals as goal

pub new-requires : goal.new-requires
new-requires c =
    let name = c.in_ok-name.ensures ∙ c.name.ensures.value in
    let cells = c.into_vec-2.ensures ∙ (c.in_ok-cells.ensures ∙ (λ i. map (cell_begun (c.enums.ensures.value i) c.args.beginnings.now) (c.cells.ensures.value i))) in
    let enums = c.into_vec.ensures ∙ (c.in_ok-enums.ensures ∙ c.enums-2.ensures.value) in
    let resources = c.into_vec-3.ensures ∙ (c.in_ok-resources.ensures ∙ c.resources.ensures.value) in
    let activities = c.into_vec-4.ensures ∙ (c.in_ok-activities.ensures ∙ c.activities.ensures.value) in
    let daemons = c.into_vec-5.ensures ∙ (c.in_ok-daemons.ensures ∙ c.daemons.ensures.value) in
    let parts : _ ≡ model_begun c.args.beginnings.now c.args.model.now =
    (λ i. record { name = name i; enums = enums i; cells = cells i; resources = resources i; activities = activities i; daemons = daemons i }) in
    subst (λ (model : Parts). IsTrue (valid_model model)) (sym parts) c.requires.good

pub returns : goal.returns
returns c =
    let name = c.in_ok-name.ensures ∙ c.name.ensures.value in
    let cells = c.into_vec-2.ensures ∙ (c.in_ok-cells.ensures ∙ (λ i. map (cell_begun (c.enums.ensures.value i) c.args.beginnings.now) (c.cells.ensures.value i))) in
    let enums = c.into_vec.ensures ∙ (c.in_ok-enums.ensures ∙ c.enums-2.ensures.value) in
    let resources = c.into_vec-3.ensures ∙ (c.in_ok-resources.ensures ∙ c.resources.ensures.value) in
    let activities = c.into_vec-4.ensures ∙ (c.in_ok-activities.ensures ∙ c.activities.ensures.value) in
    let daemons = c.into_vec-5.ensures ∙ (c.in_ok-daemons.ensures ∙ c.daemons.ensures.value) in
    let parts : _ ≡ model_begun c.args.beginnings.now c.args.model.now =
    (λ i. record { name = name i; enums = enums i; cells = cells i; resources = resources i; activities = activities i; daemons = daemons i }) in
    record { made = c.new.ensures ∙ parts }
