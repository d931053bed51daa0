-- The members of a directive stand in the order of their names.
use Rattle.std.proofs.Common.{◌≡◌, ◌++◌, ◌∙◌, ℕ, ap, refl, rules, slice_get, sym}
use Rattle.std.specs.Prelude.{List}
use Rattle.std.proofs.lemmas.Option.{slice_get_past, slice_get_read}
use Rattle.std.proofs.lemmas.Result.{IfOk-equal}
use Rattle.serde_json.specs.Data.{Data}
use Rattle.aerie_base.specs.declared.models.Activity.{Activity}
use Rattle.aerie_base.specs.declared.models.model.Parts.{Parts}
use Rattle.json_line.specs.Parts.{data_tokens}
use Rattle.report_text.proofs.ShownDirectives.{shown_as_none, shown_directive}
use Rattle.report_text.proofs.plans.DirectiveJsonInWording.write_in.Goals as goal

-- the type that is looked up is the model's
looked_up : (model other : Parts) (all : List Activity) (kind at : ℕ) → all ≡ other.activities → other ≡ model → at ≡ kind →
    slice_get model.activities kind ≡ slice_get all at
looked_up model other all kind at is same here =
    sym (ap (λ (list : List Activity). slice_get list at) (is ∙ ap (λ (parts : Parts). parts.activities) same) ∙ ap (slice_get model.activities) here)

pub returns-in-Some : goal.returns-in-Some
returns-in-Some c =
    let model = c.args.wording.now in
    let directive = c.args.self.now in
    let all = c.activities.result.now in
    let lookup = c.in-Some.ensures.lookup in
    let found = slice_get_read all _ c.from.result c.in-Some.activity.now refl (search rules) (search rules) in
    let is = looked_up model c.model.result.now all directive.kind c.from.result c.activities.ensures.value c.model.ensures c.from.ensures ∙ found in
    IfOk-equal _ _ _ _ c.write_of_type.ensures
    (ap (λ (d : Data). c.args.line.now ++ data_tokens d) (shown_directive model directive c.in-Some.activity.now is))

pub returns-in-None : goal.returns-in-None
returns-in-None c =
    let model = c.args.wording.now in
    let directive = c.args.self.now in
    let all = c.activities.result.now in
    let lookup = c.in-None.ensures.lookup in
    let past = slice_get_past all c.from.result (search rules) in
    let is = looked_up model c.model.result.now all directive.kind c.from.result c.activities.ensures.value c.model.ensures c.from.ensures ∙ past in
    IfOk-equal _ _ _ _ c.write_none.ensures
    (ap (λ (d : Data). c.args.line.now ++ data_tokens d) (shown_as_none model directive is))
