-- A plan that is shown and loaded again.
use Rattle.std.specs.Prelude.{◌≡◌, ℕ, ◌+◌, ◌≤◌, ◌&&◌, Bool, true, IsTrue, List, length, map, nat_eq, position, Option, Some, None, is_none, option_map, slice_get, unwrap_or, Ok}
use Rattle.std.specs.List.{list_all}
use Rattle.serde_json.specs.Read.{read}
use Rattle.aerie_base.specs.Ranges.{time_limit}
use Rattle.aerie_base.specs.declared.models.EnumType.{EnumType}
use Rattle.aerie_base.specs.declared.models.Activity.{Activity}
use Rattle.aerie_base.specs.declared.models.model.Parts.{Parts}
use Rattle.aerie_base.specs.declared.plans.Anchor.{Anchor}
use Rattle.aerie_base.specs.declared.plans.Directive.{Directive}
use Rattle.aerie_base.specs.declared.plans.Plan.{Plan}
use Rattle.aerie_base.specs.models.ValidModel.{valid_model}
use Rattle.aerie_base.specs.plans.OfModel.{IsPlanOf}
use Rattle.plan_edit.specs.Loading.{load_of, with_loaded}
use Rattle.plan_edit.specs.PlanForm.{is_free_name}
use Rattle.plan_edit.specs.Requires.{first_unmet}
use Rattle.plan_edit.specs.ShownPlan.{json_of_plan}

-- ---- new ids

-- the new id of the directive with an id: the first new one, and as many more as directives stand before it
abbrev pub loaded_id : ℕ → List Directive → ℕ → ℕ
loaded_id first directives id = first + unwrap_or (position (λ directive. nat_eq directive.id id) directives) 0

-- an anchor to the new id of the directive that it names
abbrev pub to_new_id : ℕ → List Directive → Anchor → Anchor
to_new_id first directives anchor = record anchor { to = loaded_id first directives anchor.to }

-- a directive under its new id, with its anchor to the new id of the one that it names
abbrev pub under_new_id : ℕ → List Directive → Directive → Directive
under_new_id first directives directive = record directive {
  id = loaded_id first directives directive.id;
  anchor = option_map (to_new_id first directives) directive.anchor;
}

-- a plan with the directives of another one, under new ids, in place of its own
abbrev pub with_directives_of : Plan → Plan → Plan
with_directives_of shown target = with_loaded target (map (under_new_id target.next_id shown.directives) shown.directives)

-- ---- what can be loaded

-- whether the words of an enumeration are names that are not reserved
abbrev pub is_free_enum : EnumType → Bool
is_free_enum enum = is_free_name enum.name && list_all is_free_name enum.variants

abbrev pub is_free_type : Activity → Bool
is_free_type activity = is_free_name activity.name && list_all (λ parameter. is_free_name parameter.name) activity.parameters

-- whether the words of a model's plans are names that are not reserved, as they are in every model that was read
abbrev pub has_free_words : Parts → Bool
has_free_words model = list_all is_free_enum model.enums && list_all is_free_type model.activities

abbrev pub meets_type : Directive → Option Activity → Bool
meets_type directive None = true
meets_type directive (Some activity) = is_none (first_unmet 0 directive.arguments activity.requires_)

-- whether the arguments of a directive meet the `require`s of its type
abbrev pub meets_requires : Parts → Directive → Bool
meets_requires model directive = meets_type directive (slice_get model.activities directive.kind)

-- a plan of a model that can be loaded into another plan: its `require`s are met, and the other one lasts as long and has room
pub record CanBeLoaded (model : Parts) (shown target : Plan) : Type 0 where
  pub plan : IsPlanOf model shown
  pub words : IsTrue (has_free_words model)
  pub met : IsTrue (list_all (meets_requires model) shown.directives)
  pub ids : shown.next_id ≤ 4_294_967_296
  pub times : shown.duration ≤ time_limit
  pub lasts : shown.duration ≤ target.duration
  pub room : target.next_id + length shown.directives ≤ 4_294_967_295

-- ---- the law

-- a text that is the value as which a plan of the model is shown is loaded as the same directives under new ids
abbrev pub ShownPlansAreLoaded : Type 0
ShownPlansAreLoaded = (model : Parts) → IsTrue (valid_model model) → (shown target : Plan) → CanBeLoaded model shown target →
    (text : List ℕ) → read text ≡ Some (json_of_plan model shown) → load_of model target text ≡ Ok (with_directives_of shown target)
