-- When a plan is of a model.
use Rattle.std.specs.Prelude.{◌≡◌, ℕ, zero, suc, ◌≤◌, ◌&&◌, not, Bool, true, false, IsTrue, List, [], ◌∷◌, Option, Some, None, option_and_then, option_map, nat_eq, nat_lt, length, map, slice_get, if◌then◌else◌}
use Rattle.std.specs.List.{list_all, list_any}
use Rattle.aerie_base.specs.declared.values.Kind.{Kind}
use Rattle.aerie_base.specs.declared.values.Value.{Value}
use Rattle.aerie_base.specs.declared.models.EnumType.{EnumType}
use Rattle.aerie_base.specs.declared.models.Activity.{Activity}
use Rattle.aerie_base.specs.declared.models.model.Parts.{Parts}
use Rattle.aerie_base.specs.declared.plans.Anchor.{Anchor}
use Rattle.aerie_base.specs.declared.plans.Directive.{Directive}
use Rattle.aerie_base.specs.declared.plans.Plan.{Plan}
use Rattle.aerie_base.specs.models.Signatures.{parameter_kinds}
use Rattle.aerie_base.specs.models.Values.{is_value_of}

-- the most directives of a branch
abbrev pub directive_limit : ℕ
directive_limit = 65_536

-- ---- ids

-- whether ids rise, each being above the one before it and below the next id
abbrev pub rise_to : ℕ → ℕ → List ℕ → Bool
rise_to next_id before [] = nat_lt before next_id
rise_to next_id before (id ∷ rest) = nat_lt before id && rise_to next_id id rest

abbrev pub ids_of : List Directive → List ℕ
ids_of directives = map (λ directive. directive.id) directives

-- the ids of directives rise to some next id
abbrev pub Rise : List Directive → Type 0
Rise directives = (next_id : ℕ) × IsTrue (rise_to next_id 0 (ids_of directives))

-- this is the id of the directive at a place, where there is one
abbrev pub IsIdAt : List Directive → ℕ → ℕ → Type 0
IsIdAt directives at id = (found : Directive) → slice_get directives at ≡ Some found → id ≡ found.id

-- ---- arguments

-- a value for each parameter, of its type
abbrev pub are_values_of : List EnumType → List Kind → List Value → Bool
are_values_of enums [] [] = true
are_values_of enums [] (value ∷ values) = false
are_values_of enums (kind ∷ kinds) [] = false
are_values_of enums (kind ∷ kinds) (value ∷ values) = is_value_of enums kind value && are_values_of enums kinds values

abbrev pub takes : List EnumType → Option Activity → List Value → Bool
takes enums None arguments = false
takes enums (Some activity) arguments = are_values_of enums (parameter_kinds activity) arguments

-- ---- anchors

-- the directive with an id, where there is one
abbrev pub with_id : List Directive → ℕ → Option Directive
with_id [] id = None
with_id (directive ∷ rest) id = if nat_eq directive.id id then Some directive else with_id rest id

-- the id of the directive to which a directive is anchored
abbrev pub anchored_to : Directive → Option ℕ
anchored_to directive = option_map (λ anchor. anchor.to) directive.anchor

-- the id to which the directive with an id is anchored
abbrev pub anchor_of : List Directive → ℕ → Option ℕ
anchor_of directives id = option_and_then anchored_to (with_id directives id)

-- where so many anchors lead from an id
abbrev pub followed : List Directive → ℕ → ℕ → Option ℕ
followed directives zero id = Some id
followed directives (suc steps) id = option_and_then (followed directives steps) (anchor_of directives id)

-- the directive at a place, where there is one, is anchored to this id, or to none
abbrev pub IsAnchorAt : List Directive → ℕ → Option ℕ → Type 0
IsAnchorAt directives at anchor = (found : Directive) → slice_get directives at ≡ Some found → anchor ≡ anchored_to found

-- whether one of some directives has the id
abbrev pub is_id_of : List Directive → ℕ → Bool
is_id_of directives id = list_any (nat_eq id) (ids_of directives)

-- whether an id, where there is one, is one of these
abbrev pub is_none_or : (ℕ → Bool) → Option ℕ → Bool
is_none_or is_id None = true
is_none_or is_id (Some id) = is_id id

abbrev pub is_there : List Directive → Option ℕ → Bool
is_there directives id = is_none_or (is_id_of directives) id

-- whether an anchor is to none of these ids
abbrev pub is_dangling : (ℕ → Bool) → Option Anchor → Bool
is_dangling is_id anchor = not (is_none_or is_id (option_map (λ anchor. anchor.to) anchor))

-- ---- plans

-- a type of the model, a value for each of its parameters, a start below the plan's duration, and an anchor to a
-- directive of the plan
abbrev pub is_directive_of : Parts → Plan → Directive → Bool
is_directive_of model plan directive =
    takes model.enums (slice_get model.activities directive.kind) directive.arguments
    && nat_lt directive.start plan.duration
    && is_there plan.directives (anchored_to directive)

pub record IsPlanOf (model : Parts) (plan : Plan) : Type 0 where
  pub duration : 1 ≤ plan.duration
  pub count : length plan.directives ≤ directive_limit
  pub next_id : 1 ≤ plan.next_id
  -- the ids rise from 1 or more and are below the next id
  pub ids : IsTrue (rise_to plan.next_id 0 (ids_of plan.directives))
  pub directives : IsTrue (list_all (is_directive_of model plan) plan.directives)
  -- following anchors from a directive never returns to it
  pub anchors : (id steps : ℕ) → followed plan.directives (suc steps) id ≡ Some id → ⊥
