-- The value of JSON as which a plan is shown: `show` prints it, and `load` reads it.
use Rattle.std.specs.Prelude.{ℕ, ℤ, pos, negsuc, List, [], ◌∷◌, codes, map, slice_get, Option, Some, None, option_map, option_and_then, unwrap_or}
use Rattle.serde_json.specs.Data.{Data, boolean, number, string, array, unsigned, negative}
use Rattle.serde_json.specs.View.{items_of}
use Rattle.aerie_base.specs.declared.values.Value.{Value}
use Rattle.aerie_base.specs.declared.values.Value.TheVariants.{Int, Truth, Variant}
use Rattle.aerie_base.specs.declared.models.EnumType.{EnumType}
use Rattle.aerie_base.specs.declared.models.Parameter.{Parameter}
use Rattle.aerie_base.specs.declared.models.Activity.{Activity}
use Rattle.aerie_base.specs.declared.models.model.Parts.{Parts}
use Rattle.aerie_base.specs.declared.plans.Anchor.{Anchor}
use Rattle.aerie_base.specs.declared.plans.Edge.{Edge}
use Rattle.aerie_base.specs.declared.plans.Edge.TheVariants.{Start, End}
use Rattle.aerie_base.specs.declared.plans.Directive.{Directive}
use Rattle.aerie_base.specs.declared.plans.Plan.{Plan}
use Rattle.json_line.specs.Json.{object_of}
use Rattle.plan_edit.specs.Arguments.{written_variant}

-- the name and the value of each member of an object
abbrev pub Fields : Type 0
Fields = List (List ℕ × Data)

-- ---- arguments

abbrev pub json_of_number : ℤ → Data
json_of_number (pos n) = number (unsigned n)
json_of_number (negsuc n) = number (negative (negsuc n))

-- the word that writes a variant, where the enumeration has one of that number
abbrev pub word_of_variant : List EnumType → ℕ → ℕ → Option (List ℕ)
word_of_variant enums kind variant =
    option_and_then (λ enum. option_map (written_variant enum) (slice_get enum.variants variant)) (slice_get enums kind)

-- a whole number as it is, a truth as it is, a variant by its word
abbrev pub json_of_value : List EnumType → Value → Data
json_of_value enums (Int z) = json_of_number z
json_of_value enums (Truth truth) = boolean truth
json_of_value enums (Variant kind variant) = string (unwrap_or (word_of_variant enums kind variant) [])

-- each value by its parameter's name
abbrev pub argument_fields : List EnumType → List Parameter → List Value → Fields
argument_fields enums [] values = []
argument_fields enums (parameter ∷ rest) [] = []
argument_fields enums (parameter ∷ rest) (value ∷ values) =
    (parameter.name, json_of_value enums value) ∷ argument_fields enums rest values

-- ---- directives

abbrev pub edge_word : Edge → List ℕ
edge_word Start = codes "start"
edge_word End = codes "end"

abbrev pub json_of_anchor : Anchor → Data
json_of_anchor anchor =
    object_of ((codes "edge", string (edge_word anchor.edge)) ∷ (codes "to", number (unsigned anchor.to)) ∷ [])

-- the anchor is a member only where there is one
abbrev pub anchor_fields : Option Anchor → Fields
anchor_fields None = []
anchor_fields (Some anchor) = (codes "anchor", json_of_anchor anchor) ∷ []

abbrev pub directive_fields : List EnumType → Activity → Directive → Fields
directive_fields enums activity directive =
    (codes "arguments", object_of (argument_fields enums activity.parameters directive.arguments))
    ∷ (codes "id", number (unsigned directive.id))
    ∷ (codes "start", number (unsigned directive.start))
    ∷ (codes "type", string activity.name)
    ∷ anchor_fields directive.anchor

-- the members of a directive of the model, by its type
abbrev pub fields_by_type : List EnumType → Option Activity → Directive → Fields
fields_by_type enums None directive = []
fields_by_type enums (Some activity) directive = directive_fields enums activity directive

abbrev pub json_of_directive : Parts → Directive → Data
json_of_directive model directive =
    object_of (fields_by_type model.enums (slice_get model.activities directive.kind) directive)

-- ---- plans

-- an object with the one member `directives`
abbrev pub json_of_plan : Parts → Plan → Data
json_of_plan model plan =
    object_of ((codes "directives", array (items_of (map (json_of_directive model) plan.directives))) ∷ [])
