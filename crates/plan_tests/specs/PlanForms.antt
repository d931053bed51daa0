-- Worked cases of values of JSON that are plans, or are none.
use Rattle.std.specs.Prelude.{◌≡◌, ℕ, pos, List, [], ◌∷◌, codes, Some, None, refl}
use Rattle.serde_json.specs.Data.{Data, number, string, unsigned}
use Rattle.aerie_base.specs.declared.arguments.RawValue.TheVariants as raw
use Rattle.aerie_base.specs.declared.plans.Edge.TheVariants.{End}
use Rattle.json_line.specs.Json.{object_of}
use Rattle.aerie_text.specs.Sorts.{word_sort}
use Rattle.plan_edit.specs.PlanForm.{value_of_json, anchor_of_json, type_of_json, directive_of_json}

pub a_variant_by_its_word : value_of_json (string (codes "Mode.SAFE")) ≡ Some (raw.Word (codes "Mode.SAFE"))
unfolding word_sort
a_variant_by_its_word = refl

pub a_word_without_a_dot : value_of_json (string (codes "SAFE")) ≡ None
unfolding word_sort
a_word_without_a_dot = refl

pub a_reserved_variant : value_of_json (string (codes "Mode.plan")) ≡ None
unfolding word_sort
a_reserved_variant = refl

pub an_anchor : anchor_of_json (object_of ((codes "edge", string (codes "end")) ∷ (codes "to", number (unsigned 9)) ∷ []))
    ≡ Some (record { to = 9; edge = End })
an_anchor = refl

pub an_edge_that_is_none : anchor_of_json (object_of ((codes "edge", string (codes "begin")) ∷ (codes "to", number (unsigned 9)) ∷ [])) ≡ None
an_edge_that_is_none = refl

pub a_reserved_type : type_of_json (object_of ((codes "type", string (codes "plan")) ∷ [])) ≡ None
unfolding word_sort
a_reserved_type = refl

abbrev bump_with : List (List ℕ × Data) → Data
bump_with more =
    object_of ((codes "arguments", object_of ((codes "by", number (unsigned 3)) ∷ [])) ∷ (codes "start", number (unsigned 5)) ∷ (codes "type", string (codes "Bump")) ∷ more)

pub a_directive : directive_of_json (bump_with [])
    ≡ Some (record { id = None; start = 5; anchor = None; kind = codes "Bump"; arguments = record { name = codes "by"; value = raw.Int (pos 3) } ∷ [] })
unfolding word_sort
a_directive = refl

pub a_member_more : directive_of_json (bump_with ((codes "revision", number (unsigned 0)) ∷ [])) ≡ None
a_member_more = refl
