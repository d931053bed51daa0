-- The members of a directive in the order of their names, with the anchor only where there is one.
use Rattle.std.proofs.Common.{◌≡◌, ◌∙◌, ap, refl, sym, ◌∷◌, [], slice_get}
use Rattle.std.specs.Prelude.{codes, Option, Some, None, option_map}
use Rattle.serde_json.specs.Data.{Data, member, no_members, object, string}
use Rattle.aerie_base.specs.declared.models.Activity.{Activity}
use Rattle.aerie_base.specs.declared.models.model.Parts.{Parts}
use Rattle.aerie_base.specs.declared.plans.Anchor.{Anchor}
use Rattle.aerie_base.specs.declared.plans.Directive.{Directive}
use Rattle.json_line.specs.Json.{object_of}
use Rattle.json_line.specs.Parts.{member_if}
use Rattle.plan_edit.specs.ShownPlan.{anchor_fields, fields_by_type, json_of_anchor, json_of_directive}
use Rattle.json_line.specs.Numbers.{natural_data}
use Rattle.report_text.specs.ShownPlans.{directive_data}
use Rattle.report_text.specs.SpanLines.{fields_of_type}

with_anchor : Option Anchor → Data → Data → Data → Data → Data
with_anchor anchor arguments id start kind =
    object (member_if (codes "anchor") (option_map json_of_anchor anchor)
    (member (codes "arguments") arguments (member (codes "id") id (member (codes "start") start (member (codes "type") kind no_members)))))

anchor_in_front : (anchor : Option Anchor) (arguments id start kind : Data) →
    with_anchor anchor arguments id start kind
    ≡ object_of ((codes "arguments", arguments) ∷ (codes "id", id) ∷ (codes "start", start) ∷ (codes "type", kind) ∷ anchor_fields anchor)
unfolding with_anchor member_if
anchor_in_front None arguments id start kind = refl
anchor_in_front (Some anchor) arguments id start kind = refl

pub shown_directive : (model : Parts) (directive : Directive) (activity : Activity) → slice_get model.activities directive.kind ≡ Some activity →
    directive_data model activity directive ≡ json_of_directive model directive
unfolding with_anchor
shown_directive model directive activity is =
    ap (λ (of_type : Option Activity). with_anchor directive.anchor (object_of (fields_of_type model.enums of_type directive.arguments)) (natural_data directive.id) (natural_data directive.start) (string activity.name)) is
    ∙ anchor_in_front directive.anchor _ _ _ _
    ∙ ap (λ (of_type : Option Activity). object_of (fields_by_type model.enums of_type directive)) (sym is)

pub shown_as_none : (model : Parts) (directive : Directive) → slice_get model.activities directive.kind ≡ None → object_of [] ≡ json_of_directive model directive
shown_as_none model directive is = ap (λ (of_type : Option Activity). object_of (fields_by_type model.enums of_type directive)) (sym is)
