-- Worked cases of plans that are shown, and loaded again.
use Rattle.std.specs.Prelude.{◌≡◌, pos, true, [], ◌∷◌, codes, Some, None, Ok, refl}
use Rattle.std.specs.Fmt.{digits}
use Rattle.serde_json.proofs.OnLiterals.{serde_json_on_literals}
use Rattle.serde_json.specs.Written.{compact_text}
use Rattle.aerie_base.specs.declared.arguments.RawValue.TheVariants as raw
use Rattle.aerie_base.specs.declared.plans.Edge.TheVariants.{End}
use Rattle.aerie_base.specs.expressions.Evaluation.{evaluated}
use Rattle.aerie_text.specs.Sorts.{word_sort}
use Rattle.plan_edit.specs.Cases.{model, plan, at, behind, bumped, checked, two}
use Rattle.plan_edit.specs.Loading.{load_of_value}
use Rattle.plan_edit.specs.PlanForm.{directive_of_json, plan_text}
use Rattle.plan_edit.specs.ShownPlan.{json_of_directive, json_of_plan}

-- ---- what is shown

pub an_anchor_is_shown : compact_text (json_of_directive model (bumped 2 (behind 1) 1))
    ≡ codes "{\"anchor\":{\"edge\":\"end\",\"to\":1},\"arguments\":{\"by\":1},\"id\":2,\"start\":5,\"type\":\"Bump\"}"
unfolding serde_json_on_literals digits
an_anchor_is_shown = refl

pub what_is_shown_is_a_directive : directive_of_json (json_of_directive model (bumped 2 (behind 1) 1))
    ≡ Some (record { id = Some 2; start = 5; anchor = Some (record { to = 1; edge = End }); kind = codes "Bump"; arguments = record { name = codes "by"; value = raw.Int (pos 1) } ∷ [] })
unfolding word_sort
what_is_shown_is_a_directive = refl

pub a_shown_variant : directive_of_json (json_of_directive model (checked 1 5 1))
    ≡ Some (record { id = Some 1; start = 5; anchor = None; kind = codes "Check"; arguments = record { name = codes "mode"; value = raw.Word (codes "Mode.NOMINAL") } ∷ record { name = codes "ok"; value = raw.Truth true } ∷ [] })
unfolding word_sort
a_shown_variant = refl

-- ---- what is loaded of it

-- what is shown can be loaded: the same directives, with the same anchors, under new ids
pub what_is_shown_is_loaded : load_of_value model (plan 3 []) (json_of_plan model two)
    ≡ Ok (plan 5 (bumped 3 (at 5) 3 ∷ bumped 4 (behind 3) 1 ∷ []))
unfolding word_sort
what_is_shown_is_loaded = refl

pub a_shown_variant_is_loaded : load_of_value model (plan 7 []) (json_of_plan model (plan 2 (checked 1 5 1 ∷ [])))
    ≡ Ok (plan 8 (checked 7 5 1 ∷ []))
unfolding word_sort evaluated
a_shown_variant_is_loaded = refl

pub a_plan_with_a_member_more : plan_text (codes "{\"directives\":[],\"revision\":0}") ≡ None
unfolding serde_json_on_literals
a_plan_with_a_member_more = refl

pub a_list_is_no_plan : plan_text (codes "[]") ≡ None
unfolding serde_json_on_literals
a_list_is_no_plan = refl
