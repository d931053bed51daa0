-- Worked cases of a plan's ids, arguments and anchors.
use Rattle.std.specs.Prelude.{◌≡◌, ℕ, pos, true, false, List, [], ◌∷◌, Option, Some, None, refl}
use Rattle.aerie_base.specs.declared.plans.Anchor.{Anchor}
use Rattle.aerie_base.specs.declared.plans.Edge.TheVariants.{Start, End}
use Rattle.aerie_base.specs.declared.plans.Directive.{Directive}
use Rattle.aerie_base.specs.declared.values.Kind.TheVariants as kind
use Rattle.aerie_base.specs.declared.values.Value.TheVariants as value
use Rattle.aerie_base.specs.plans.OfModel.{are_values_of, rise_to, followed, is_id_of, is_there, is_dangling}

pub ids_that_rise : rise_to 10 0 (1 ∷ 3 ∷ 9 ∷ []) ≡ true
ids_that_rise = refl

pub no_id_at_the_next_one : rise_to 9 0 (1 ∷ 3 ∷ 9 ∷ []) ≡ false
no_id_at_the_next_one = refl

pub no_id_twice : rise_to 10 0 (1 ∷ 1 ∷ []) ≡ false
no_id_twice = refl

pub no_id_of_zero : rise_to 10 0 (0 ∷ []) ≡ false
no_id_of_zero = refl

pub an_argument_in_range : are_values_of [] (kind.Int ∷ []) (value.Int (pos 1_000_000_000_000_000_000) ∷ []) ≡ true
an_argument_in_range = refl

pub an_argument_out_of_range : are_values_of [] (kind.Int ∷ []) (value.Int (pos 1_000_000_000_000_000_001) ∷ []) ≡ false
an_argument_out_of_range = refl

-- ---- directive 1 by itself, 2 behind its end, 3 with the start of 2

abbrev directive : ℕ → Option Anchor → Directive
directive id anchor = record { id = id; start = 5; anchor = anchor; kind = 0; arguments = [] }

abbrev three : List Directive
three = directive 1 None ∷ directive 2 (Some (record { to = 1; edge = End })) ∷ directive 3 (Some (record { to = 2; edge = Start })) ∷ []

pub one_anchor_on : followed three 1 3 ≡ Some 2
one_anchor_on = refl

pub two_anchors_on : followed three 2 3 ≡ Some 1
two_anchors_on = refl

pub nothing_behind_the_last : followed three 3 3 ≡ None
nothing_behind_the_last = refl

pub anchored_to_a_directive_of_the_plan : is_there three (Some 2) ≡ true
anchored_to_a_directive_of_the_plan = refl

pub anchored_to_none_of_the_plan : is_there three (Some 4) ≡ false
anchored_to_none_of_the_plan = refl

pub an_anchor_to_none_of_the_plan_dangles : is_dangling (is_id_of three) (Some (record { to = 4; edge = End })) ≡ true
an_anchor_to_none_of_the_plan_dangles = refl
