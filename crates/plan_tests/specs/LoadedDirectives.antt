-- Worked cases of loaded directives: the ids in the text, anchors and refusals.
use Rattle.std.specs.Prelude.{◌≡◌, ℕ, pos, List, [], ◌∷◌, codes, Option, Some, None, Ok, Err, refl}
use Rattle.aerie_base.specs.declared.arguments.RawArgument.{RawArgument}
use Rattle.aerie_base.specs.declared.arguments.RawValue.TheVariants as raw
use Rattle.aerie_base.specs.declared.plans.When.{When}
use Rattle.plan_edit.specs.declared.errors.EditError.TheVariants.{OutsidePlan, NoAnchor, Cycle}
use Rattle.plan_edit.specs.declared.forms.WrittenDirective.{WrittenDirective}
use Rattle.plan_edit.specs.Cases.{model, plan, at, behind, bumped}
use Rattle.plan_edit.specs.Loading.{load_written}

abbrev bump_by : ℕ → List RawArgument
bump_by by = record { name = codes "by"; value = raw.Int (pos by) } ∷ []

abbrev one_bump : Option ℕ → When → List RawArgument → WrittenDirective
one_bump id when given = record { id = id; start = when.start; anchor = when.anchor; kind = codes "Bump"; arguments = given }

pub under_new_ids : load_written model (plan 3 []) (one_bump (Some 1) (at 5) (bump_by 3) ∷ one_bump (Some 2) (behind 1) (bump_by 1) ∷ [])
    ≡ Ok (bumped 3 (at 5) 3 ∷ bumped 4 (behind 3) 1 ∷ [])
under_new_ids = refl

pub without_an_id : load_written model (plan 1 []) (one_bump None (at 5) (bump_by 3) ∷ []) ≡ Ok (bumped 1 (at 5) 3 ∷ [])
without_an_id = refl

-- the directive is anchored to its own id
pub anchored_to_itself : load_written model (plan 3 []) (one_bump (Some 1) (behind 1) (bump_by 3) ∷ []) ≡ Err Cycle
anchored_to_itself = refl

pub anchored_to_one_further_on : load_written model (plan 3 []) (one_bump (Some 1) (behind 2) (bump_by 3) ∷ one_bump (Some 2) (at 5) (bump_by 1) ∷ [])
    ≡ Ok (bumped 3 (behind 4) 3 ∷ bumped 4 (at 5) 1 ∷ [])
anchored_to_one_further_on = refl

pub anchored_to_one_of_two : load_written model (plan 3 [])
    (one_bump (Some 1) (at 5) (bump_by 3) ∷ one_bump (Some 1) (at 6) (bump_by 3) ∷ one_bump (Some 2) (behind 1) (bump_by 1) ∷ []) ≡ Err NoAnchor
anchored_to_one_of_two = refl

-- the first directive to which a refusal applies, although the next one has a smaller one
pub the_first_directive_is_refused : load_written model (plan 3 []) (one_bump (Some 1) (at 100) (bump_by 3) ∷ one_bump (Some 2) (at 5) [] ∷ []) ≡ Err OutsidePlan
the_first_directive_is_refused = refl
