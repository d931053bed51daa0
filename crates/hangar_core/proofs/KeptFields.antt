-- What edits and migrations leave of a plan: its duration, and its model or the mapping's.
use Rattle.std.proofs.Common.{◌≡◌, ℕ, Bool, true, false, List, [], ◌∷◌, Option, Some, None, Result, Ok, Err, find, refl, sym, ap, ◌∙◌, subst, slice_get, if◌then◌else◌}
use Rattle.aerie_base.specs.declared.models.model.Parts.{Parts}
use Rattle.aerie_base.specs.declared.plans.Directive.{Directive}
use Rattle.aerie_base.specs.declared.plans.Plan.{Plan}
use Rattle.aerie_base.specs.plans.OfModel.{with_id, is_dangling, is_id_of}
use Rattle.plan_edit.specs.declared.errors.EditError.{EditError}
use Rattle.plan_edit.specs.declared.errors.EditError.TheVariants as error
use Rattle.plan_edit.specs.declared.errors.MigrateError.{MigrateError}
use Rattle.plan_edit.specs.declared.mappings.Mapping.{Mapping}
use Rattle.plan_edit.specs.Answers.{PossibleRefusal, then_made_of, unless_refused}
use Rattle.plan_edit.specs.Editing.{arguments_set, directive_added, is_anchored_to, is_outside, leads_to, moved_directive, of_directive, unless_anchored, with_added, with_arguments, with_changed, without}
use Rattle.plan_edit.specs.Loading.{directives_of_text, with_loaded}
use Rattle.plan_edit.specs.Migrating.{all_migrated, migrate_of, with_migrated}
use Rattle.commands.specs.declared.edits.Edit.{Edit}
use Rattle.commands.specs.declared.edits.Edit.TheVariants.{Add, Remove, Move, Set, Load}
use Rattle.commands.specs.Edits.{edit_of}

abbrev ok_of : {A E : Type 0} → A → Result A E → A
ok_of d (Ok x) = x
ok_of d (Err e) = d

abbrev IsMade : {A E : Type 0} → Result A E → Type 0
IsMade (Ok x) = Unit {0}
IsMade (Err e) = ⊥

pub ok_is : {A E : Type 0} (r : Result A E) (x y : A) → r ≡ Ok x → r ≡ Ok y → x ≡ y
ok_is r x y e h = ap (ok_of x) (sym e ∙ h)

pub err_ok : {A E : Type 0} (r : Result A E) (e : E) (x : A) → r ≡ Err e → r ≡ Ok x → ⊥
err_ok r e x h k = subst IsMade (sym k ∙ h) tt

-- the plan has this model and this duration
abbrev pub Keeps : ℕ → ℕ → Plan → Type 0
Keeps model duration plan = (plan.model ≡ model) × (plan.duration ≡ duration)

made_of : {A : Type 0} (model duration : ℕ) (make : A → Plan) → ((a : A) → Keeps model duration (make a)) → (r : Result A EditError) (new : Plan) →
    then_made_of (λ a. Ok (make a)) r ≡ Ok new → Keeps model duration new
made_of model duration make keeps (Ok a) new e = subst (Keeps model duration) (ok_is (Ok (make a)) (make a) new refl e) (keeps a)
made_of model duration make keeps (Err refusal) new e = absurd (err_ok (Err refusal) refusal new refl e)

one_of : (model duration : ℕ) (plan new : Plan) → Keeps model duration plan → ◌≡◌ {A = Result Plan EditError} (Ok plan) (Ok new) → Keeps model duration new
one_of model duration plan new keeps e = subst (Keeps model duration) (ok_is (Ok plan) plan new refl e) keeps

not_refused : (model duration : ℕ) (refusals : List PossibleRefusal) (plan new : Plan) → Keeps model duration plan →
    unless_refused refusals (Ok plan) ≡ Ok new → Keeps model duration new
not_refused model duration [] plan new keeps e = one_of model duration plan new keeps e
not_refused model duration ((applies, refusal) ∷ rest) plan new keeps e = go applies e (not_refused model duration rest plan new keeps)
  where
    go : (applies : Bool) → (if applies then Err refusal else unless_refused rest (Ok plan)) ≡ Ok new →
        (unless_refused rest (Ok plan) ≡ Ok new → Keeps model duration new) → Keeps model duration new
    go true k more = absurd (err_ok (Err refusal) refusal new refl k)
    go false k more = more k

not_anchored : (model duration : ℕ) (anchored : Option Directive) (plan new : Plan) → Keeps model duration plan →
    unless_anchored anchored (Ok plan) ≡ Ok new → Keeps model duration new
not_anchored model duration None plan new keeps e = one_of model duration plan new keeps e
not_anchored model duration (Some directive) plan new keeps e = absurd (err_ok (unless_anchored (Some directive) (Ok plan)) _ new refl e)

of_one : (model duration : ℕ) (make : Directive → Result Plan EditError) (found : Option Directive) (new : Plan) →
    ((directive : Directive) → make directive ≡ Ok new → Keeps model duration new) → of_directive make found ≡ Ok new → Keeps model duration new
of_one model duration make None new keeps e = absurd (err_ok (of_directive make None) _ new refl e)
of_one model duration make (Some directive) new keeps e = keeps directive e

pub edit_keeps : (edit : Edit) (model : Parts) (plan new : Plan) → edit_of edit model plan ≡ Ok new → Keeps plan.model plan.duration new
edit_keeps (Add at kind arguments) model plan new e =
    made_of plan.model plan.duration (with_added plan) (λ directive. (refl, refl)) (directive_added model plan at kind arguments) new e
edit_keeps (Remove id) model plan new e =
    of_one plan.model plan.duration _ (with_id plan.directives id) new
    (λ directive k. not_anchored plan.model plan.duration (find (is_anchored_to id) plan.directives) (without plan id) new (refl, refl) k) e
edit_keeps (Move id at) model plan new e =
    of_one plan.model plan.duration _ (with_id plan.directives id) new
    (λ directive k. not_refused plan.model plan.duration
    ((is_outside plan at.start, error.OutsidePlan) ∷ (is_dangling (is_id_of plan.directives) at.anchor, error.NoAnchor) ∷ (leads_to plan id at.anchor, error.Cycle) ∷ [])
    (with_changed plan id (moved_directive at)) new (refl, refl) k) e
edit_keeps (Set id parameter value) model plan new e =
    of_one plan.model plan.duration _ (with_id plan.directives id) new
    (λ directive k. made_of plan.model plan.duration (λ values. with_changed plan id (with_arguments values)) (λ values. (refl, refl))
    (arguments_set model directive.arguments parameter value (slice_get model.activities directive.kind)) new k) e
edit_keeps (Load text) model plan new e =
    made_of plan.model plan.duration (with_loaded plan) (λ directives. (refl, refl)) (directives_of_text model plan text) new e

pub migrate_keeps : (model : Parts) (mapping : Mapping) (plan new : Plan) → migrate_of model mapping plan ≡ Ok new → Keeps mapping.to plan.duration new
migrate_keeps model mapping plan new e = go (all_migrated model mapping plan.directives) e
  where
    go : (made : Result (List Directive) MigrateError) → with_migrated plan mapping.to made ≡ Ok new → Keeps mapping.to plan.duration new
    go (Ok directives) k = subst (Keeps mapping.to plan.duration) (ok_is (with_migrated plan mapping.to (Ok directives)) _ new refl k) (refl, refl)
    go (Err refusal) k = absurd (err_ok (with_migrated plan mapping.to (Err refusal)) refusal new refl k)
