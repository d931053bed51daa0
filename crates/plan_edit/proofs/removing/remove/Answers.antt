use Rattle.std.proofs.Common.{◌≡◌, ◌<◌, ℕ, List, Option, Some, None, refl, ap, ◌∙◌, sym, subst, length, slice_get, find, option_map}
use Rattle.aerie_base.specs.declared.plans.Directive.{Directive}
use Rattle.aerie_base.specs.declared.plans.Plan.{Plan}
use Rattle.aerie_base.specs.plans.OfModel.{with_id}
use Rattle.plan_edit.specs.Editing.{is_anchored_to}
use Rattle.plan_edit.proofs.Removals.{removed, still_plan}
use Rattle.plan_edit.proofs.removing.remove.Goals as goal

nothing : (found : Option ℕ) → ((id : ℕ) → found ≡ Some id → ⊥) → found ≡ None
nothing None h = refl
nothing (Some id) h = absurd (h id refl)

-- what was found, of the plan as it was
module _ (c : goal.After-drop-remove) where
  same : c.as_slice.result.now ≡ c.args.plan.now.directives
  same = c.as_slice.ensures ∙ ap (λ (p : Plan). p.directives) c.plan.view_is

  within : c.in-Some.at < length c.args.plan.now.directives
  within = subst (λ (ds : List Directive). c.in-Some.at < length ds) same c.in-Some.ensures.within

  found : slice_get c.args.plan.now.directives c.in-Some.at ≡ with_id c.args.plan.now.directives c.args.id
  found = subst (λ (ds : List Directive). slice_get ds c.in-Some.at ≡ with_id ds c.args.id) same c.in-Some.ensures.found

  none : option_map (λ (d : Directive). d.id) (find (is_anchored_to c.args.id) c.args.plan.now.directives) ≡ None
  none =
      ap (λ (ds : List Directive). option_map (λ (d : Directive). d.id) (find (is_anchored_to c.args.id) ds)) (sym (c.as_slice-2.ensures ∙ ap (λ (p : Plan). p.directives) c.plan.view_is))
      ∙ sym c.anchored_by.ensures ∙ nothing c.anchored_by.result c.in_default.not-Some

pub returns-clause-edited : goal.returns-clause-edited
returns-clause-edited c =
    removed c.args.plan.now c.in-Some.at c.args.id c.requires.rising (within c) (found c) (none c) _ c.plan.view_is _ c.remove.ensures.items

pub returns-clause-stays : goal.returns-clause-stays
returns-clause-stays c =
    still_plan c.args.plan.now c.in-Some.at c.args.id c.requires.rising (within c) (found c) (none c) _ c.plan.view_is _ c.remove.ensures.items
