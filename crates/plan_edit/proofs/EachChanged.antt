-- A list of which each item is changed, one after another.
use Rattle.std.proofs.Common.{◌≡◌, ℕ, zero, suc, ◌+◌, ◌<◌, List, [], ◌∷◌, ◌++◌, Some, length, map, take, drop, slice_get, slice_set, refl, sym, ap, ◌∙◌, arith}
use Rattle.aerie_base.specs.declared.plans.Directive.{Directive}
use Rattle.plan_edit.specs.Editing.{ChangesAt}

module _ (f : Directive → Directive) where
  set_next : (before : List Directive) (at : ℕ) → at < length before →
      (d : Directive) × ((slice_get (map f (take at before) ++ drop at before) at ≡ Some d) × (slice_set (map f (take at before) ++ drop at before) at (f d) ≡ map f (take (suc at) before) ++ drop (suc at) before))
  set_next [] at less = absurd (omega (arith, less))
  set_next (first ∷ rest) zero less = (first, (refl, refl))
  set_next (first ∷ rest) (suc at) less =
      let on = set_next rest at (omega (arith, less)) in
      (on.0, (on.1.0, ap (λ (ds : List Directive). f first ∷ ds) on.1.1))

  pub changed_on : (before now next : List Directive) (at : ℕ) → at < length before → now ≡ map f (take at before) ++ drop at before → ChangesAt at f now next →
      next ≡ map f (take (at + 1) before) ++ drop (at + 1) before
  changed_on before now next at less is changes =
      let on = set_next before at less in
      changes on.0 (ap (λ (ds : List Directive). slice_get ds at) is ∙ on.1.0) ∙ ap (λ (ds : List Directive). slice_set ds at (f on.0)) is ∙ on.1.1
      ∙ ap (λ (n : ℕ). map f (take n before) ++ drop n before) (sym (one_more at))
    where
      one_more : (at : ℕ) → at + 1 ≡ suc at
      one_more at = omega arith
