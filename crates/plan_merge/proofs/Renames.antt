-- The ids that the directives of the source get, one after another.
use Rattle.std.proofs.Common.{◌≡◌, ℕ, zero, suc, ◌<◌, Bool, true, false, IsTrue, List, [], ◌∷◌, Option, Some, None, option_map, map, slice_get, length, nat_eq, nat_lt, refl, sym, ap, ◌∙◌, eq-eqb, ne_eqb, ne_of_lt, ltb-true, if◌then◌else◌, arith}
use Rattle.std.proofs.lemmas.Option.{none-some, same_Some}
use Rattle.aerie_base.specs.declared.values.Value.{Value}
use Rattle.aerie_base.specs.declared.plans.Anchor.{Anchor}
use Rattle.aerie_base.specs.declared.plans.Directive.{Directive}
use Rattle.aerie_base.specs.plans.OfModel.{rise_to, ids_of, with_id}
use Rattle.aerie_base.specs.plans.FoundById.{id_found, none_within}
use Rattle.aerie_base.specs.plans.RisingIds.{both}
use Rattle.plan_merge.specs.Renaming.{has, new_id, with_new_id, with_new_ids}

-- the new ids in order, the next one being given
abbrev pub ids_given : List Directive → ℕ → List Directive → List ℕ
ids_given base next [] = []
ids_given base next (directive ∷ rest) =
    (if has base directive.id then directive.id else next) ∷ ids_given base (if has base directive.id then next else suc next) rest

module _ (base : List Directive) (most : ℕ) where
  -- a later directive's id is looked for behind the first
  past_first : (next : ℕ) (first : Directive) (rest : List Directive) (before : ℕ) (ids : List ℕ) → first.id < suc before → IsTrue (rise_to most before ids) →
      map (new_id base next (first ∷ rest)) ids ≡ map (new_id base (if has base first.id then next else suc next) rest) ids
  past_first next first rest before [] low rise = refl
  past_first next first rest before (id ∷ ids) low rise =
      let parts = both (nat_lt before id) (rise_to most id ids) rise in
      let above : before < id = ltb-true before id parts.0 in
      let less : first.id < id = omega (arith, low, above) in
      let further : first.id < suc id = omega (arith, less) in
      ap (λ (b : Bool). (if b then (if has base id then id else next) else new_id base (if has base first.id then next else suc next) rest id)
      ∷ map (new_id base next (first ∷ rest)) ids) (ne_eqb first.id id (ne_of_lt less))
      ∙ ap (λ (others : List ℕ). new_id base (if has base first.id then next else suc next) rest id ∷ others) (past_first next first rest id ids further parts.1)

  pub given_are : (next before : ℕ) (source : List Directive) → IsTrue (rise_to most before (ids_of source)) →
      ids_given base next source ≡ map (new_id base next source) (ids_of source)
  given_are next before [] rise = refl
  given_are next before (first ∷ rest) rise =
      let parts = both (nat_lt before first.id) (rise_to most first.id (ids_of rest)) rise in
      let next_is : first.id < suc first.id = omega arith in
      ap (λ (others : List ℕ). (if has base first.id then first.id else next) ∷ others)
      (given_are (if has base first.id then next else suc next) first.id rest parts.1 ∙ sym (past_first next first rest first.id (ids_of rest) next_is parts.1))
      ∙ ap (λ (b : Bool). (if b then (if has base first.id then first.id else next) else new_id base (if has base first.id then next else suc next) rest first.id)
      ∷ map (new_id base next (first ∷ rest)) (ids_of rest)) (sym (eq-eqb first.id first.id refl))

-- an id that no directive has stays
pub stays : (base : List Directive) (next : ℕ) (source : List Directive) (id : ℕ) → with_id source id ≡ None → new_id base next source id ≡ id
stays base next [] id none = refl
stays base next (first ∷ rest) id none = go (stays base (if has base first.id then next else suc next) rest id) (nat_eq first.id id) refl none
  where
    go : (with_id rest id ≡ None → new_id base (if has base first.id then next else suc next) rest id ≡ id) → (b : Bool) → nat_eq first.id id ≡ b → (if b then Some first else with_id rest id) ≡ None →
        (if nat_eq first.id id then (if has base id then id else next) else new_id base (if has base first.id then next else suc next) rest id) ≡ id
    go others true is there = absurd (none-some first (sym there))
    go others false is there =
        ap (λ (b : Bool). if b then (if has base id then id else next) else new_id base (if has base first.id then next else suc next) rest id) is
        ∙ others there

-- what stands at the place of a directive among what a function of the ids gives is what it gives of that id
pub given_at : (new : ℕ → ℕ) (source : List Directive) (at : ℕ) (found : Directive) → slice_get source at ≡ Some found →
    slice_get (map new (ids_of source)) at ≡ Some (new found.id)
given_at new [] at found here = absurd (none-some found here)
given_at new (first ∷ rest) zero found here = ap (λ (d : Directive). Some (new d.id)) (same_Some first found here)
given_at new (first ∷ rest) (suc at) found here = given_at new rest at found here

-- the same at the place where a directive with an id is found
pub given_from : (new : ℕ → ℕ) (source : List Directive) (at id : ℕ) → at < length source → slice_get source at ≡ with_id source id →
    slice_get (map new (ids_of source)) at ≡ Some (new id)
given_from new source at id within same = go (slice_get source at) refl
  where
    go : (found : Option Directive) → slice_get source at ≡ found → slice_get (map new (ids_of source)) at ≡ Some (new id)
    go None none = absurd (none_within source at within none)
    go (Some found) here = given_at new source at found here ∙ ap (λ (i : ℕ). Some (new i)) (id_found source id found (sym same ∙ here))

-- a directive that is built from its parts
pub built : (new : ℕ → ℕ) (directive : Directive) (id : ℕ) (anchor : Option Anchor) (arguments : List Value) →
    id ≡ new directive.id → anchor ≡ option_map (with_new_id new) directive.anchor → arguments ≡ directive.arguments →
    record { id = id; start = directive.start; anchor = anchor; kind = directive.kind; arguments = arguments } ≡ with_new_ids new directive
built new directive id anchor arguments id_is anchor_is arguments_are =
    ap (λ (i : ℕ). the i anchor arguments) id_is ∙ ap (λ (a : Option Anchor). the (new directive.id) a arguments) anchor_is
    ∙ ap (λ (values : List Value). the (new directive.id) (option_map (with_new_id new) directive.anchor) values) arguments_are
  where
    the : ℕ → Option Anchor → List Value → Directive
    the i a values = record { id = i; start = directive.start; anchor = a; kind = directive.kind; arguments = values }
