-- A plan with one directive changed, or all of them, each with its id as before.
use Rattle.std.proofs.Common.{◌≡◌, ℕ, zero, suc, ◌<◌, ◌&&◌, Bool, true, false, IsTrue, List, [], ◌∷◌, Option, Some, None, option_map, option_and_then, length, map, slice_get, slice_set, nat_eq, nat_lt, refl, sym, ap, subst, ◌∙◌, true≢false, ltb-true, eqb-true, eq-eqb, ne_eqb, ne_of_lt, arith, if◌then◌else◌}
use Rattle.std.specs.List.{list_any, list_all}
use Rattle.std.proofs.lemmas.Option.{none-some, same_Some}
use Rattle.aerie_base.specs.declared.models.model.Parts.{Parts}
use Rattle.aerie_base.specs.declared.plans.Anchor.{Anchor}
use Rattle.aerie_base.specs.declared.plans.Directive.{Directive}
use Rattle.aerie_base.specs.declared.plans.Plan.{Plan}
use Rattle.aerie_base.specs.plans.OfModel.{rise_to, ids_of, takes, with_id, anchored_to, anchor_of, is_there, is_directive_of, IsPlanOf, Rise}
use Rattle.aerie_base.specs.plans.RisingIds.{above, and_too, both, found_by_id}
use Rattle.aerie_base.specs.plans.FoundById.{at_place, eq_back, id_found}
use Rattle.plan_edit.specs.Editing.{changed_where, with_changed}
use Rattle.plan_edit.proofs.Trails.{IsAcyclic}

-- ---- one directive

module _ (change : Directive → Directive) where
  -- directives with greater ids stay
  none_changed : (most before id : ℕ) (directives : List Directive) → IsTrue (rise_to most before (ids_of directives)) → id < suc before → map (changed_where id change) directives ≡ directives
  none_changed most before id [] rise low = refl
  none_changed most before id (first ∷ rest) rise low =
      let parts = both (nat_lt before first.id) (rise_to most first.id (ids_of rest)) rise in
      let higher : before < first.id = ltb-true before first.id parts.0 in
      let less : id < first.id = omega (arith, low, higher) in
      let further : id < suc first.id = omega (arith, less) in
      ap (λ (t : Bool). (if t then change first else first) ∷ map (changed_where id change) rest) (eq_back id first.id false (ne_eqb id first.id (ne_of_lt less)))
      ∙ ap (λ (ds : List Directive). first ∷ ds) (none_changed most first.id id rest parts.1 further)

  -- changed at its position, or by its id
  changed_at : (most before : ℕ) (directives : List Directive) (at : ℕ) (found : Directive) → IsTrue (rise_to most before (ids_of directives)) →
      slice_get directives at ≡ Some found → slice_set directives at (change found) ≡ map (changed_where found.id change) directives
  changed_at most before [] at found rise here = absurd (none-some found here)
  changed_at most before (first ∷ rest) zero found rise here =
      let parts = both (nat_lt before first.id) (rise_to most first.id (ids_of rest)) rise in
      let same = same_Some first found here in
      let same_id : first.id ≡ found.id = ap (λ (d : Directive). d.id) same in
      let low : found.id < suc first.id = omega (arith, same_id) in
      ap (λ (d : Directive). change d ∷ rest) (sym same)
      ∙ sym (ap (λ (t : Bool). (if t then change first else first) ∷ map (changed_where found.id change) rest) (eq-eqb first.id found.id same_id)
      ∙ ap (λ (ds : List Directive). change first ∷ ds) (none_changed most first.id found.id rest parts.1 low))
  changed_at most before (first ∷ rest) (suc at) found rise here =
      let parts = both (nat_lt before first.id) (rise_to most first.id (ids_of rest)) rise in
      let less = above most first.id rest at found parts.1 here in
      ap (λ (ds : List Directive). first ∷ ds) (changed_at most first.id rest at found parts.1 here)
      ∙ ap (λ (t : Bool). (if t then change first else first) ∷ map (changed_where found.id change) rest) (sym (ne_eqb first.id found.id (ne_of_lt less)))

  -- what code does at the position that a search found
  pub changed_so : (directives : List Directive) (at id : ℕ) (found : Directive) (made : List Directive) → Rise directives → slice_get directives at ≡ Some found → with_id directives id ≡ Some found →
      ((one : Directive) → slice_get directives at ≡ Some one → made ≡ slice_set directives at (change one)) → made ≡ map (changed_where id change) directives
  changed_so directives at id found made rise here by_id is =
      is found here ∙ changed_at rise.0 0 directives at found rise.1 here
      ∙ ap (λ (i : ℕ). map (changed_where i change) directives) (id_found directives id found by_id)

-- the one that a search found
pub found_there : (directives : List Directive) (at id : ℕ) → at < length directives → slice_get directives at ≡ with_id directives id →
    (found : Directive) × ((slice_get directives at ≡ Some found) × (with_id directives id ≡ Some found))
found_there directives at id within same =
    let one = at_place directives at id within same in
    (one.0, (one.1.0, sym same ∙ one.1.0))

-- ---- all of them

-- a test of what each becomes, by the test of each
pub all_changed : (test other : Directive → Bool) (f : Directive → Directive) (directives : List Directive) →
    ((at : ℕ) (d : Directive) → slice_get directives at ≡ Some d → IsTrue (test d) → IsTrue (other (f d))) → IsTrue (list_all test directives) → IsTrue (list_all other (map f directives))
all_changed test other f [] each all = refl
all_changed test other f (first ∷ rest) each all =
    let parts = both (test first) (list_all test rest) all in
    and_too (other (f first)) (list_all other (map f rest)) (each 0 first refl parts.0) (all_changed test other f rest (λ at. each (suc at)) parts.1)

pub ids_same : (f : Directive → Directive) → ((d : Directive) → (f d).id ≡ d.id) → (directives : List Directive) → ids_of (map f directives) ≡ ids_of directives
ids_same f same [] = refl
ids_same f same (first ∷ rest) = ap (λ (id : ℕ). id ∷ ids_of (map f rest)) (same first) ∙ ap (λ (ids : List ℕ). first.id ∷ ids) (ids_same f same rest)

length_same : (f : Directive → Directive) (directives : List Directive) → length (map f directives) ≡ length directives
length_same f [] = refl
length_same f (first ∷ rest) = ap suc (length_same f rest)

there_same : (some others : List Directive) → ids_of others ≡ ids_of some → (anchor_id : Option ℕ) → is_there others anchor_id ≡ is_there some anchor_id
there_same some others same None = refl
there_same some others same (Some id) = ap (list_any (nat_eq id)) same

-- the directive with an id becomes what it becomes
pub found_changed : (f : Directive → Directive) → ((d : Directive) → (f d).id ≡ d.id) → (directives : List Directive) (id : ℕ) → with_id (map f directives) id ≡ option_map f (with_id directives id)
found_changed f same [] id = refl
found_changed f same (first ∷ rest) id =
    ap (λ (i : ℕ). if nat_eq i id then Some (f first) else with_id (map f rest) id) (same first)
    ∙ ap (λ (o : Option Directive). if nat_eq first.id id then Some (f first) else o) (found_changed f same rest id)
    ∙ go (nat_eq first.id id)
  where
    go : (t : Bool) → (if t then Some (f first) else option_map f (with_id rest id)) ≡ option_map f (if t then Some first else with_id rest id)
    go true = refl
    go false = refl

-- with anchors as before, they lead as before
pub leads_same : (f : Directive → Directive) → ((d : Directive) → (f d).id ≡ d.id) → ((d : Directive) → (f d).anchor ≡ d.anchor) → (directives : List Directive) (id : ℕ) →
    anchor_of (map f directives) id ≡ anchor_of directives id
leads_same f same anchors directives id = ap (option_and_then anchored_to) (found_changed f same directives id) ∙ go (with_id directives id)
  where
    go : (found : Option Directive) → option_and_then anchored_to (option_map f found) ≡ option_and_then anchored_to found
    go None = refl
    go (Some d) = ap (option_map (λ (anchor : Anchor). anchor.to)) (anchors d)

module _ (model other : Parts) (position : ℕ) (plan : Plan) (of : IsPlanOf model plan) (f : Directive → Directive) (same : (d : Directive) → (f d).id ≡ d.id) where
  abbrev changed : Plan
  changed = record plan { model = position; directives = map f plan.directives }

  pub changed_plan : ((at : ℕ) (d : Directive) → slice_get plan.directives at ≡ Some d → IsTrue (is_directive_of model plan d) → IsTrue (is_directive_of other plan (f d))) →
      IsAcyclic (map f plan.directives) → IsPlanOf other (record plan { model = position; directives = map f plan.directives })
  changed_plan each acyclic = record {
    duration = of.duration;
    count = omega (arith, of.count, length_same f plan.directives);
    next_id = of.next_id;
    ids = subst (λ (ids : List ℕ). IsTrue (rise_to plan.next_id 0 ids)) (sym (ids_same f same plan.directives)) of.ids;
    directives = all_changed (is_directive_of model plan) (is_directive_of other changed) f plan.directives
        (λ at d here good. subst (λ (t : Bool). IsTrue (takes other.enums (slice_get other.activities (f d).kind) (f d).arguments && nat_lt (f d).start plan.duration && t))
        (sym (there_same plan.directives (map f plan.directives) (ids_same f same plan.directives) (anchored_to (f d)))) (each at d here good))
        of.directives;
    anchors = acyclic;
  }

-- one directive alone is changed
module _ (model : Parts) (plan : Plan) (of : IsPlanOf model plan) (id : ℕ) (found : Directive) (by_id : with_id plan.directives id ≡ Some found) (change : Directive → Directive) where
  one_kept : ((d : Directive) → (change d).id ≡ d.id) → (d : Directive) → (changed_where id change d).id ≡ d.id
  one_kept same d = go (nat_eq d.id id)
    where
      go : (t : Bool) → (if t then change d else d).id ≡ d.id
      go true = same d
      go false = refl

  pub one_changed : ((d : Directive) → (change d).id ≡ d.id) → IsTrue (is_directive_of model plan (change found)) → IsAcyclic (map (changed_where id change) plan.directives) →
      IsPlanOf model (with_changed plan id change)
  one_changed same good acyclic = changed_plan model model plan.model plan of (changed_where id change) (one_kept same) each acyclic
    where
      each : (at : ℕ) (d : Directive) → slice_get plan.directives at ≡ Some d → IsTrue (is_directive_of model plan d) → IsTrue (is_directive_of model plan (changed_where id change d))
      each at d here one = go (nat_eq d.id id) refl
        where
          go : (t : Bool) → nat_eq d.id id ≡ t → IsTrue (is_directive_of model plan (if t then change d else d))
          go true e =
              let is : found ≡ d = same_Some found d (sym by_id ∙ ap (with_id plan.directives) (sym (eqb-true d.id id e)) ∙ found_by_id plan.next_id 0 plan.directives at d of.ids here) in
              subst (λ (x : Directive). IsTrue (is_directive_of model plan (change x))) is good
          go false e = one
