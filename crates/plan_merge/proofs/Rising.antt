-- The merged ids rise.
use Rattle.std.proofs.Common.{◌≡◌, ℕ, suc, ◌+◌, ◌<◌, ◌≤◌, ◌||◌, ◌++◌, not, Bool, true, false, IsTrue, List, [], ◌∷◌, Option, Some, None, Ok, Err, option_map, is_some, filter_map, map, drop, get_or, slice_get, length, nat_eq, nat_lt, refl, sym, ap, subst, ◌∙◌, lt-ltb, ltb-true, ltb-false, lt_trans, lt_of_lt_of_le, if◌then◌else◌, arith}
use Rattle.std.specs.List.{cons_option}
use Rattle.std.proofs.lemmas.Option.{none-some, same_Some}
use Rattle.aerie_base.specs.declared.plans.Directive.{Directive}
use Rattle.aerie_base.specs.declared.plans.Plan.{Plan}
use Rattle.aerie_base.specs.plans.OfModel.{rise_to, ids_of, with_id}
use Rattle.aerie_base.specs.plans.RisingIds.{and_too, both, found_by_id}
use Rattle.aerie_base.specs.plans.FoundById.{id_found}
use Rattle.plan_merge.specs.declared.answers.ConflictKind.TheVariants.{Both, Removed}
use Rattle.plan_merge.specs.Renaming.{has, new_id, with_new_ids, renamed, is_new, added, first_new}
use Rattle.plan_merge.specs.Table.{same, row}
use Rattle.plan_merge.specs.Merging.{source_with, what_is_left, left_by, left_of_target, merged, next_after}
use Rattle.plan_merge.proofs.Renames.{ids_given, given_are}

-- an id of the base stays
pub kept_id : (base : List Directive) (next : ℕ) (source : List Directive) (id : ℕ) → has base id ≡ true → new_id base next source id ≡ id
kept_id base next [] id there = refl
kept_id base next (first ∷ rest) id there = go (kept_id base (if has base first.id then next else suc next) rest id there) (nat_eq first.id id)
  where
    go : new_id base (if has base first.id then next else suc next) rest id ≡ id → (t : Bool) →
        (if t then (if has base id then id else next) else new_id base (if has base first.id then next else suc next) rest id) ≡ id
    go others true = ap (λ (t : Bool). if t then id else next) there
    go others false = others

-- whatever is left of a directive of the base has its id
row_id : (base : Directive) (source : Option Directive) (target found : Directive) → (ids : (of : Directive) → source ≡ Some of → of.id ≡ target.id) →
    what_is_left (row base source (Some target)) ≡ Some found → found.id ≡ target.id
row_id base None target found ids h = go (same target base) h
  where
    go : (t : Bool) → what_is_left (if t then Ok None else Err Removed) ≡ Some found → found.id ≡ target.id
    go true h = absurd (none-some found h)
    go false h = absurd (none-some found h)
row_id base (Some source) target found ids h = go (same source base || same source target) (same target base) h
  where
    go : (t u : Bool) → what_is_left (if t then Ok (Some target) else if u then Ok (Some source) else Err Both) ≡ Some found → found.id ≡ target.id
    go true u h = ap (λ (d : Directive). d.id) (sym (same_Some target found h))
    go false true h = ap (λ (d : Directive). d.id) (sym (same_Some source found h)) ∙ ids source refl
    go false false h = absurd (none-some found h)

lower : (most before id : ℕ) (ids : List ℕ) → before < id → IsTrue (rise_to most id ids) → IsTrue (rise_to most before ids)
lower most before id [] less rise = lt-ltb before most (lt_trans less (ltb-true id most rise))
lower most before id (first ∷ ids) less rise =
    let parts = both (nat_lt id first) (rise_to most first ids) rise in
    and_too (nat_lt before first) (rise_to most first ids) (lt-ltb before first (lt_trans less (ltb-true id first parts.0))) parts.1

-- ids of some of the directives rise where all do
some_rise : (most before : ℕ) (h : Directive → Option Directive) (ds : List Directive) → ((at : ℕ) (d found : Directive) → slice_get ds at ≡ Some d → h d ≡ Some found → found.id ≡ d.id) →
    IsTrue (rise_to most before (ids_of ds)) → IsTrue (rise_to most before (ids_of (filter_map h ds)))
some_rise most before h [] same rise = rise
some_rise most before h (d ∷ rest) same rise =
    let parts = both (nat_lt before d.id) (rise_to most d.id (ids_of rest)) rise in
    go (h d) (same 0 d) (some_rise most d.id h rest (λ at. same (suc at)) parts.1) (ltb-true before d.id parts.0)
  where
    go : (o : Option Directive) → ((found : Directive) → Some d ≡ Some d → o ≡ Some found → found.id ≡ d.id) → IsTrue (rise_to most d.id (ids_of (filter_map h rest))) → before < d.id →
        IsTrue (rise_to most before (ids_of (cons_option o (filter_map h rest))))
    go None ids others less = lower most before d.id (ids_of (filter_map h rest)) less others
    go (Some found) ids others less =
        subst (λ (id : ℕ). IsTrue (rise_to most before (id ∷ ids_of (filter_map h rest)))) (sym (ids found refl refl))
        (and_too (nat_lt before d.id) (rise_to most d.id (ids_of (filter_map h rest))) (lt-ltb before d.id less) others)

-- ids that rise to where others begin
rise_on : (most mid before : ℕ) (xs ys : List ℕ) → IsTrue (rise_to mid before xs) → ((low : ℕ) → low < mid → IsTrue (rise_to most low ys)) → IsTrue (rise_to most before (xs ++ ys))
rise_on most mid before [] ys rise others = others before (ltb-true before mid rise)
rise_on most mid before (x ∷ xs) ys rise others =
    let parts = both (nat_lt before x) (rise_to mid x xs) rise in
    and_too (nat_lt before x) (rise_to most x (xs ++ ys)) parts.0 (rise_on most mid x xs ys parts.1 others)

tail_same : (x y : ℕ) (xs ys : List ℕ) → x ∷ xs ≡ y ∷ ys → xs ≡ ys
tail_same x y xs ys h = ap (drop 1) h

head_same : (x y : ℕ) (xs ys : List ℕ) → x ∷ xs ≡ y ∷ ys → x ≡ y
head_same x y xs ys h = ap (λ zs. get_or zs 0 0) h

-- the new ids rise
new_rise : (base : Plan) (new : ℕ → ℕ) (next low : ℕ) (ds : List Directive) → map new (ids_of ds) ≡ ids_given base.directives next ds → low < next →
    IsTrue (rise_to (next + length (filter_map (λ (d : Directive). if is_new base d then Some (with_new_ids new d) else None) ds)) low
    (ids_of (filter_map (λ (d : Directive). if is_new base d then Some (with_new_ids new d) else None) ds)))
new_rise base new next low [] are less = lt-ltb low (next + 0) (omega (arith, less))
new_rise base new next low (d ∷ rest) are less =
    go (has base.directives d.id) refl are (λ n l e. new_rise base new n l rest e)
  where
    h : Directive → Option Directive
    h x = if is_new base x then Some (with_new_ids new x) else None

    go : (t : Bool) → has base.directives d.id ≡ t →
        new d.id ∷ map new (ids_of rest) ≡ (if t then d.id else next) ∷ ids_given base.directives (if t then next else suc next) rest →
        ((n l : ℕ) → map new (ids_of rest) ≡ ids_given base.directives n rest → l < n → IsTrue (rise_to (n + length (filter_map h rest)) l (ids_of (filter_map h rest)))) →
        IsTrue (rise_to (next + length (cons_option (if not t then Some (with_new_ids new d) else None) (filter_map h rest))) low
        (ids_of (cons_option (if not t then Some (with_new_ids new d) else None) (filter_map h rest))))
    go true is are others = others next low (tail_same (new d.id) d.id (map new (ids_of rest)) (ids_given base.directives next rest) are) less
    go false is are others =
        let head = head_same (new d.id) next (map new (ids_of rest)) (ids_given base.directives (suc next) rest) are in
        let sum : suc next + length (filter_map h rest) ≡ next + suc (length (filter_map h rest)) = omega arith in
        let above : low < new d.id = omega (arith, head, less) in
        let under : new d.id < suc next = omega (arith, head) in
        and_too (nat_lt low (new d.id)) (rise_to (next + suc (length (filter_map h rest))) (new d.id) (ids_of (filter_map h rest))) (lt-ltb low (new d.id) above)
        (subst (λ (n : ℕ). IsTrue (rise_to n (new d.id) (ids_of (filter_map h rest)))) sum
        (others (suc next) (new d.id) (tail_same (new d.id) next (map new (ids_of rest)) (ids_given base.directives (suc next) rest) are) under))

ids_append : (xs ys : List Directive) → ids_of (xs ++ ys) ≡ ids_of xs ++ ids_of ys
ids_append [] ys = refl
ids_append (x ∷ xs) ys = ap (λ (ids : List ℕ). x.id ∷ ids) (ids_append xs ys)

-- the merged ids rise to the next id
module _ (base source target : Plan) (rising : IsTrue (rise_to target.next_id 0 (ids_of target.directives))) (source_rising : IsTrue (rise_to source.next_id 0 (ids_of source.directives))) where
  left_id : (at : ℕ) (d found : Directive) → slice_get target.directives at ≡ Some d → left_by base source target d (with_id base.directives d.id) ≡ Some found → found.id ≡ d.id
  left_id at d found here h = go (with_id base.directives d.id) refl h
    where
      go : (o : Option Directive) → with_id base.directives d.id ≡ o → left_by base source target d o ≡ Some found → found.id ≡ d.id
      go None is h = ap (λ (x : Directive). x.id) (sym (same_Some d found h))
      go (Some of_base) is h =
          let same_id = id_found base.directives d.id of_base is in
          let there : with_id target.directives of_base.id ≡ Some d = ap (with_id target.directives) same_id ∙ found_by_id target.next_id 0 target.directives at d rising here in
          row_id of_base (source_with base source target of_base.id) d found (source_id of_base same_id is)
          (sym (ap (λ (o : Option Directive). what_is_left (row of_base (source_with base source target of_base.id) o)) there) ∙ h)
        where
          source_id : (of_base : Directive) → of_base.id ≡ d.id → with_id base.directives d.id ≡ Some of_base → (of : Directive) → source_with base source target of_base.id ≡ Some of → of.id ≡ d.id
          source_id of_base same_id is of e = of_source (with_id source.directives of_base.id) refl e
            where
              of_source : (o : Option Directive) → with_id source.directives of_base.id ≡ o → option_map (renamed base source target) o ≡ Some of → of.id ≡ d.id
              of_source None none e = absurd (none-some of e)
              of_source (Some s) found_it e =
                  let s_id = id_found source.directives of_base.id s found_it ∙ same_id in
                  sym (ap (λ (x : Directive). x.id) (same_Some (renamed base source target s) of e))
                  ∙ kept_id base.directives (first_new base target) source.directives s.id (ap (has base.directives) s_id ∙ ap is_some is) ∙ s_id

  target_first : target.next_id ≤ first_new base target
  target_first = go (nat_lt base.next_id target.next_id) refl
    where
      go : (t : Bool) → nat_lt base.next_id target.next_id ≡ t → target.next_id ≤ (if t then target.next_id else base.next_id)
      go true h = omega arith
      go false h = ltb-false base.next_id target.next_id h

  pub merged_rise : IsTrue (rise_to (next_after base target (length (added base source target))) 0 (ids_of (merged base source target)))
  merged_rise =
      subst (λ (ids : List ℕ). IsTrue (rise_to (next_after base target (length (added base source target))) 0 ids)) (sym (ids_append (left_of_target base source target) (added base source target)))
      (go (added base source target) refl)
    where
      left_rise : IsTrue (rise_to target.next_id 0 (ids_of (left_of_target base source target)))
      left_rise = some_rise target.next_id 0 (λ (d : Directive). left_by base source target d (with_id base.directives d.id)) target.directives left_id rising

      new_rises : (low : ℕ) → low < target.next_id → IsTrue (rise_to (first_new base target + length (added base source target)) low (ids_of (added base source target)))
      new_rises low less =
          new_rise base (new_id base.directives (first_new base target) source.directives) (first_new base target) low source.directives
          (sym (given_are base.directives source.next_id (first_new base target) 0 source.directives source_rising)) (lt_of_lt_of_le less target_first)

      go : (new : List Directive) → added base source target ≡ new → IsTrue (rise_to (next_after base target (length new)) 0 (ids_of (left_of_target base source target) ++ ids_of new))
      go [] none = rise_on target.next_id target.next_id 0 (ids_of (left_of_target base source target)) [] left_rise (λ low less. lt-ltb low target.next_id less)
      go (x ∷ xs) are =
          rise_on (first_new base target + suc (length xs)) target.next_id 0 (ids_of (left_of_target base source target)) (ids_of (x ∷ xs)) left_rise
          (λ low less. subst (λ (new : List Directive). IsTrue (rise_to (first_new base target + length new) low (ids_of new))) are (new_rises low less))
