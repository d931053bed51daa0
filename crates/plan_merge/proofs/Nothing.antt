-- Merged from a source that changed nothing, a target stays as it is.
use Rattle.std.proofs.Common.{◌≡◌, ℕ, zero, suc, ◌<◌, ◌≤◌, ◌^◌, ◌||◌, ◌&&◌, ◌++◌, not, Bool, true, false, List, [], ◌∷◌, Option, Some, None, Ok, Err, option_map, is_some, filter_map, slice_get, length, nat_lt, refl, sym, ap, ◌∙◌, true≢false, if◌then◌else◌, arith, ltb-true}
use Rattle.std.specs.List.{list_all, cons_option}
use Rattle.std.proofs.lemmas.Option.{none-some, same_Some}
use Rattle.std.proofs.lemmas.List.{append-nil}
use Rattle.aerie_base.specs.declared.plans.Anchor.{Anchor}
use Rattle.aerie_base.specs.declared.plans.Directive.{Directive}
use Rattle.aerie_base.specs.declared.plans.Plan.{Plan}
use Rattle.aerie_base.specs.plans.OfModel.{directive_limit, with_id, is_there, anchored_to}
use Rattle.aerie_base.specs.plans.RisingIds.{found_by_id}
use Rattle.aerie_base.specs.plans.FoundById.{id_found}
use Rattle.plan_merge.specs.CycleLaws.{within_true}
use Rattle.plan_merge.specs.declared.answers.ConflictKind.TheVariants.{Anchor as Dangling, Both, Cycle, Removed}
use Rattle.plan_merge.specs.declared.answers.MergeError.TheVariants.{TooMany}
use Rattle.plan_merge.specs.Renaming.{new_id, with_new_id, renamed, renamed_if_new, added, first_new}
use Rattle.plan_merge.specs.Table.{same, row}
use Rattle.plan_merge.specs.Merging.{becomes, source_with, clash_of, clashes, what_is_left, left_by, left_of_target, merged, conflicts_of, conflict_where, has_dangling_anchor, is_on_cycle, returns_within, unless, made, made_or_conflicts, merge_of, next_after}
use Rattle.plan_merge.specs.Plans.{AreMergeable}
use Rattle.plan_merge.proofs.Renames.{stays}
use Rattle.plan_merge.proofs.Rising.{kept_id}
use Rattle.plan_merge.proofs.Same.{decides_same}

-- a function that gives nothing of each item, and one that gives each item
pub gives_none : {X Y : Type 0} (h : X → Option Y) (xs : List X) → ((at : ℕ) (x : X) → slice_get xs at ≡ Some x → h x ≡ None) → filter_map h xs ≡ []
gives_none h [] none = refl
gives_none h (x ∷ xs) none = ap (λ o. cons_option o (filter_map h xs)) (none 0 x refl) ∙ gives_none h xs (λ at. none (suc at))

gives_each : {X : Type 0} (h : X → Option X) (xs : List X) → ((at : ℕ) (x : X) → slice_get xs at ≡ Some x → h x ≡ Some x) → filter_map h xs ≡ xs
gives_each h [] each = refl
gives_each h (x ∷ xs) each = ap (λ o. cons_option o (filter_map h xs)) (each 0 x refl) ∙ ap (λ ys. x ∷ ys) (gives_each h xs (λ at. each (suc at)))

pub same_as_itself : (d : Directive) → same d d ≡ true
same_as_itself d = (decides_same d d).1 (refl, (refl, (refl, refl)))

-- a test that all pass is passed by each
pub each_passes : {X : Type 0} (test : X → Bool) (xs : List X) → list_all test xs ≡ true → (at : ℕ) (x : X) → slice_get xs at ≡ Some x → test x ≡ true
each_passes test [] all at x here = absurd (none-some x here)
each_passes test (y ∷ ys) all at x here = go at (test y) refl all here (each_passes test ys)
  where
    go : (at : ℕ) → (t : Bool) → test y ≡ t → (t && list_all test ys) ≡ true → slice_get (y ∷ ys) at ≡ Some x →
        (list_all test ys ≡ true → (at : ℕ) (x : _) → slice_get ys at ≡ Some x → test x ≡ true) → test x ≡ true
    go at false is all here others = absurd (true≢false (sym all))
    go zero true is all here others = ap test (sym (same_Some y x here)) ∙ is
    go (suc at) true is all here others = others all at x here

module _ (base target : Plan) (order : AreMergeable base base target) where
  id_stays : (id : ℕ) → new_id base.directives (first_new base target) base.directives id ≡ id
  id_stays id = go (with_id base.directives id) refl
    where
      go : (o : Option Directive) → with_id base.directives id ≡ o → new_id base.directives (first_new base target) base.directives id ≡ id
      go None none = stays base.directives (first_new base target) base.directives id none
      go (Some d) here = kept_id base.directives (first_new base target) base.directives id (ap is_some here)

  renamed_same : (d : Directive) → renamed base base target d ≡ d
  renamed_same d = ap (λ (id : ℕ). record (renamed base base target d) { id = id }) (id_stays d.id) ∙ ap (λ (a : Option Anchor). record d { anchor = a }) (anchor_same d.anchor)
    where
      anchor_same : (a : Option Anchor) → option_map (with_new_id (new_id base.directives (first_new base target) base.directives)) a ≡ a
      anchor_same None = refl
      anchor_same (Some a) = ap (λ (to : ℕ). Some (record a { to = to })) (id_stays a.to)

  source_same : (d : Directive) → with_id base.directives d.id ≡ Some d → source_with base base target d.id ≡ Some d
  source_same d here = ap (option_map (renamed base base target)) here ∙ ap Some (renamed_same d)

  -- what becomes of a directive of the base is what the target has
  row_same : (d : Directive) (o : Option Directive) → row d (Some d) o ≡ Ok o
  row_same d None = ap (λ (t : Bool). if t then Ok None else Err Removed) (same_as_itself d)
  row_same d (Some t) = ap (λ (b : Bool). if (b || same d t) then Ok (Some t) else if same t d then Ok (Some d) else Err Both) (same_as_itself d)

  becomes_same : (d : Directive) → with_id base.directives d.id ≡ Some d → becomes base base target d ≡ Ok (with_id target.directives d.id)
  becomes_same d here = ap (λ o. row d o (with_id target.directives d.id)) (source_same d here) ∙ row_same d (with_id target.directives d.id)

  no_clash : clashes base base target ≡ []
  no_clash = gives_none (λ (d : Directive). clash_of d.id (becomes base base target d)) base.directives
      (λ at d here. ap (clash_of d.id) (becomes_same d (found_by_id base.next_id 0 base.directives at d order.base.ids here)))

  none_added : added base base target ≡ []
  none_added = gives_none (renamed_if_new base base target) base.directives
      (λ at d here. ap (λ (o : Option Directive). if not (is_some o) then Some (renamed base base target d) else None) (found_by_id base.next_id 0 base.directives at d order.base.ids here))

  all_left : left_of_target base base target ≡ target.directives
  all_left = gives_each (λ (d : Directive). left_by base base target d (with_id base.directives d.id)) target.directives each
    where
      each : (at : ℕ) (d : Directive) → slice_get target.directives at ≡ Some d → left_by base base target d (with_id base.directives d.id) ≡ Some d
      each at d here = go (with_id base.directives d.id) refl
        where
          go : (o : Option Directive) → with_id base.directives d.id ≡ o → left_by base base target d o ≡ Some d
          go None none = refl
          go (Some of_base) is =
              let same_id = id_found base.directives d.id of_base is in
              ap what_is_left (becomes_same of_base (ap (with_id base.directives) same_id ∙ is))
              ∙ ap (with_id target.directives) same_id ∙ found_by_id target.next_id 0 target.directives at d order.target.ids here

  merged_same : merged base base target ≡ target.directives
  merged_same = ap (λ ds. left_of_target base base target ++ ds) none_added ∙ append-nil (left_of_target base base target) ∙ all_left

  none_dangles : conflicts_of Dangling (has_dangling_anchor target.directives) target.directives ≡ []
  none_dangles = gives_none (λ (d : Directive). conflict_where Dangling d.id (has_dangling_anchor target.directives d)) target.directives
      (λ at d here. ap (λ (t : Bool). conflict_where Dangling d.id (not t)) (each_passes (λ (d : Directive). is_there target.directives (anchored_to d)) target.directives order.target.anchors at d here))

  no_cycle : conflicts_of Cycle (is_on_cycle target.directives) target.directives ≡ []
  no_cycle = gives_none (λ (d : Directive). conflict_where Cycle d.id (is_on_cycle target.directives d)) target.directives
      (λ at d here. ap (conflict_where Cycle d.id) (go d.id (is_on_cycle target.directives d) refl))
    where
      go : (id : ℕ) (t : Bool) → returns_within target.directives id (length target.directives) ≡ t → returns_within target.directives id (length target.directives) ≡ false
      go id true h = let one = within_true target.directives id (length target.directives) h in absurd (order.target.acyclic id one.0 one.1)
      go id false h = h

  made_same : target.next_id < 2 ^ 32 → made target target.next_id target.directives [] ≡ Ok (record { plan = target; added = [] })
  made_same small =
      ap (λ (t : Bool). if (t || nat_lt 4_294_967_295 target.next_id) then Err TooMany else Ok (record { plan = target; added = [] })) (not_less directive_limit (length target.directives) order.target.count)
      ∙ ap (λ (t : Bool). if t then Err TooMany else Ok (record { plan = target; added = [] })) (not_less 4_294_967_295 target.next_id (omega (arith, small)))
    where
      not_less : (a b : ℕ) → b ≤ a → nat_lt a b ≡ false
      not_less a b h = go (nat_lt a b) refl
        where
          go : (t : Bool) → nat_lt a b ≡ t → nat_lt a b ≡ false
          go true k = absurd (omega (arith, h, ltb-true a b k))
          go false k = k

  pub unchanged : target.next_id < 2 ^ 32 → merge_of base base target ≡ Ok (record { plan = target; added = [] })
  unchanged small =
      ap (λ cs. unless cs (made_or_conflicts target (next_after base target (length (added base base target))) (merged base base target) (added base base target))) no_clash
      ∙ ap (λ (new : List Directive). made_or_conflicts target (next_after base target (length new)) (merged base base target) new) none_added
      ∙ ap (λ (ds : List Directive). made_or_conflicts target target.next_id ds []) merged_same
      ∙ ap (λ cs. unless cs (unless (conflicts_of Cycle (is_on_cycle target.directives) target.directives) (made target target.next_id target.directives []))) none_dangles
      ∙ ap (λ cs. unless cs (made target target.next_id target.directives [])) no_cycle
      ∙ made_same small
