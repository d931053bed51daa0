-- A file of lemmas: what it proves need not be read to trust a clause.
--
-- A merge of plans of a model is a plan of that model.
use Rattle.std.proofs.Common.{◌≡◌, ℕ, zero, suc, ◌≤◌, ◌<◌, ◌&&◌, ◌||◌, ◌⊎◌, inl, inr, Bool, true, false, IsTrue, List, [], ◌∷◌, Option, Some, None, Result, Ok, Err, option_map, length, slice_get, nat_lt, ltb-true, refl, sym, ap, subst, if◌then◌else◌, arith}
use Rattle.std.specs.List.{list_all}
use Rattle.std.proofs.lemmas.Option.{none-some, same_Some}
use Rattle.aerie_base.specs.declared.models.model.Parts.{Parts}
use Rattle.aerie_base.specs.declared.plans.Directive.{Directive}
use Rattle.aerie_base.specs.declared.plans.Plan.{Plan}
use Rattle.aerie_base.specs.plans.OfModel.{IsPlanOf, is_directive_of, takes, is_there, anchored_to, rise_to, ids_of, with_id}
use Rattle.aerie_base.specs.plans.RisingIds.{and_too, both}
use Rattle.plan_merge.specs.declared.answers.Conflict.{Conflict}
use Rattle.plan_merge.specs.declared.answers.ConflictKind.TheVariants.{Anchor as Dangling, Cycle, Both, Removed}
use Rattle.plan_merge.specs.declared.answers.Merged.{Merged}
use Rattle.plan_merge.specs.declared.answers.MergeError.{MergeError}
use Rattle.plan_merge.specs.declared.answers.MergeError.TheVariants.{Conflicts, TooMany}
use Rattle.plan_merge.specs.Renaming.{renamed, renamed_if_new, is_new, added}
use Rattle.plan_merge.specs.Table.{same, row}
use Rattle.plan_merge.specs.Merging.{source_with, what_is_left, left_by, left_of_target, merged, next_after, conflicts_of, has_dangling_anchor, is_on_cycle, clashes, unless, is_too_many, made, made_or_conflicts, merge_of}
use Rattle.plan_merge.specs.MergedPlans.{IsLike, MergesAreOfTheModel}
use Rattle.plan_merge.specs.Plans.{IsInOrder}
use Rattle.plan_merge.specs.SourceOnly.{IsAmong}
use Rattle.plan_merge.specs.MemberLaws.{id_among, from_some, from_either}

-- ---- lists of which all items pass a test

all_at : {A : Type 0} (p : A → Bool) (xs : List A) (at : ℕ) (x : A) → IsTrue (list_all p xs) → slice_get xs at ≡ Some x → IsTrue (p x)
all_at p [] at x all here = absurd (none-some x here)
all_at p (first ∷ rest) zero x all here = subst (λ y. IsTrue (p y)) (same_Some first x here) (both (p first) (list_all p rest) all).0
all_at p (first ∷ rest) (suc at) x all here = all_at p rest at x (both (p first) (list_all p rest) all).1 here

all_from : {A : Type 0} (p : A → Bool) (xs : List A) → ((at : ℕ) (x : A) → slice_get xs at ≡ Some x → IsTrue (p x)) → IsTrue (list_all p xs)
all_from p [] each = refl
all_from p (first ∷ rest) each = and_too (p first) (list_all p rest) (each 0 first refl) (all_from p rest (λ at. each (suc at)))

-- the next id is above the id before all
next_above : (next before : ℕ) (ids : List ℕ) → IsTrue (rise_to next before ids) → before < next
next_above next before [] rises = ltb-true before next rises
next_above next before (id ∷ rest) rises =
    let parts = both (nat_lt before id) (rise_to next id rest) rises in
    let first = ltb-true before id parts.0 in
    let later = next_above next id rest parts.1 in
    omega (arith, first, later)

-- ---- what does not rest on ids

module _ (model : Parts) (duration : ℕ) where
  abbrev fits : Directive → Bool
  fits directive = takes model.enums (slice_get model.activities directive.kind) directive.arguments && nat_lt directive.start duration

  abbrev AllFit : List Directive → Type 0
  AllFit directives = (d : Directive) → IsAmong directives d → IsTrue (fits d)

  of_plan : (plan : Plan) → IsPlanOf model plan → plan.duration ≡ duration → AllFit plan.directives
  of_plan plan is lasts d among =
      let takes_them = takes model.enums (slice_get model.activities d.kind) d.arguments in
      let parts = both (takes_them && nat_lt d.start plan.duration) (is_there plan.directives (anchored_to d))
      (all_at (is_directive_of model plan) plan.directives among.0 d is.directives among.1) in
      subst (λ (end : ℕ). IsTrue (takes_them && nat_lt d.start end)) lasts parts.0

  module _ (base source target : Plan) (of_source : AllFit source.directives) (of_target : AllFit target.directives) where
    -- a renamed directive of the source
    of_renamed : (x d : Directive) → IsAmong source.directives x → renamed base source target x ≡ d → IsTrue (fits d)
    of_renamed x d among is = subst (λ y. IsTrue (fits y)) is (of_source x among)

    of_added : AllFit (added base source target)
    of_added d among =
        let from = from_some (renamed_if_new base source target) source.directives among.0 d among.1 in
        go from.1.0 (from.0, from.1.1.0) (is_new base from.1.0) from.1.1.1
      where
        go : (x : Directive) → IsAmong source.directives x → (t : Bool) → (if t then Some (renamed base source target x) else None) ≡ Some d → IsTrue (fits d)
        go x among true is = of_renamed x d among (same_Some (renamed base source target x) d is)
        go x among false is = absurd (none-some d is)

    -- what is left of a directive of the base is the source's or the target's
    either : (of_base d : Directive) (s t : Option Directive) → what_is_left (row of_base s t) ≡ Some d → (s ≡ Some d) ⊎ (t ≡ Some d)
    either of_base d (Some x) (Some y) is = go (same x of_base || same x y) (same y of_base) is
      where
        go : (a b : Bool) → what_is_left (if a then Ok (Some y) else if b then Ok (Some x) else Err Both) ≡ Some d → (Some x ≡ Some d) ⊎ (Some y ≡ Some d)
        go true b is = inr is
        go false true is = inl is
        go false false is = absurd (none-some d is)
    either of_base d None (Some y) is = go (same y of_base) is
      where
        go : (a : Bool) → what_is_left (if a then Ok None else Err Removed) ≡ Some d → (None ≡ Some d) ⊎ (Some y ≡ Some d)
        go true is = absurd (none-some d is)
        go false is = absurd (none-some d is)
    either of_base d (Some x) None is = go (same x of_base) is
      where
        go : (a : Bool) → what_is_left (if a then Ok None else Err Removed) ≡ Some d → (Some x ≡ Some d) ⊎ (None ≡ Some d)
        go true is = absurd (none-some d is)
        go false is = absurd (none-some d is)
    either of_base d None None is = absurd (none-some d is)

    of_source_with : (id : ℕ) (d : Directive) → source_with base source target id ≡ Some d → IsTrue (fits d)
    of_source_with id d is = go (with_id source.directives id) refl is
      where
        go : (o : Option Directive) → with_id source.directives id ≡ o → option_map (renamed base source target) o ≡ Some d → IsTrue (fits d)
        go None here is = absurd (none-some d is)
        go (Some x) here is = of_renamed x d (id_among source.directives id x here) (same_Some (renamed base source target x) d is)

    of_left : AllFit (left_of_target base source target)
    of_left d among =
        let from = from_some (λ (t : Directive). left_by base source target t (with_id base.directives t.id)) target.directives among.0 d among.1 in
        go from.1.0 (from.0, from.1.1.0) (with_id base.directives from.1.0.id) from.1.1.1
      where
        by_parts : (of_base : Directive) → (source_with base source target of_base.id ≡ Some d) ⊎ (with_id target.directives of_base.id ≡ Some d) → IsTrue (fits d)
        by_parts of_base (inl is) = of_source_with of_base.id d is
        by_parts of_base (inr is) = of_target d (id_among target.directives of_base.id d is)

        go : (t : Directive) → IsAmong target.directives t → (o : Option Directive) → left_by base source target t o ≡ Some d → IsTrue (fits d)
        go t among None is = of_target d (subst (IsAmong target.directives) (same_Some t d is) among)
        go t among (Some of_base) is =
            by_parts of_base (either of_base d (source_with base source target of_base.id) (with_id target.directives of_base.id) is)

    of_merged : AllFit (merged base source target)
    of_merged d among = go (from_either (left_of_target base source target) (added base source target) among.0 d among.1)
      where
        go : IsAmong (left_of_target base source target) d ⊎ IsAmong (added base source target) d → IsTrue (fits d)
        go (inl one) = of_left d one
        go (inr one) = of_added d one

-- ---- the answer

unless_ok : (conflicts : List Conflict) (answer : Result Merged MergeError) (m : Merged) → unless conflicts answer ≡ Ok m → answer ≡ Ok m
unless_ok [] answer m is = is
unless_ok (conflict ∷ rest) answer m is = absurd (err_ok (conflict ∷ rest) is)
  where
    err_ok : (cs : List Conflict) → Err (Conflicts cs) ≡ Ok m → ⊥
    err_ok cs h = grind arith

same_ok : (r : Result Merged MergeError) (x m : Merged) → r ≡ Ok x → r ≡ Ok m → x ≡ m
same_ok r x m is other = grind arith

abbrev made_merge : Plan → ℕ → List Directive → List Directive → Merged
made_merge target next ds new = record { plan = record target { next_id = next; directives = ds }; added = ids_of new }

made_ok : (target : Plan) (next : ℕ) (ds new : List Directive) (m : Merged) → made target next ds new ≡ Ok m → m.plan ≡ record target { next_id = next; directives = ds }
made_ok target next ds new m is = go (is_too_many (length ds) next) is
  where
    err_ok : Err TooMany ≡ Ok m → ⊥
    err_ok h = grind arith

    go : (t : Bool) → (if t then Err TooMany else Ok (made_merge target next ds new)) ≡ Ok m →
        m.plan ≡ record target { next_id = next; directives = ds }
    go true is = absurd (err_ok is)
    go false is = sym (ap (λ (x : Merged). x.plan) (same_ok (Ok (made_merge target next ds new)) (made_merge target next ds new) m refl is))

abbrev count_added : Plan → Plan → Plan → ℕ
count_added base source target = length (added base source target)

merged_ok : (base source target : Plan) (m : Merged) → merge_of base source target ≡ Ok m →
    m.plan ≡ record target { next_id = next_after base target (count_added base source target); directives = merged base source target }
merged_ok base source target m is =
    let next = next_after base target (count_added base source target) in
    let ds = merged base source target in
    let new = added base source target in
    let first = unless_ok (clashes base source target) (made_or_conflicts target next ds new) m is in
    let second = unless_ok (conflicts_of Dangling (has_dangling_anchor ds) ds) (unless (conflicts_of Cycle (is_on_cycle ds) ds) (made target next ds new)) m first in
    made_ok target next ds new m (unless_ok (conflicts_of Cycle (is_on_cycle ds) ds) (made target next ds new) m second)

-- a plan with the merged directives whose ids and anchors are in order
like_target : (model : Parts) (base source target : Plan) → IsPlanOf model source → IsPlanOf model target → source.duration ≡ target.duration →
    (next : ℕ) (plan : Plan) → plan ≡ record target { next_id = next; directives = merged base source target } → IsInOrder plan → IsLike model target plan
like_target model base source target of_source of_target lasts next plan is order = record {
  of_model = record {
    duration = subst (λ (d : ℕ). 1 ≤ d) (sym lasts_too) of_target.duration;
    count = order.count;
    next_id = next_above plan.next_id 0 (ids_of plan.directives) order.ids;
    ids = order.ids;
    directives = all_from (is_directive_of model plan) plan.directives each;
    anchors = order.acyclic;
  };
  same_model = ap (λ (p : Plan). p.model) is;
  lasts = lasts_too;
}
  where
    lasts_too : plan.duration ≡ target.duration
    lasts_too = ap (λ (p : Plan). p.duration) is

    each : (at : ℕ) (d : Directive) → slice_get plan.directives at ≡ Some d → IsTrue (is_directive_of model plan d)
    each at d here =
        let takes_them = takes model.enums (slice_get model.activities d.kind) d.arguments in
        let among = subst (λ (ds : List Directive). slice_get ds at ≡ Some d) (ap (λ (p : Plan). p.directives) is) here in
        let fit = of_merged model target.duration base source target (of_plan model target.duration source of_source lasts)
        (of_plan model target.duration target of_target refl) d (at, among) in
        let there = all_at (λ (x : Directive). is_there plan.directives (anchored_to x)) plan.directives at d order.anchors here in
        and_too (takes_them && nat_lt d.start plan.duration) (is_there plan.directives (anchored_to d))
        (subst (λ (end : ℕ). IsTrue (takes_them && nat_lt d.start end)) (sym lasts_too) fit) there

pub of_the_model : MergesAreOfTheModel
of_the_model model base source target m of_source of_target lasts is order =
    like_target model base source target of_source of_target lasts (next_after base target (count_added base source target)) m.plan
    (merged_ok base source target m is) order
