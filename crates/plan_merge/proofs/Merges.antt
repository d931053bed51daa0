-- A merged plan keeps the condition on plans.
use Rattle.std.proofs.Common.{◌≡◌, ℕ, suc, ◌≤◌, ◌||◌, ◌&&◌, not, Bool, true, false, IsTrue, List, [], ◌∷◌, Option, Some, None, Result, Ok, Err, IfOk, filter_map, length, nat_eq, nat_lt, refl, sym, ap, subst, ◌∙◌, ltb-false, true≢false, if◌then◌else◌, arith}
use Rattle.std.specs.List.{list_all, cons_option}
use Rattle.std.proofs.lemmas.Option.{none-some, same_Some}
use Rattle.aerie_base.specs.declared.plans.Directive.{Directive}
use Rattle.aerie_base.specs.declared.plans.Plan.{Plan}
use Rattle.aerie_base.specs.plans.OfModel.{directive_limit, rise_to, ids_of, with_id, is_there, anchored_to, followed}
use Rattle.aerie_base.specs.plans.FollowedAnchors.{nowhere}
use Rattle.aerie_base.specs.plans.FoundById.{id_found}
use Rattle.plan_merge.specs.CycleLaws.{round_within}
use Rattle.plan_merge.specs.declared.answers.Merged.{Merged}
use Rattle.plan_merge.specs.declared.answers.Conflict.{Conflict}
use Rattle.plan_merge.specs.declared.answers.MergeError.{MergeError}
use Rattle.plan_merge.specs.declared.answers.MergeError.TheVariants.{Conflicts, TooMany}
use Rattle.plan_merge.specs.declared.answers.ConflictKind.{ConflictKind}
use Rattle.plan_merge.specs.declared.answers.ConflictKind.TheVariants.{Anchor, Cycle}
use Rattle.plan_merge.specs.Merging.{has_dangling_anchor, is_on_cycle, conflicts_of, conflict_where, made_or_conflicts, made, unless, returns_within}
use Rattle.plan_merge.specs.Plans.{IsInOrder}
use Rattle.plan_merge.specs.Answers.{UnlessOutOfMemory}

pub length_filter_map : {X Y : Type 0} (h : X → Option Y) (xs : List X) → length (filter_map h xs) ≤ length xs
length_filter_map h [] = omega arith
length_filter_map h (x ∷ xs) = go (h x) (length_filter_map h xs)
  where
    go : (o : _) → length (filter_map h xs) ≤ length xs → length (cons_option o (filter_map h xs)) ≤ suc (length xs)
    go None less = omega (arith, less)
    go (Some y) less = omega (arith, less)

-- where there is no conflict, all pass the other way
all_pass : (kind : ConflictKind) (test : Directive → Bool) (ds : List Directive) → conflicts_of kind (λ d. not (test d)) ds ≡ [] → IsTrue (list_all test ds)
all_pass kind test [] none = refl
all_pass kind test (d ∷ rest) none = go (test d) none (all_pass kind test rest)
  where
    go : (t : Bool) → cons_option (conflict_where kind d.id (not t)) (conflicts_of kind (λ d. not (test d)) rest) ≡ [] → (conflicts_of kind (λ d. not (test d)) rest ≡ [] → IsTrue (list_all test rest)) →
        (t && list_all test rest) ≡ true
    go true none others = others none
    go false none others = absurd (omega (arith, ap length none))

-- where there is no conflict, one with an id does not pass
not_found : (kind : ConflictKind) (test : Directive → Bool) (ds : List Directive) (id : ℕ) (found : Directive) → conflicts_of kind test ds ≡ [] → with_id ds id ≡ Some found → test found ≡ false
not_found kind test [] id found none here = absurd (none-some found here)
not_found kind test (d ∷ rest) id found none here = go (test d) refl none (nat_eq d.id id) here (not_found kind test rest id found)
  where
    go : (t : Bool) → test d ≡ t → cons_option (conflict_where kind d.id t) (conflicts_of kind test rest) ≡ [] → (u : Bool) → (if u then Some d else with_id rest id) ≡ Some found →
        (conflicts_of kind test rest ≡ [] → with_id rest id ≡ Some found → test found ≡ false) → test found ≡ false
    go true is none u here others = absurd (omega (arith, ap length none))
    go false is none true here others = ap test (sym (same_Some d found here)) ∙ is
    go false is none false here others = others none here

module _ (target : Plan) (next : ℕ) (ds new : List Directive) (rising : IsTrue (rise_to next 0 (ids_of ds))) where
  in_order : conflicts_of Anchor (has_dangling_anchor ds) ds ≡ [] → conflicts_of Cycle (is_on_cycle ds) ds ≡ [] → length ds ≤ directive_limit → IsInOrder (record target { next_id = next; directives = ds })
  in_order anchors cycles few = record {
    count = few;
    ids = rising;
    anchors = all_pass Anchor (λ d. is_there ds (anchored_to d)) ds anchors;
    acyclic = acyclic;
  }
    where
      acyclic : (id steps : ℕ) → followed ds (suc steps) id ≡ Some id → ⊥
      acyclic id steps round = go (with_id ds id) refl
        where
          go : (o : Option Directive) → with_id ds id ≡ o → ⊥
          go None none = none-some id (sym (nowhere ds steps id none) ∙ round)
          go (Some found) here =
              true≢false (sym (round_within ds steps id round) ∙ ap (λ (i : ℕ). returns_within ds i (length ds)) (sym (id_found ds id found here))
              ∙ not_found Cycle (is_on_cycle ds) ds id found cycles here)

  made_order : conflicts_of Anchor (has_dangling_anchor ds) ds ≡ [] → conflicts_of Cycle (is_on_cycle ds) ds ≡ [] → (m : Merged) → made target next ds new ≡ Ok m → IsInOrder m.plan
  made_order anchors cycles m h = go (nat_lt directive_limit (length ds)) (nat_lt 4_294_967_295 next) refl h
    where
      go : (t u : Bool) → nat_lt directive_limit (length ds) ≡ t → (if (t || u) then Err TooMany else Ok (record { plan = record target { next_id = next; directives = ds }; added = ids_of new })) ≡ Ok m → IsInOrder m.plan
      go true u is h = absurd (err_ok h)
        where
          err_ok : Err TooMany ≡ Ok m → ⊥
          err_ok h = grind arith
      go false true is h = absurd (err_ok h)
        where
          err_ok : Err TooMany ≡ Ok m → ⊥
          err_ok h = grind arith
      go false false is h = subst (λ (r : Result Merged MergeError). IfOk r (λ m. IsInOrder m.plan)) h (in_order anchors cycles (ltb-false directive_limit (length ds) is))

  pub judged_order : (r : Result Merged MergeError) → UnlessOutOfMemory (made_or_conflicts target next ds new) r → IfOk r (λ m. IsInOrder m.plan)
  judged_order (Err e) h = tt
  judged_order (Ok m) h = go (conflicts_of Anchor (has_dangling_anchor ds) ds) refl (conflicts_of Cycle (is_on_cycle ds) ds) refl h
    where
      go : (a : List Conflict) → conflicts_of Anchor (has_dangling_anchor ds) ds ≡ a → (b : List Conflict) → conflicts_of Cycle (is_on_cycle ds) ds ≡ b → unless a (unless b (made target next ds new)) ≡ Ok m → IsInOrder m.plan
      go (x ∷ xs) is b cycles h = absurd (err_ok (x ∷ xs) h)
        where
          err_ok : (cs : List Conflict) → Err (Conflicts cs) ≡ Ok m → ⊥
          err_ok cs h = grind arith
      go [] none (x ∷ xs) cycles h = absurd (err_ok (x ∷ xs) h)
        where
          err_ok : (cs : List Conflict) → Err (Conflicts cs) ≡ Ok m → ⊥
          err_ok cs h = grind arith
      go [] anchors [] cycles h = made_order anchors cycles m h
