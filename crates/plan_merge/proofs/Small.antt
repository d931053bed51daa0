-- Directives whose ids rise to a small next id, and whose anchors are among them, are small.
use Rattle.std.proofs.Common.{◌≡◌, ℕ, zero, suc, ◌+◌, ◌-◌, ◌<◌, ◌≤◌, ◌^◌, ◌||◌, not, Bool, true, false, IsTrue, List, [], ◌∷◌, Option, Some, None, IfSome, take, drop, get_or, length, nat_eq, nat_lt, refl, sym, ap, subst, ◌∙◌, eqb-true, ltb-true, lt_trans, true≢false, arith}
use Rattle.std.specs.List.{list_any, cons_option}
use Rattle.std.proofs.lemmas.List.{get_or-take, get_or-drop, take_all, length-drop}
use Rattle.aerie_base.specs.declared.plans.Directive.{Directive}
use Rattle.aerie_base.specs.plans.OfModel.{rise_to, ids_of, is_there, anchored_to}
use Rattle.aerie_base.specs.plans.RisingIds.{both}
use Rattle.plan_merge.specs.declared.answers.ConflictKind.{ConflictKind}
use Rattle.plan_merge.specs.declared.answers.ConflictKind.TheVariants.{Anchor}
use Rattle.plan_merge.specs.Merging.{has_dangling_anchor, conflict_where, conflicts_of}
use Rattle.plan_merge.specs.Answers.{HasSmallIds, HaveSmallIds}

pub before_next : (next before : ℕ) (ids : List ℕ) → IsTrue (rise_to next before ids) → before < next
before_next next before [] rise = ltb-true before next rise
before_next next before (id ∷ ids) rise =
    let parts = both (nat_lt before id) (rise_to next id ids) rise in
    lt_trans (ltb-true before id parts.0) (before_next next id ids parts.1)

below_next : (next before : ℕ) (ds : List Directive) (at : ℕ) (other : Directive) → IsTrue (rise_to next before (ids_of ds)) → at < length ds → (get_or ds at other).id < next
below_next next before [] at other rise within = absurd (omega (arith, within))
below_next next before (d ∷ rest) zero other rise within = before_next next d.id (ids_of rest) (both (nat_lt before d.id) (rise_to next d.id (ids_of rest)) rise).1
below_next next before (d ∷ rest) (suc at) other rise within =
    below_next next d.id rest at other (both (nat_lt before d.id) (rise_to next d.id (ids_of rest)) rise).1 (omega (arith, within))

any_below : (next before id : ℕ) (ids : List ℕ) → IsTrue (rise_to next before ids) → list_any (nat_eq id) ids ≡ true → id < next
any_below next before id [] rise h = absurd (true≢false (sym h))
any_below next before id (first ∷ ids) rise h = go (any_below next first id ids (both (nat_lt before first) (rise_to next first ids) rise).1) (nat_eq id first) refl h
  where
    low : first < next
    low = before_next next first ids (both (nat_lt before first) (rise_to next first ids) rise).1

    go : (list_any (nat_eq id) ids ≡ true → id < next) → (t : Bool) → nat_eq id first ≡ t → (t || list_any (nat_eq id) ids) ≡ true → id < next
    go others true same k = subst (λ (n : ℕ). n < next) (sym (eqb-true id first same)) low
    go others false same k = others k

-- where there is no conflict, no directive passes the test
pub none_passes : (kind : ConflictKind) (test : Directive → Bool) (ds : List Directive) (at : ℕ) (other : Directive) → conflicts_of kind test ds ≡ [] → at < length ds → test (get_or ds at other) ≡ false
none_passes kind test [] at other none within = absurd (omega (arith, within))
none_passes kind test (d ∷ rest) at other none within = go at (test d) refl none within (λ at. none_passes kind test rest at other)
  where
    go : (at : ℕ) → (t : Bool) → test d ≡ t → cons_option (conflict_where kind d.id t) (conflicts_of kind test rest) ≡ [] → at < suc (length rest) →
        ((at : ℕ) → conflicts_of kind test rest ≡ [] → at < length rest → test (get_or rest at other) ≡ false) → test (get_or (d ∷ rest) at other) ≡ false
    go at true is none within others = absurd (omega (arith, ap length none))
    go zero false is none within others = is
    go (suc at) false is none within others = others at none (omega (arith, within))

pub are_small : (next : ℕ) (ds : List Directive) → IsTrue (rise_to next 0 (ids_of ds)) → conflicts_of Anchor (has_dangling_anchor ds) ds ≡ [] → next < 2 ^ 32 → HaveSmallIds ds
are_small next ds rise none few at other within = record {
  id = lt_trans (below_next next 0 ds at other rise within) few;
  anchor = go (anchored_to (get_or ds at other)) (none_passes Anchor (has_dangling_anchor ds) ds at other none within);
}
  where
    go : (reached_one : Option ℕ) → not (is_there ds reached_one) ≡ false → IfSome reached_one (λ to. to < 2 ^ 32)
    go None h = tt
    go (Some id) h = lt_trans (any_below next 0 id (ids_of ds) rise (so (list_any (nat_eq id) (ids_of ds)) h)) few
      where
        so : (a : Bool) → not a ≡ false → a ≡ true
        so true k = refl
        so false k = absurd (true≢false k)

pub small_behind : (ds : List Directive) (kept : ℕ) → kept ≤ length ds → HaveSmallIds ds → HaveSmallIds (take (length ds - kept) (drop kept ds))
small_behind ds kept some small at other within =
    let long : length (take (length ds - kept) (drop kept ds)) ≡ length ds - kept = length-take-all in
    let inside : kept + at < length ds = omega (arith, within, long, some) in
    let front : at < length ds - kept = omega (arith, within, long) in
    subst HasSmallIds (sym (get_or-take (length ds - kept) (drop kept ds) at other front ∙ get_or-drop kept ds at other)) (small (kept + at) other inside)
  where
    length-take-all : length (take (length ds - kept) (drop kept ds)) ≡ length ds - kept
    length-take-all = ap length (take_all (length ds - kept) (drop kept ds) (omega (arith, length-drop kept ds))) ∙ length-drop kept ds
