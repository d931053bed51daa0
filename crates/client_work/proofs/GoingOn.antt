-- A schedule uses no id again, and what goes on uses none.
use Rattle.std.proofs.Common.{◌≡◌, ◌⊎◌, inl, inr, ℕ, zero, suc, ◌+◌, ◌≤◌, ◌<◌, ◌||◌, Bool, true, false, IsTrue, List, [], ◌∷◌, length, nat_eq, Some, refl, sym, ap, ◌∙◌, arith, subst, eqb-true}
use Rattle.std.specs.List.{list_any, range_with_len}
use Rattle.std.proofs.lemmas.Bool.{eq-eqb}
use Rattle.aerie_base.specs.declared.plans.Plan.{Plan}
use Rattle.aerie_base.specs.plans.OfModel.{ids_of, is_there}
use Rattle.scheduler.specs.OnlyAdds.{OnlyAdds}
use Rattle.client_work.specs.laws.BranchIds.{UsesNoIdAgain}
use Rattle.client_work.proofs.EditedIds.{GoesOn, IsAmong, among_both, ids_both}

-- ---- schedules

counted_from : (first count id : ℕ) → IsAmong (range_with_len first count) id → first ≤ id
counted_from first zero id is = absurd is
counted_from first (suc count) id (inl same) = omega (arith, same)
counted_from first (suc count) id (inr is) = let more = counted_from (first + 1) count id is in omega (arith, more)

pub adds_goes : (old new : Plan) (placed : List ℕ) → OnlyAdds old new placed → GoesOn old new
adds_goes old new placed adds = record {
  next_id = let next = adds.next_id in omega (arith, next);
  ids = λ id is.
      by id (among_both (ids_of old.directives) (ids_of adds.added) id
      (subst (λ (ids : List ℕ). IsAmong ids id) (ap ids_of adds.directives ∙ ids_both old.directives adds.added) is));
}
  where
    by : (id : ℕ) → IsAmong (ids_of old.directives) id ⊎ IsAmong (ids_of adds.added) id → IsAmong (ids_of old.directives) id ⊎ (old.next_id ≤ id)
    by id (inl is) = inl is
    by id (inr is) = inr (counted_from old.next_id (length adds.added) id (subst (λ (ids : List ℕ). IsAmong ids id) (adds.ids ∙ adds.counted) is))

-- ---- tests of ids

among_any : (ids : List ℕ) (id : ℕ) → IsTrue (list_any (nat_eq id) ids) → IsAmong ids id
among_any [] id is = absurd (cc)
among_any (first ∷ rest) id is = by (nat_eq id first) refl is (among_any rest id)
  where
    by : (here : Bool) → nat_eq id first ≡ here → IsTrue (here || list_any (nat_eq id) rest) → (IsTrue (list_any (nat_eq id) rest) → IsAmong rest id) →
        (first ≡ id) ⊎ IsAmong rest id
    by true same is others = inl (sym (eqb-true id first same))
    by false same is others = inr (others is)

any_among : (ids : List ℕ) (id : ℕ) → IsAmong ids id → IsTrue (list_any (nat_eq id) ids)
any_among [] id is = absurd is
any_among (first ∷ rest) id (inl same) = ap (λ (t : Bool). t || list_any (nat_eq id) rest) (eq-eqb id first (sym same))
any_among (first ∷ rest) id (inr is) = by (nat_eq id first) (any_among rest id is)
  where
    by : (here : Bool) → IsTrue (list_any (nat_eq id) rest) → IsTrue (here || list_any (nat_eq id) rest)
    by true others = refl
    by false others = others

pub none_again : (before after : Plan) → GoesOn before after → UsesNoIdAgain before after
none_again before after goes = record {
  next_id = goes.next_id;
  old_ids = λ id old there. by id old (goes.ids id (among_any (ids_of after.directives) id there));
}
  where
    by : (id : ℕ) → id < before.next_id → IsAmong (ids_of before.directives) id ⊎ (before.next_id ≤ id) → IsTrue (is_there before.directives (Some id))
    by id old (inl is) = any_among (ids_of before.directives) id is
    by id old (inr new) = absurd (omega (arith, old, new))
