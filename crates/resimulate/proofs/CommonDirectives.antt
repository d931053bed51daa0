-- What two plans have in common: the first and the last directives, and those that are not of a range.
use Rattle.std.proofs.Common.{◌≡◌, ℕ, zero, suc, ◌+◌, ◌-◌, ◌<◌, Bool, true, false, List, [], ◌∷◌, ◌++◌, length, take, drop, get_or, Option, Some, None, slice_get, refl, sym, ap, ◌∙◌, arith}
use Rattle.std.proofs.lemmas.List.{take-append-drop}
use Rattle.aerie_base.specs.declared.plans.Directive.{Directive}
use Rattle.aerie_base.specs.declared.plans.Plan.{Plan}
use Rattle.parting.specs.IdRanges.{is_id_between}
use Rattle.resimulate.specs.Partings.{others_of, AreSameOutside, PartsBy, SkipsTo}
use Rattle.resimulate.specs.declared.partings.Parting.{Parting}
use Rattle.resimulate.specs.UnbegunTasks.{IsInPlan}
use Rattle.resimulate.proofs.SharedInstants.{kept, skipped, taken_next}
use Rattle.resimulate.proofs.TaskTraces.{drop_next}

-- ---- the first and the last ones

pub front_more : (directives others : List Directive) (at : ℕ) (one other : Directive) → at < length directives → at < length others → one ≡ get_or directives at one → other ≡ get_or others at other →
    one ≡ other → take at directives ≡ take at others → take (at + 1) directives ≡ take (at + 1) others
front_more directives others at one other less less_too is is_too same so_far =
    sym (taken_next at directives one less is) ∙ (λ i. so_far i ++ same i ∷ []) ∙ taken_next at others other less_too is_too

behind_more_at : (directives others : List Directive) (at to : ℕ) (one other : Directive) → at < length directives → to < length others → one ≡ get_or directives at one → other ≡ get_or others to other →
    one ≡ other → drop (at + 1) directives ≡ drop (to + 1) others → drop at directives ≡ drop to others
behind_more_at directives others at to one other less less_too is is_too same so_far =
    drop_next at directives one less is ∙ (λ i. same i ∷ so_far i) ∙ sym (drop_next to others other less_too is_too)

pub behind_more : (directives others : List Directive) (back at to : ℕ) (one other : Directive) → back < length directives → back < length others →
    at ≡ length directives - 1 - back → to ≡ length others - 1 - back → one ≡ get_or directives at one → other ≡ get_or others to other → one ≡ other →
    drop (length directives - back) directives ≡ drop (length others - back) others → drop (length directives - (back + 1)) directives ≡ drop (length others - (back + 1)) others
behind_more directives others back at to one other less less_too here there is is_too same so_far =
    let next : length directives - back ≡ at + 1 = omega (arith, less, here) in
    let next_too : length others - back ≡ to + 1 = omega (arith, less_too, there) in
    let this : length directives - (back + 1) ≡ at = omega (arith, less, here) in
    let this_too : length others - (back + 1) ≡ to = omega (arith, less_too, there) in
    ap (λ k. drop k directives) this
    ∙ behind_more_at directives others at to one other (omega (arith, less, here)) (omega (arith, less_too, there)) is is_too same
    (ap (λ k. drop k directives) (sym next) ∙ so_far ∙ ap (λ k. drop k others) next_too)
    ∙ ap (λ k. drop k others) (sym this_too)

drop_whole : {A : Type 0} (items : List A) → drop (length items) items ≡ []
drop_whole [] = refl
drop_whole (first ∷ rest) = drop_whole rest

pub none_behind : (directives others : List Directive) → drop (length directives - 0) directives ≡ drop (length others - 0) others
none_behind directives others =
    let mine : length directives - 0 ≡ length directives = omega arith in
    let theirs : length others - 0 ≡ length others = omega arith in
    ap (λ k. drop k directives) mine ∙ drop_whole directives ∙ sym (drop_whole others) ∙ ap (λ k. drop k others) (sym theirs)

-- ---- those that are not of the range

module _ (first past : ℕ) where
  others_append : (front rest : List Directive) → others_of first past (front ++ rest) ≡ others_of first past front ++ others_of first past rest
  others_append [] rest = refl
  others_append (one ∷ front) rest = by (is_id_between first past one.id) refl (others_append front rest)
    where
      by : (among : Bool) → is_id_between first past one.id ≡ among → others_of first past (front ++ rest) ≡ others_of first past front ++ others_of first past rest →
          others_of first past (one ∷ (front ++ rest)) ≡ others_of first past (one ∷ front) ++ others_of first past rest
      by true e so =
          skipped first past one (front ++ rest) e ∙ so ∙ ap (λ (l : List Directive). l ++ others_of first past rest) (sym (skipped first past one front e))
      by false e so =
          kept first past one (front ++ rest) e ∙ ap (λ (l : List Directive). one ∷ l) so
          ∙ ap (λ (l : List Directive). l ++ others_of first past rest) (sym (kept first past one front e))

  parts_of : (directives : List Directive) (front next : ℕ) → SkipsTo first past directives front next →
      others_of first past directives ≡ others_of first past (take front directives) ++ others_of first past (drop next directives)
  parts_of directives front next skips =
      ap (others_of first past) (sym (take-append-drop front directives)) ∙ others_append (take front directives) (drop front directives)
      ∙ ap (λ (l : List Directive). others_of first past (take front directives) ++ l) skips

  pub same_but_between : (directives others : List Directive) (front next old_next : ℕ) → take front directives ≡ take front others → drop next directives ≡ drop old_next others →
      SkipsTo first past directives front next → SkipsTo first past others front old_next → others_of first past directives ≡ others_of first past others
  same_but_between directives others front next old_next same same_too skips skips_too =
      parts_of directives front next skips ∙ (λ i. others_of first past (same i) ++ others_of first past (same_too i)) ∙ sym (parts_of others front old_next skips_too)

  into_others : (directives : List Directive) (place : ℕ) (one : Directive) → is_id_between first past one.id ≡ false → slice_get directives place ≡ Some one →
      (at : ℕ) × (slice_get (others_of first past directives) at ≡ Some one)
  into_others [] place one out e = absurd (cc)
  into_others (head ∷ rest) zero one out e =
      let same : head ≡ one = cc in
      let among : is_id_between first past head.id ≡ false = ap (λ (d : Directive). is_id_between first past d.id) same ∙ out in
      (0, ap (λ (l : List Directive). slice_get l 0) (kept first past head rest among) ∙ e)
  into_others (head ∷ rest) (suc place) one out e = by (is_id_between first past head.id) refl (into_others rest place one out e)
    where
      by : (among : Bool) → is_id_between first past head.id ≡ among → (at : ℕ) × (slice_get (others_of first past rest) at ≡ Some one) →
          (at : ℕ) × (slice_get (others_of first past (head ∷ rest)) at ≡ Some one)
      by true f found = (found.0, ap (λ (l : List Directive). slice_get l found.0) (skipped first past head rest f) ∙ found.1)
      by false f found = (suc found.0, ap (λ (l : List Directive). slice_get l (suc found.0)) (kept first past head rest f) ∙ found.1)

  from_others : (directives : List Directive) (at : ℕ) (one : Directive) → slice_get (others_of first past directives) at ≡ Some one → (place : ℕ) × (slice_get directives place ≡ Some one)
  from_others [] at one e = absurd (cc)
  from_others (head ∷ rest) at one e = by (is_id_between first past head.id) refl at e (λ k there. from_others rest k one there)
    where
      by : (among : Bool) → is_id_between first past head.id ≡ among → (at : ℕ) → slice_get (others_of first past (head ∷ rest)) at ≡ Some one →
          ((k : ℕ) → slice_get (others_of first past rest) k ≡ Some one → (place : ℕ) × (slice_get rest place ≡ Some one)) → (place : ℕ) × (slice_get (head ∷ rest) place ≡ Some one)
      by true f at g in_rest =
          let found = in_rest at (ap (λ (l : List Directive). slice_get l at) (sym (skipped first past head rest f)) ∙ g) in
          (suc found.0, found.1)
      by false f zero g in_rest = (0, ap (λ (l : List Directive). slice_get l 0) (sym (kept first past head rest f)) ∙ g)
      by false f (suc at) g in_rest =
          let found = in_rest at (ap (λ (l : List Directive). slice_get l (suc at)) (sym (kept first past head rest f)) ∙ g) in
          (suc found.0, found.1)

  pub stands_in_both : (plan old_plan : Plan) (one : Directive) → others_of first past plan.directives ≡ others_of first past old_plan.directives →
      is_id_between first past one.id ≡ false → IsInPlan plan one → IsInPlan old_plan one
  stands_in_both plan old_plan one same out in_plan =
      let found = into_others plan.directives in_plan.0 one out in_plan.1 in
      from_others old_plan.directives found.0 one (ap (λ (l : List Directive). slice_get l found.0) (sym same) ∙ found.1)

-- ---- where plans part

pub same_outside : (plan old_plan : Plan) (found : Option Parting) → PartsBy plan old_plan found → AreSameOutside plan old_plan found
same_outside plan old_plan None parts = tt
same_outside plan old_plan (Some parting) parts = parts.same

-- what is read at an index stands in the plan
pub read_in_plan : (directives : List Directive) (at : ℕ) (one : Directive) → at < length directives → one ≡ get_or directives at one → slice_get directives at ≡ Some one
read_in_plan [] at one less is = absurd (omega (arith, less))
read_in_plan (head ∷ rest) zero one less is = ap Some (sym is)
read_in_plan (head ∷ rest) (suc at) one less is = read_in_plan rest at one (omega (arith, less)) is
