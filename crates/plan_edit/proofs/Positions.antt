-- Positions of directives by the ids that stand in a text, and an index of them.
use Rattle.std.proofs.Common.{◌≡◌, ℕ, suc, ◌+◌, ◌<◌, Bool, true, false, List, [], ◌∷◌, ◌++◌, Option, Some, None, unwrap_or, length, take, get_or, nat_eq, cond, refl, sym, ap, subst, ◌∙◌, eqb-true, arith, if◌then◌else◌}
use Rattle.std.specs.Ordering.{is_eq, nat_cmp}
use Rattle.std.specs.Cmp.{unsigned_tied}
use Rattle.std.proofs.lemmas.List.{take_more, length-take}
use Rattle.std.proofs.lemmas.Option.{none-some, same_Some}
use Rattle.plan_merge.specs.Merging.{is_at}
use Rattle.plan_edit.specs.declared.forms.WrittenDirective.{WrittenDirective}
use Rattle.plan_edit.specs.Loading.{positions_of, the_only, position_in_text, noted_as, also_noted, noted_with, position_noted, IsIndexOf}

-- the position that an index says is that of the one directive
pub noted_position : (positions : List ℕ) → position_noted (noted_as positions) ≡ the_only positions
noted_position [] = refl
noted_position (one ∷ []) = refl
noted_position (one ∷ another ∷ rest) = refl

-- with a position behind
noted_more : (positions : List ℕ) (position : ℕ) → noted_as (positions ++ position ∷ []) ≡ also_noted position (noted_as positions)
noted_more [] position = refl
noted_more (one ∷ []) position = refl
noted_more (one ∷ another ∷ rest) position = refl

-- the positions with a directive behind that has the id, or has not
module _ (id : ℕ) (more : WrittenDirective) where
  pub position_more : (from : ℕ) (some : List WrittenDirective) → is_at id more.id ≡ true → positions_of id from (some ++ more ∷ []) ≡ positions_of id from some ++ (from + length some) ∷ []
  position_more from [] is =
      ap (λ (t : Bool). if t then from ∷ [] else []) is ∙ ap (λ (n : ℕ). n ∷ []) (end from)
    where
      end : (from : ℕ) → from ≡ from + 0
      end from = omega arith
  position_more from (first ∷ rest) is = go (is_at id first.id) (position_more (from + 1) rest is)
    where
      end : (from count : ℕ) → from + 1 + count ≡ from + suc count
      end from count = omega arith

      go : (t : Bool) → positions_of id (from + 1) (rest ++ more ∷ []) ≡ positions_of id (from + 1) rest ++ (from + 1 + length rest) ∷ [] →
          (if t then from ∷ positions_of id (from + 1) (rest ++ more ∷ []) else positions_of id (from + 1) (rest ++ more ∷ []))
          ≡ (if t then from ∷ positions_of id (from + 1) rest else positions_of id (from + 1) rest) ++ (from + suc (length rest)) ∷ []
      go true h = ap (λ (ps : List ℕ). from ∷ ps) (h ∙ ap (λ (n : ℕ). positions_of id (from + 1) rest ++ n ∷ []) (end from (length rest)))
      go false h = h ∙ ap (λ (n : ℕ). positions_of id (from + 1) rest ++ n ∷ []) (end from (length rest))

  pub no_position_more : (from : ℕ) (some : List WrittenDirective) → is_at id more.id ≡ false → positions_of id from (some ++ more ∷ []) ≡ positions_of id from some
  no_position_more from [] is = ap (λ (t : Bool). if t then from ∷ [] else []) is
  no_position_more from (first ∷ rest) is = go (is_at id first.id) (no_position_more (from + 1) rest is)
    where
      go : (t : Bool) → positions_of id (from + 1) (rest ++ more ∷ []) ≡ positions_of id (from + 1) rest →
          (if t then from ∷ positions_of id (from + 1) (rest ++ more ∷ []) else positions_of id (from + 1) (rest ++ more ∷ [])) ≡ (if t then from ∷ positions_of id (from + 1) rest else positions_of id (from + 1) rest)
      go true h = ap (λ (ps : List ℕ). from ∷ ps) h
      go false h = h

-- ---- one step of the index

module _ (all : List WrittenDirective) (position : ℕ) (written : WrittenDirective) (within : position < length all) (is : written ≡ get_or all position written) (id : ℕ) where
  front : take position all ++ written ∷ [] ≡ take (position + 1) all
  front = ap (λ (one : WrittenDirective). take position all ++ one ∷ []) is ∙ sym (take_more all position written within)

  count : length (take position all) ≡ position
  count = omega (arith, length-take position all, within)

  pub noted_here : (old new : Option (Option ℕ)) → is_at id written.id ≡ true → old ≡ noted_as (positions_of id 0 (take position all)) → new ≡ also_noted position old → new ≡ noted_as (positions_of id 0 (take (position + 1) all))
  noted_here old new at before after =
      after ∙ ap (also_noted position) before ∙ sym (noted_more (positions_of id 0 (take position all)) position)
      ∙ ap (λ (n : ℕ). noted_as (positions_of id 0 (take position all) ++ n ∷ [])) (sym (zero_plus (length (take position all)) position count))
      ∙ ap noted_as (sym (position_more id written 0 (take position all) at) ∙ ap (positions_of id 0) front)
    where
      zero_plus : (n position : ℕ) → n ≡ position → 0 + n ≡ position
      zero_plus n position e = omega (arith, e)

  pub noted_elsewhere : (old new : Option (Option ℕ)) → is_at id written.id ≡ false → old ≡ noted_as (positions_of id 0 (take position all)) → new ≡ old → new ≡ noted_as (positions_of id 0 (take (position + 1) all))
  noted_elsewhere old new at before after = after ∙ before ∙ ap noted_as (sym (no_position_more id written 0 (take position all) at) ∙ ap (positions_of id 0) front)

pub noted_next : (all : List WrittenDirective) (position : ℕ) (written : WrittenDirective) → position < length all → written ≡ get_or all position written →
    (other : ℕ) (old new : Option (Option ℕ)) → old ≡ noted_as (positions_of other 0 (take position all)) → new ≡ noted_with other position written.id old →
    new ≡ noted_as (positions_of other 0 (take (position + 1) all))
noted_next all position written within is other old new before after = go (is_at other written.id) refl after
  where
    go : (t : Bool) → is_at other written.id ≡ t → new ≡ (if t then also_noted position old else old) → new ≡ noted_as (positions_of other 0 (take (position + 1) all))
    go true at h = noted_here all position written within is other old new at before h
    go false at h = noted_elsewhere all position written within is other old new at before h

-- the position of an id more, by what the map says of each key
pub noted_id : (position id other : ℕ) (old : ℕ → Option (Option ℕ)) (new : Option (Option ℕ)) (noted : Option ℕ) →
    new ≡ cond (is_eq (nat_cmp id other)) (Some noted) (old other) → Some noted ≡ also_noted position (old id) → new ≡ noted_with other position (Some id) (old other)
noted_id position id other old new noted changed is =
    changed ∙ ap (λ (t : Bool). cond t (Some noted) (old other)) (unsigned_tied id other) ∙ go (nat_eq id other) refl
  where
    go : (t : Bool) → nat_eq id other ≡ t → cond t (Some noted) (old other) ≡ (if t then also_noted position (old other) else old other)
    go true e = is ∙ ap (λ (n : ℕ). also_noted position (old n)) (eqb-true id other e)
    go false e = refl

-- ---- a position is one of the directives

positions_within : (id from : ℕ) (some : List WrittenDirective) (one : ℕ) (rest : List ℕ) → positions_of id from some ≡ one ∷ rest → one < from + length some
positions_within id from [] one rest h = absurd (cc)
positions_within id from (first ∷ others) one rest h = go (is_at id first.id) (positions_within id (from + 1) others one rest) h
  where
    here : (from count : ℕ) → from < from + suc count
    here from count = omega arith

    on : (one from count : ℕ) → one < from + 1 + count → one < from + suc count
    on one from count less = omega (arith, less)

    go : (t : Bool) → (positions_of id (from + 1) others ≡ one ∷ rest → one < from + 1 + length others) → (if t then from ∷ positions_of id (from + 1) others else positions_of id (from + 1) others) ≡ one ∷ rest →
        one < from + suc (length others)
    go true others_are h = let same : from ≡ one = cc in subst (λ (n : ℕ). n < from + suc (length others)) same (here from (length others))
    go false others_are h = on one from (length others) (others_are h)

pub position_within : (all : List WrittenDirective) (id position : ℕ) → position_in_text all id ≡ Some position → position < length all
position_within all id position h = go (positions_of id 0 all) refl h
  where
    on : (one count : ℕ) → one < 0 + count → one < count
    on one count less = omega (arith, less)

    go : (positions : List ℕ) → positions_of id 0 all ≡ positions → the_only positions ≡ Some position → position < length all
    go [] are k = absurd (none-some position k)
    go (one ∷ []) are k = on position (length all) (subst (λ (n : ℕ). n < 0 + length all) (same_Some one position k) (positions_within id 0 all one [] are))
    go (one ∷ another ∷ rest) are k = absurd (none-some position k)

-- the position of the one directive with an id, or 0, behind a number
pub position_fits : (all : List WrittenDirective) (id first limit : ℕ) → first + length all < limit → first + unwrap_or (position_in_text all id) 0 < limit
position_fits all id first limit less = go (position_in_text all id) refl
  where
    go : (position : Option ℕ) → position_in_text all id ≡ position → first + unwrap_or position 0 < limit
    go None is = omega (arith, less)
    go (Some position) is = let within = position_within all id position is in omega (arith, less, within)

-- what an index says is the position of the one directive with an id
pub position_by_index : (noted : ℕ → Option (Option ℕ)) (all : List WrittenDirective) (id : ℕ) → IsIndexOf noted all → position_noted (noted id) ≡ position_in_text all id
position_by_index noted all id index = ap position_noted (index id) ∙ noted_position (positions_of id 0 all)
