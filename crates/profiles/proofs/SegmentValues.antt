-- What segments give: the value at each time, in as few segments as can be.
use Rattle.std.proofs.Common.{◌≡◌, ℕ, zero, suc, ◌<◌, ◌≤◌, pos, Bool, true, false, not, cond, List, [], ◌∷◌, length, map, nat_le, Option, Some, option_map, unwrap_or, refl, sym, ap, subst, ◌∙◌, arith}
use Rattle.std.proofs.lemmas.Bool.{false≢true}
use Rattle.std.proofs.lemmas.List.{length-map}
use Rattle.aerie_base.specs.declared.values.Value.{Value}
use Rattle.aerie_base.specs.declared.values.Value.TheVariants.{Int}
use Rattle.aerie_base.specs.SameValues.{values_are}
use Rattle.aerie_base.specs.expressions.Arithmetic.{same_value}
use Rattle.profiles.specs.Neighbours.{DivideTime, EachNext, ChangesValue}
use Rattle.windows.specs.Begun.{last_begun, HaveBegun}
use Rattle.profiles.specs.Segments.{times_where, begins_value, value_segments}
use Rattle.profiles.proofs.FewestStarts.{is_start, no_fewer, still_last, starts_at_zero}
use Rattle.profiles.proofs.Segmenting.{same_itself}
use Rattle.profiles.proofs.StartTimes.{itself, last_where, last_are, begun_below, each_next, divide_time}

-- ---- segments by their starts

module _ {A : Type 0} (from : A → ℕ) (at : ℕ → A) (same : (t : ℕ) → from (at t) ≡ t) where
  pub starts_are : (l : List ℕ) → map from (map at l) ≡ l
  starts_are [] = refl
  starts_are (t ∷ rest) = ap (λ k. k ∷ map from (map at rest)) (same t) ∙ ap (λ (r : List ℕ). t ∷ r) (starts_are rest)

  pub last_mapped : (l : List ℕ) (t : ℕ) → last_begun from (map at l) t ≡ option_map at (last_begun itself l t)
  last_mapped [] t = refl
  last_mapped (a ∷ []) t = refl
  last_mapped (a ∷ b ∷ rest) t =
      ap (λ k. cond (nat_le k t) (last_begun from (map at (b ∷ rest)) t) (Some (at a))) (same b)
      ∙ (ap (λ o. cond (nat_le b t) o (Some (at a))) (last_mapped (b ∷ rest) t)
      ∙ within (nat_le b t) (last_begun itself (b ∷ rest) t) a)
    where
      within : (c : Bool) (o : Option ℕ) (a : ℕ) → cond c (option_map at o) (Some (at a)) ≡ option_map at (cond c o (Some a))
      within true o a = refl
      within false o a = refl

  pub count_is : (l : List ℕ) → length (map at l) ≡ length l
  count_is [] = refl
  count_is (t ∷ rest) = ap suc (count_is rest)

  pub each_next_mapped : (P : A → A → Type 0) (l : List ℕ) → EachNext (λ a b. P (at a) (at b)) l → EachNext P (map at l)
  each_next_mapped P [] each = tt
  each_next_mapped P (a ∷ []) each = tt
  each_next_mapped P (a ∷ b ∷ rest) each = (each.0, each_next_mapped P (b ∷ rest) each.1)

pub not_true : (b : Bool) → not b ≡ true → b ≡ false
not_true true e = absurd (false≢true e)
not_true false e = refl

pub not_false : (b : Bool) → not b ≡ false → b ≡ true
not_false true e = refl
not_false false e = absurd (false≢true (sym e))

-- ---- values that stay

module _ (value : ℕ → Value) where
  -- the value at the last start is the value now
  since_start : (t : ℕ) → value (last_where (begins_value value) t) ≡ value t
  since_start zero = refl
  since_start (suc t) = by (begins_value value (suc t)) refl (since_start t)
    where
      by : (b : Bool) → begins_value value (suc t) ≡ b → value (last_where (begins_value value) t) ≡ value t →
          value (cond b (suc t) (last_where (begins_value value) t)) ≡ value (suc t)
      by true e before = refl
      by false e before = before ∙ values_are (value t) (value (suc t)) (not_false (same_value (value t) (value (suc t))) e)

  pub values_begun : (reach t : ℕ) → t < reach → HaveBegun t (map (λ segment. segment.0) (value_segments value reach))
  values_begun reach t below =
      subst (HaveBegun t) (sym (starts_are (λ (segment : ℕ × Value). segment.0) (λ t. (t, value t)) (λ t. refl) (times_where (begins_value value) reach)))
      (begun_below (begins_value value) refl reach t below)

  pub value_given : (reach t : ℕ) → t < reach →
      unwrap_or (option_map (λ segment. segment.1) (last_begun (λ segment. segment.0) (value_segments value reach) t)) (Int (pos 0)) ≡ value t
  value_given reach t below =
      ap (λ (o : Option (ℕ × Value)). unwrap_or (option_map (λ segment. segment.1) o) (Int (pos 0)))
      (last_mapped (λ (segment : ℕ × Value). segment.0) (λ t. (t, value t)) (λ t. refl) (times_where (begins_value value) reach) t
      ∙ ap (option_map (λ t. (t, value t))) (last_are (begins_value value) refl reach t below))
      ∙ since_start t

  pub values_divide : (reach : ℕ) → DivideTime reach (map (λ segment. segment.0) (value_segments value reach))
  values_divide reach =
      subst (DivideTime reach) (sym (starts_are (λ (segment : ℕ × Value). segment.0) (λ t. (t, value t)) (λ t. refl) (times_where (begins_value value) reach)))
      (divide_time (begins_value value) refl reach)

  pub values_change : (reach : ℕ) → EachNext ChangesValue (value_segments value reach)
  values_change reach =
      each_next_mapped (λ (segment : ℕ × Value). segment.0) (λ t. (t, value t)) (λ t. refl) ChangesValue (times_where (begins_value value) reach)
      (each_next (λ a b. value a ≡ value b → ⊥) (begins_value value) refl
      (λ t begins same. false≢true
      (sym (not_true (same_value (value t) (value (suc t))) begins)
      ∙ (ap (λ v. same_value (value t) v) (sym (sym (since_start t) ∙ same)) ∙ same_itself (value t)))) reach)

  -- no other segments that give the value are fewer
  module _ (reach : ℕ) (others : List (ℕ × Value))
      (given : (t : ℕ) → t < reach → HaveBegun t (map (λ segment. segment.0) others)
      × (unwrap_or (option_map (λ segment. segment.1) (last_begun (λ segment. segment.0) others t)) (Int (pos 0)) ≡ value t)) where
    starts_there : (t : ℕ) → t < reach → begins_value value t ≡ true → is_start t (map (λ segment. segment.0) others) ≡ true
    starts_there zero below begins = starts_at_zero (map (λ segment. segment.0) others) (given 0 below).0
    starts_there (suc t) below begins = by (is_start (suc t) (map (λ segment. segment.0) others)) refl
      where
        by : (b : Bool) → is_start (suc t) (map (λ segment. segment.0) others) ≡ b → b ≡ true
        by true e = refl
        by false e =
            let last = still_last (λ (segment : ℕ × Value). segment.0) others t e in
            let same : value (suc t) ≡ value t =
            sym (given (suc t) below).1
            ∙ (ap (λ (o : Option (ℕ × Value)). unwrap_or (option_map (λ segment. segment.1) o) (Int (pos 0))) last ∙ (given t (omega arith)).1) in
            absurd (false≢true
            (sym (not_true (same_value (value t) (value (suc t))) begins) ∙ (ap (λ v. same_value (value t) v) same ∙ same_itself (value t))))

    pub fewest_values : length (value_segments value reach) ≤ length others
    fewest_values =
        let count = count_is (λ (segment : ℕ × Value). segment.0) (λ t. (t, value t)) (λ t. refl) (times_where (begins_value value) reach) in
        let fewest = no_fewer (begins_value value) (map (λ segment. segment.0) others) reach starts_there in
        let others_count = length-map others (λ (segment : ℕ × Value). segment.0) in
        omega (arith, count, fewest, others_count)
