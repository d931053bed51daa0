-- The least anchor without a start beside it does not depend on the order of the anchors.
use Rattle.std.proofs.Common.{◌≡◌, ℕ, ℤ, Bool, true, false, not, ◌&&◌, ◌||◌, List, [], ◌∷◌, Option, Some, None, refl, sym, ap, ◌∙◌, arith, nat_le, if◌then◌else◌}
use Rattle.std.specs.Prelude.{IsPermutation}
use Rattle.std.specs.List.{list_any}
use Rattle.std.proofs.lemmas.Grind.{common_steps}
use Rattle.std.proofs.lemmas.List.Sorted.{list_any-IsPermutation}
use Rattle.aerie_base.specs.TimeOrder.{earlier}
use Rattle.goals.specs.Gaps.{has_start, coexistence_gap}

-- whether it is there, and no later than a time
at_most : ℕ → Option ℕ → Bool
at_most time None = false
at_most time (Some other) = nat_le other time

earlier_at_most : (time : ℕ) (one other : Option ℕ) → at_most time (earlier one other) ≡ (at_most time one || at_most time other)
unfolding at_most
earlier_at_most time None other = refl
earlier_at_most time (Some a) None = or_none (nat_le a time)
  where
    or_none : (b : Bool) → b ≡ (b || false)
    or_none true = refl
    or_none false = refl
earlier_at_most time (Some a) (Some b) = grind (arith, common_steps)

-- an anchor without a start that is no later than a time
is_lacking : ℤ → ℤ → List ℕ → ℕ → ℕ → Bool
is_lacking from to starts time anchor = not (has_start from to starts anchor) && nat_le anchor time

gap_at_most : (from to : ℤ) (starts : List ℕ) (time : ℕ) (anchors : List ℕ) → at_most time (coexistence_gap from to starts anchors) ≡ list_any (is_lacking from to starts time) anchors
unfolding at_most is_lacking
gap_at_most from to starts time [] = refl
gap_at_most from to starts time (anchor ∷ rest) =
    earlier_at_most time (if has_start from to starts anchor then None else Some anchor) (coexistence_gap from to starts rest)
    ∙ ap (λ b. b || at_most time (coexistence_gap from to starts rest)) (one (has_start from to starts anchor))
    ∙ ap (λ b. (not (has_start from to starts anchor) && nat_le anchor time) || b) (gap_at_most from to starts time rest)
  where
    one : (has : Bool) → at_most time (if has then None else Some anchor) ≡ (not has && nat_le anchor time)
    one true = refl
    one false = refl

le_self : (a : ℕ) → nat_le a a ≡ true
le_self a = grind (arith, common_steps)

not_both : false ≡ true → ⊥
not_both is = grind (arith, common_steps)

order : (a b : ℕ) → nat_le b a ≡ true → nat_le a b ≡ true → a ≡ b
order a b below above = grind (arith, common_steps)

same_time : (one other : Option ℕ) → ((time : ℕ) → at_most time one ≡ at_most time other) → one ≡ other
unfolding at_most
same_time None None same = refl
same_time None (Some b) same = absurd (not_both (same b ∙ le_self b))
same_time (Some a) None same = absurd (not_both (sym (same a) ∙ le_self a))
same_time (Some a) (Some b) same = ap Some (order a b (sym (same a) ∙ le_self a) (same b ∙ le_self b))

pub in_any_order : (from to : ℤ) (starts anchors others : List ℕ) → IsPermutation anchors others → coexistence_gap from to starts others ≡ coexistence_gap from to starts anchors
in_any_order from to starts anchors others permuted =
    same_time (coexistence_gap from to starts others) (coexistence_gap from to starts anchors) (λ time.
    gap_at_most from to starts time others
    ∙ sym (list_any-IsPermutation (is_lacking from to starts time) anchors others permuted)
    ∙ sym (gap_at_most from to starts time anchors))
