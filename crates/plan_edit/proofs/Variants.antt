-- A text with a dot is two texts, and both have to be names.
use Rattle.std.proofs.Common.{◌≡◌, ℕ, ◌<◌, ◌&&◌, Bool, true, false, List, Option, Some, None, length, nat_lt, refl, sym, ap, subst, ◌∙◌, lt-ltb, ltb-true, arith}
use Rattle.std.specs.Option.{MatchOption}
use Rattle.std.specs.List.{position_or_len, before_first, after_first}
use Rattle.std.proofs.lemmas.Option.{none-some, same_Some}
use Rattle.plan_edit.specs.PlanForm.{is_dot, is_free_name, is_variant_text}

pub matched : {X : Type 0} (A : Type 0) (B : X → Type 0) (found : Option X) (x : X) → found ≡ Some x → MatchOption found A B → B x
matched A B None x is h = absurd (none-some x is)
matched A B (Some y) x is h = subst B (same_Some y x is) h

pub unmatched : {X : Type 0} (A : Type 0) (B : X → Type 0) (found : Option X) → found ≡ None → MatchOption found A B → A
unmatched A B None is h = h
unmatched A B (Some y) is h = absurd (none-some y (sym is))

module _ (text : List ℕ) where
  pub two_names : (front behind : List ℕ) → position_or_len is_dot text < length text → front ≡ before_first is_dot text → behind ≡ after_first is_dot text →
      (is_free_name front && is_free_name behind) ≡ is_variant_text text
  two_names front behind less f b =
      ap (λ (xs : List ℕ). is_free_name xs && is_free_name behind) f
      ∙ ap (λ (xs : List ℕ). is_free_name (before_first is_dot text) && is_free_name xs) b
      ∙ sym (ap (λ (t : Bool). t && (is_free_name (before_first is_dot text) && is_free_name (after_first is_dot text))) (lt-ltb (position_or_len is_dot text) (length text) less))

  pub no_dot : position_or_len is_dot text ≡ length text → false ≡ is_variant_text text
  no_dot none = go (nat_lt (position_or_len is_dot text) (length text)) refl
    where
      go : (t : Bool) → nat_lt (position_or_len is_dot text) (length text) ≡ t → false ≡ (t && (is_free_name (before_first is_dot text) && is_free_name (after_first is_dot text)))
      go true h = let less = ltb-true (position_or_len is_dot text) (length text) h in absurd (omega (arith, less, none))
      go false h = refl
