-- The positions of commands that stand too close, one command after another.
use Rattle.std.proofs.Common.{◌≡◌, ℕ, suc, ◌+◌, ◌<◌, Bool, true, false, cond, ◌&&◌, ◌||◌, List, [], ◌∷◌, ◌++◌, append_assoc, drop, drop-cons, get_or, length, refl, sym, ap, ◌∙◌, add-one}
use Rattle.aerie_base.specs.models.Names.{same_name}
use Rattle.seq_expand.specs.declared.sequence.Sent.{Sent}
use Rattle.seq_expand.specs.Closeness.{last_time_of, is_soon, is_too_close, close_from}

-- the item with this number, and those behind it
pub cut : {A : Type 0} (xs : List A) (at : ℕ) (x : A) → at < length xs → x ≡ get_or xs at x → drop at xs ≡ x ∷ drop (at + 1) xs
cut xs at x within is = rw (add-one, drop-cons xs at x) (ap (λ y. y ∷ drop (suc at) xs) (sym is))

-- ---- one spacing

module _ (spacings : List (List ℕ × ℕ)) (before : List Sent) (sent : Sent) (at : ℕ) (spacing : List ℕ × ℕ) (within : at < length spacings)
    (is : spacing ≡ get_or spacings at spacing) where
  -- whether the next spacing or one behind it is
  pub spacing_next : (b : Bool) → b ≡ (same_name spacing.0 sent.name && is_soon sent.at spacing.1 (last_time_of spacing.0 before)) →
      is_too_close (drop at spacings) before sent ≡ (b || is_too_close (drop (at + 1) spacings) before sent)
  spacing_next b told =
      ap (λ l. is_too_close l before sent) (cut spacings at spacing within is)
      ∙ ap (λ b. b || is_too_close (drop (at + 1) spacings) before sent) (sym told)

-- ---- one command

abbrev pub position_if : Bool → ℕ → List ℕ
position_if true position = position ∷ []
position_if false position = []

module _ (spacings : List (List ℕ × ℕ)) (position : ℕ) (before : List Sent) where
  close_next : (sent : Sent) (rest : List Sent) →
      close_from spacings position before (sent ∷ rest) ≡ position_if (is_too_close spacings before sent) position ++ close_from spacings (position + 1) (sent ∷ before) rest
  close_next sent rest = by (is_too_close spacings before sent)
    where
      by : (b : Bool) →
          cond b (position ∷ close_from spacings (position + 1) (sent ∷ before) rest) (close_from spacings (position + 1) (sent ∷ before) rest)
          ≡ position_if b position ++ close_from spacings (position + 1) (sent ∷ before) rest
      by true = refl
      by false = refl

  pub command_noted : (commands : List Sent) (sent : Sent) (positions next all : List ℕ) → position < length commands → sent ≡ get_or commands position sent →
      next ≡ positions ++ position_if (is_too_close spacings before sent) position → positions ++ close_from spacings position before (drop position commands) ≡ all →
      next ++ close_from spacings (position + 1) (sent ∷ before) (drop (position + 1) commands) ≡ all
  command_noted commands sent positions next all within is more so_far =
      ap (λ l. l ++ close_from spacings (position + 1) (sent ∷ before) (drop (position + 1) commands)) more
      ∙ (append_assoc positions (position_if (is_too_close spacings before sent) position) (close_from spacings (position + 1) (sent ∷ before) (drop (position + 1) commands))
      ∙ (ap (λ l. positions ++ l) (sym (close_next sent (drop (position + 1) commands)))
      ∙ (ap (λ l. positions ++ close_from spacings position before l) (sym (cut commands position sent within is)) ∙ so_far)))
