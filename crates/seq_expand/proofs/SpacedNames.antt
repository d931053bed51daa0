-- One look for the name of a command tells whether it stands too close by some spacing.
use Rattle.std.proofs.Common.{◌≡◌, ℕ, ℤ, pos, negsuc, ◌-ℤ◌, ◌+◌, ◌<◌, Bool, true, false, cond, ◌&&◌, ◌||◌, List, [], ◌∷◌, drop, get_or, length, max, Option, Some, None, refl, sym, ap, ◌∙◌, arith}
use Rattle.std.specs.Int.RustNames.{int_lt}
use Rattle.std.specs.Cmp.Lexicographic.{bytes_decides}
use Rattle.std.proofs.lemmas.Int.{ints}
use Rattle.aerie_base.specs.models.Names.{same_name}
use Rattle.seq_expand.specs.declared.closeness.Spaced.{Spaced}
use Rattle.seq_expand.specs.declared.sequence.Sent.{Sent}
use Rattle.seq_expand.specs.Closeness.{is_soon, is_too_close, last_time_of}
use Rattle.seq_expand.specs.Spaced.{is_soon_for, longer_spacing, with_last_at, spaced_behind, spaced_with, spacing_of, widened}
use Rattle.seq_expand.proofs.Positions.{cut}

-- names that are the same
named : (name other : List ℕ) → same_name name other ≡ true → name ≡ other
named name other same = (bytes_decides name other).0 same

-- ---- too close by some spacing

before_either : (z : ℤ) (m n : ℕ) → (int_lt z (pos n) || int_lt z (pos m)) ≡ int_lt z (pos (max m n))
before_either (pos k) m n = grind (arith, ints)
before_either (negsuc k) m n = grind (arith, ints)

soon_either : (at : ℤ) (m n : ℕ) (last : Option ℤ) → (is_soon at n last || is_soon at m last) ≡ is_soon at (max m n) last
soon_either at m n None = refl
soon_either at m n (Some before) = before_either (at -ℤ before) m n

soon_more : (at : ℤ) (n : ℕ) (last : Option ℤ) (rest : Option ℕ) (b : Bool) → b ≡ is_soon_for (spaced_with last rest) at → (is_soon at n last || b) ≡ is_soon at (longer_spacing rest n) last
soon_more at n last None b told = ap (λ c. is_soon at n last || c) told ∙ or_none (is_soon at n last)
  where
    or_none : (c : Bool) → (c || false) ≡ c
    or_none true = refl
    or_none false = refl
soon_more at n last (Some m) b told = ap (λ c. is_soon at n last || c) told ∙ soon_either at m n last

module _ (before : List Sent) (sent : Sent) where
  pub too_close_is : (spacings : List (List ℕ × ℕ)) → is_too_close spacings before sent ≡ is_soon_for (spaced_behind spacings before sent.name) sent.at
  too_close_is [] = refl
  too_close_is (spacing ∷ rest) = go (too_close_is rest) (same_name spacing.0 sent.name) refl
    where
      go : is_too_close rest before sent ≡ is_soon_for (spaced_behind rest before sent.name) sent.at → (b : Bool) → same_name spacing.0 sent.name ≡ b →
          ((b && is_soon sent.at spacing.1 (last_time_of spacing.0 before)) || is_too_close rest before sent)
          ≡ is_soon_for (spaced_with (last_time_of sent.name before) (cond b (Some (longer_spacing (spacing_of rest sent.name) spacing.1)) (spacing_of rest sent.name))) sent.at
      go further false e = further
      go further true e =
          ap (λ name. is_soon sent.at spacing.1 (last_time_of name before) || is_too_close rest before sent) (named spacing.0 sent.name e)
          ∙ soon_more sent.at spacing.1 (last_time_of sent.name before) (spacing_of rest sent.name) (is_too_close rest before sent) further

-- ---- one spacing more

wider : (o : Option ℕ) (n : ℕ) → widened (spaced_with None o) n ≡ record { least = longer_spacing o n; last = None }
wider None n = refl
wider (Some m) n = refl

pub spacing_put : (spacings : List (List ℕ × ℕ)) (at next : ℕ) (spacing : List ℕ × ℕ) (old new : List ℕ → Option Spaced) → at < length spacings → spacing ≡ get_or spacings at spacing → next ≡ at + 1 →
    ((name : List ℕ) → old name ≡ spaced_behind (drop next spacings) [] name) →
    ((name : List ℕ) → new name ≡ cond (same_name spacing.0 name) (Some (widened (old spacing.0) spacing.1)) (old name)) →
    (name : List ℕ) → new name ≡ spaced_behind (drop at spacings) [] name
spacing_put spacings at next spacing old new within is next_is known_next put name =
    put name
    ∙ (λ i. cond (same_name spacing.0 name) (Some (widened (known spacing.0 i) spacing.1)) (known name i))
    ∙ go (same_name spacing.0 name) refl
    ∙ ap (λ l. spaced_behind l [] name) (sym (cut spacings at spacing within is))
  where
    rest : List (List ℕ × ℕ)
    rest = drop (at + 1) spacings

    known : (other : List ℕ) → old other ≡ spaced_behind (drop (at + 1) spacings) [] other
    known other = known_next other ∙ ap (λ n. spaced_behind (drop n spacings) [] other) next_is

    go : (b : Bool) → same_name spacing.0 name ≡ b →
        cond b (Some (widened (spaced_behind rest [] spacing.0) spacing.1)) (spaced_behind rest [] name)
        ≡ spaced_with None (cond b (Some (longer_spacing (spacing_of rest name) spacing.1)) (spacing_of rest name))
    go false e = refl
    go true e = ap Some (wider (spacing_of rest spacing.0) spacing.1 ∙ ap (λ o. record { least = longer_spacing (spacing_of rest o) spacing.1; last = None }) (named spacing.0 name e))

-- ---- one command more

sent_is : (at : ℤ) (last : Option ℤ) (o : Option ℕ) → with_last_at at (spaced_with last o) ≡ spaced_with (Some at) o
sent_is at last None = refl
sent_is at last (Some least) = refl

pub command_sent : (spacings : List (List ℕ × ℕ)) (before : List Sent) (sent : Sent) (old new : List ℕ → Option Spaced) →
    ((name : List ℕ) → old name ≡ spaced_behind spacings before name) →
    ((name : List ℕ) → new name ≡ cond (same_name sent.name name) (with_last_at sent.at (old sent.name)) (old name)) →
    (name : List ℕ) → new name ≡ spaced_behind spacings (sent ∷ before) name
command_sent spacings before sent old new known put name =
    put name
    ∙ (λ i. cond (same_name sent.name name) (with_last_at sent.at (known sent.name i)) (known name i))
    ∙ go (same_name sent.name name) refl
  where
    go : (b : Bool) → same_name sent.name name ≡ b →
        cond b (with_last_at sent.at (spaced_behind spacings before sent.name)) (spaced_behind spacings before name)
        ≡ spaced_with (cond b (Some sent.at) (last_time_of name before)) (spacing_of spacings name)
    go false e = refl
    go true e = sent_is sent.at (last_time_of sent.name before) (spacing_of spacings sent.name) ∙ ap (λ n. spaced_with (Some sent.at) (spacing_of spacings n)) (named sent.name name e)
