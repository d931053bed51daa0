-- Places that rise, and are all of a journal, are the journal.
use Rattle.std.proofs.Common.{◌≡◌, ℕ, ◌+◌, ◌<◌, ◌≤◌, inl, inr, [], ◌∷◌, ◌++◌, length, map, Some, refl, sym, ap, ◌∙◌, subst, arith, append_assoc, slice_get}
use Rattle.std.proofs.lemmas.List.{append-nil}
use Rattle.std.proofs.lemmas.Option.{slice_get_within}
use Rattle.hangar_core.specs.Journals.{Entries}
use Rattle.hangar_lock.specs.Places.{HasPlace, HaveAllOf, Places, StandIn, ToldEntry}
use Rattle.hangar_lock.specs.ClientEntries.{own_entry, RisesTo}

seam : (front : Entries) (told : ToldEntry) (rest : Entries) → slice_get (front ++ (told ∷ rest)) (length front) ≡ Some told
seam [] told rest = refl
seam (first ∷ front) told rest = seam front told rest

one_more : (front : Entries) (told : ToldEntry) → length (front ++ (told ∷ [])) ≡ length front + 1
one_more [] told = refl
one_more (first ∷ front) told = let h = one_more front told in omega (arith, h)

rises_from : (low top : ℕ) (places : Places) (place : ℕ) (told : ToldEntry) → RisesTo low top places → HasPlace places place told → low ≤ place
rises_from low top [] place told rises has = absurd has
rises_from low top (first ∷ places) place told rises (inl same) =
    let at : first.0 ≡ place = ap (λ (z : ℕ × ToldEntry). z.0) same in let least = rises.0 in omega (arith, at, least)
rises_from low top (first ∷ places) place told rises (inr has) =
    let later = rises_from (first.0 + 1) top places place told rises.1 has in let least = rises.0 in omega (arith, least, later)

same_told : (one other : ToldEntry) → Some one ≡ Some other → one ≡ other
same_told one other same = cc

abbrev HaveAllFrom : ℕ → Places → Entries → Type 0
HaveAllFrom low places journal = (place : ℕ) (told : ToldEntry) → low ≤ place → slice_get journal place ≡ Some told → HasPlace places place told

abbrev Goal : ℕ → Entries → Entries → Type 0
Goal top front rest = (places : Places) → RisesTo (length front) top places → StandIn places (front ++ rest) → HaveAllFrom (length front) places (front ++ rest) →
    map own_entry places ≡ rest

-- the first place is the front's end
first_at : (front rest : Entries) (told : ToldEntry) (top : ℕ) (place : ℕ × ToldEntry) (places : Places) → RisesTo (length front) top (place ∷ places) →
    HasPlace (place ∷ places) (length front) told → place ≡ (length front, told)
first_at front rest told top place places rises (inl same) = same
first_at front rest told top place places rises (inr has) =
    let later = rises_from (place.0 + 1) top places (length front) told rises.1 has in let least = rises.0 in absurd (omega (arith, later, least))

behind_first : (place : ℕ × ToldEntry) (places : Places) (low at : ℕ) (told : ToldEntry) → place.0 ≡ low → low + 1 ≤ at → HasPlace (place ∷ places) at told → HasPlace places at told
behind_first place places low at told first later (inl same) = let k : place.0 ≡ at = ap (λ (z : ℕ × ToldEntry). z.0) same in absurd (omega (arith, first, k, later))
behind_first place places low at told first later (inr has) = has

-- behind a front of the journal
pub placed_behind : (top : ℕ) (rest front : Entries) → Goal top front rest
placed_behind top [] front [] rises right all = refl
placed_behind top [] front (place ∷ places) rises right all =
    let within : place.0 < length (front ++ []) = slice_get_within (front ++ []) place.0 place.1 (right place.0 place.1 (inl refl)) in
    let below : place.0 < length front = subst (λ (l : Entries). place.0 < length l) (append-nil front) within in
    let least = rises.0 in absurd (omega (arith, below, least))
placed_behind top (told ∷ rest) front [] rises right all = absurd (all (length front) told (omega arith) (seam front told rest))
placed_behind top (told ∷ rest) front (place ∷ places) rises right all =
    let first : place ≡ (length front, told) = first_at front rest told top place places rises (all (length front) told (omega arith) (seam front told rest)) in
    let at : place.0 ≡ length front = ap (λ (z : ℕ × ToldEntry). z.0) first in
    let own : place.1 ≡ told = ap (λ (z : ℕ × ToldEntry). z.1) first in
    let whole : (front ++ (told ∷ [])) ++ rest ≡ front ++ (told ∷ rest) = append_assoc front (told ∷ []) rest in
    let longer : length (front ++ (told ∷ [])) ≡ place.0 + 1 = one_more front told ∙ ap (λ (n : ℕ). n + 1) (sym at) in
    let later : map own_entry places ≡ rest = placed_behind top rest (front ++ (told ∷ [])) places
    (subst (λ (low : ℕ). RisesTo low top places) (sym longer) rises.1)
    (λ p x has. subst (λ (l : Entries). slice_get l p ≡ Some x) (sym whole) (right p x (inr has)))
    (λ p x low there. behind_first place places (length front) p x at
    (let k = one_more front told in omega (arith, low, k))
    (all p x (let k = one_more front told in omega (arith, low, k)) (subst (λ (l : Entries). slice_get l p ≡ Some x) whole there))) in
    ap (λ (z : ToldEntry). z ∷ map own_entry places) own ∙ ap (λ (l : Entries). told ∷ l) later

-- the whole journal
pub placed_all : (top : ℕ) (places : Places) (journal : Entries) → RisesTo 0 top places → StandIn places journal → HaveAllOf places journal → map own_entry places ≡ journal
placed_all top places journal rises right all = placed_behind top journal [] places rises right (λ p x low there. all p x there)
