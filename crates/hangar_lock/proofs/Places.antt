-- Places in a journal, numbers of passes, and what begins with what.
use Rattle.std.proofs.Common.{◌≡◌, ◌⊎◌, inl, inr, ℕ, zero, suc, ◌+◌, ◌%◌, ◌^◌, ◌<◌, ◌≤◌, Bool, true, false, List, [], ◌∷◌, ◌++◌, length, Some, None, Option, sym, ap, ◌∙◌, subst, ⊎_elim, arith, length-append, append-nil, append_assoc, if◌then◌else◌, slice_get}
use Rattle.std.proofs.Math.Nat.{add-mod}
use mathlib.Core.Logic.{dite}
use native.Mathlib.Decide.{ℕ_discrete}
use Rattle.hangar_core.specs.Journals.{Entries}
use Rattle.hangar_lock.specs.Places.{HasPassNumber, HasPlace, placed_from, Places, StartsWith, ToldEntry}

pub bump : (n : ℕ) → (n % 2 ^ 64 + 1) % 2 ^ 64 ≡ (n + 1) % 2 ^ 64
bump n = sym (add-mod n 1 (2 ^ 64))

abbrev value_or : {A : Type 0} → A → Option A → A
value_or d None = d
value_or d (Some a) = a

pub same_value : {A : Type 0} (a b : A) → Some a ≡ Some b → a ≡ b
same_value a b e = ap (value_or a) e

abbrev IsSome : {A : Type 0} → Option A → Type 0
IsSome None = ⊥
IsSome (Some a) = Unit {0}

pub none_some : {A : Type 0} (a : A) → None ≡ Some a → ⊥
none_some a e = subst IsSome (sym e) tt

-- ---- what stands at a place

abbrev pub IsAt : Entries → ℕ → ToldEntry → Type 0
IsAt xs p e = slice_get xs p ≡ Some e

pub is_at_below : (xs : Entries) (p : ℕ) (e : ToldEntry) → IsAt xs p e → p < length xs
is_at_below [] p e h = absurd (none_some e h)
is_at_below (x ∷ xs) zero e h = omega arith
is_at_below (x ∷ xs) (suc p) e h = omega (arith, is_at_below xs p e h)

pub is_at_left : (xs ys : Entries) (p : ℕ) (e : ToldEntry) → IsAt xs p e → IsAt (xs ++ ys) p e
is_at_left [] ys p e h = absurd (none_some e h)
is_at_left (x ∷ xs) ys zero e h = h
is_at_left (x ∷ xs) ys (suc p) e h = is_at_left xs ys p e h

pub is_at_front : (xs ys : Entries) (p : ℕ) (e : ToldEntry) → p < length xs → IsAt (xs ++ ys) p e → IsAt xs p e
is_at_front [] ys p e l h = absurd (omega arith)
is_at_front (x ∷ xs) ys zero e l h = h
is_at_front (x ∷ xs) ys (suc p) e l h = is_at_front xs ys p e (omega arith) h

-- an entry of those that are placed from n on stands at its place behind the first n
pub placed_at : (xs ys : Entries) (n p : ℕ) (e : ToldEntry) → length xs ≡ n → HasPlace (placed_from n ys) p e → (n ≤ p) × IsAt (xs ++ ys) p e
placed_at xs [] n p e len h = absurd h
placed_at xs (y ∷ ys) n p e len h =
    ⊎_elim (λ (t : ◌≡◌ {A = ℕ × ToldEntry} (n, y) (p, e)). let here : n ≡ p = ap (λ (z : ℕ × ToldEntry). z.0) t in
    (omega arith, at_here xs y ys p e (len ∙ here) (ap (λ (z : ℕ × ToldEntry). z.1) t)))
    (λ (t : HasPlace (placed_from (suc n) ys) p e).
    let more = placed_at (xs ++ y ∷ []) ys (suc n) p e (length-append xs (y ∷ []) ∙ (omega arith)) t in
    let least = more.0 in (omega arith, subst (λ (l : Entries). IsAt l p e) (append_assoc xs (y ∷ []) ys) more.1)) h
  where
    at_here : (xs : Entries) (y : ToldEntry) (ys : Entries) (p : ℕ) (e : ToldEntry) → length xs ≡ p → y ≡ e → IsAt (xs ++ y ∷ ys) p e
    at_here [] y ys zero e len is = ap Some is
    at_here [] y ys (suc p) e len is = absurd (omega arith)
    at_here (x ∷ xs) y ys zero e len is = absurd (omega arith)
    at_here (x ∷ xs) y ys (suc p) e len is = at_here xs y ys p e (omega arith) is

-- and each entry behind the first n is among those
pub at_placed : (xs ys : Entries) (n p : ℕ) (e : ToldEntry) → length xs ≡ n → n ≤ p → IsAt (xs ++ ys) p e → HasPlace (placed_from n ys) p e
at_placed xs [] n p e len le h = absurd (let b = is_at_below (xs ++ []) p e h in omega (arith, ap length (append-nil xs)))
at_placed xs (y ∷ ys) n p e len le h =
    dite (ℕ_discrete n p)
    (λ is. inl (pair n p y e is (at_there xs y ys p e (len ∙ is) h)))
    (λ other. inr (at_placed (xs ++ y ∷ []) ys (suc n) p e (length-append xs (y ∷ []) ∙ (omega arith)) (omega arith) (subst (λ (l : Entries). IsAt l p e) (sym (append_assoc xs (y ∷ []) ys)) h)))
  where
    at_there : (xs : Entries) (y : ToldEntry) (ys : Entries) (p : ℕ) (e : ToldEntry) → length xs ≡ p → IsAt (xs ++ y ∷ ys) p e → y ≡ e
    at_there [] y ys zero e len h = same_value y e h
    at_there [] y ys (suc p) e len h = absurd (omega arith)
    at_there (x ∷ xs) y ys zero e len h = absurd (omega arith)
    at_there (x ∷ xs) y ys (suc p) e len h = at_there xs y ys p e (omega arith) h

    pair : (n p : ℕ) (y e : ToldEntry) → n ≡ p → y ≡ e → ◌≡◌ {A = ℕ × ToldEntry} (n, y) (p, e)
    pair n p y e is same = ap (λ (k : ℕ). (k, y)) is ∙ ap (λ (z : ToldEntry). (p, z)) same

pub has_place_left : (xs ys : Places) (p : ℕ) (e : ToldEntry) → HasPlace xs p e → HasPlace (xs ++ ys) p e
has_place_left [] ys p e h = absurd h
has_place_left (x ∷ xs) ys p e h = ⊎_elim (λ (t : x ≡ (p, e)). inl t) (λ (t : HasPlace xs p e). inr (has_place_left xs ys p e t)) h

pub has_place_right : (xs ys : Places) (p : ℕ) (e : ToldEntry) → HasPlace ys p e → HasPlace (xs ++ ys) p e
has_place_right [] ys p e h = h
has_place_right (x ∷ xs) ys p e h = inr (has_place_right xs ys p e h)

pub has_place_cases : (xs ys : Places) (p : ℕ) (e : ToldEntry) → HasPlace (xs ++ ys) p e → HasPlace xs p e ⊎ HasPlace ys p e
has_place_cases [] ys p e h = inr h
has_place_cases (x ∷ xs) ys p e h = ⊎_elim (λ (t : x ≡ (p, e)). inl (inl t))
    (λ (t : HasPlace (xs ++ ys) p e). ⊎_elim (λ (u : HasPlace xs p e). inl (inr u)) (λ (u : HasPlace ys p e). inr u) (has_place_cases xs ys p e t)) h

-- ---- numbers of passes

pub has_number_left : (xs ys : List ℕ) (n : ℕ) → HasPassNumber xs n → HasPassNumber (xs ++ ys) n
has_number_left [] ys n h = absurd h
has_number_left (x ∷ xs) ys n h = ⊎_elim (λ (t : x ≡ n). inl t) (λ (t : HasPassNumber xs n). inr (has_number_left xs ys n t)) h

pub has_number_right : (xs ys : List ℕ) (n : ℕ) → HasPassNumber ys n → HasPassNumber (xs ++ ys) n
has_number_right [] ys n h = h
has_number_right (x ∷ xs) ys n h = inr (has_number_right xs ys n h)

pub has_number_cases : (xs ys : List ℕ) (n : ℕ) → HasPassNumber (xs ++ ys) n → HasPassNumber xs n ⊎ HasPassNumber ys n
has_number_cases [] ys n h = inr h
has_number_cases (x ∷ xs) ys n h = ⊎_elim (λ (t : x ≡ n). inl (inl t))
    (λ (t : HasPassNumber (xs ++ ys) n). ⊎_elim (λ (u : HasPassNumber xs n). inl (inr u)) (λ (u : HasPassNumber ys n). inr u) (has_number_cases xs ys n t)) h

-- ---- what was seen

pub further : (journal seen d : Entries) → StartsWith journal seen → StartsWith d journal → StartsWith d seen
further journal seen d a b = (a.0 ++ b.0, b.1 ∙ ap (λ (l : Entries). l ++ b.0) a.1 ∙ append_assoc seen a.0 b.0)

pub longer_starts : (journal xs ys : Entries) → StartsWith journal xs → StartsWith journal ys → (b : Bool) → StartsWith journal (if b then ys else xs)
longer_starts journal xs ys a b true = b
longer_starts journal xs ys a b false = a
