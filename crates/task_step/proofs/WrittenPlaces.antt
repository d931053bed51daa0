-- The cells that a step wrote, each at its place.
use Rattle.std.proofs.Common.{◌≡◌, ◌≢◌, ℕ, zero, suc, ◌+◌, ◌<◌, ◌≤◌, ⊎_elim, drop, Bool, true, false, cond, List, [], ◌∷◌, ◌++◌, Option, Some, None, refl, sym, ap, ◌∙◌, subst, arith, length, get_or, set, nat_eq, replicate, if◌then◌else◌, length-append, rules}
use Rattle.std.specs.Prelude.{slice_get, slice_set}
use Rattle.std.specs.List.{list_any}
use Rattle.std.specs.Map.{keys_of}
use Rattle.std.proofs.lemmas.Grind.{common_steps}
use Rattle.std.proofs.lemmas.Bool.{cases_eq}
use Rattle.std.proofs.lemmas.List.{drop_all, length-replicate}
use Rattle.std.proofs.lemmas.Option.{slice_get-get_or, slice_get_within, get_or_from_slice_get}
use Rattle.std.proofs.lemmas.Map.Entries.{place_from_lookup}
use Rattle.std.proofs.lemmas.Map.Keys.{IsDistinct-from_apart}
use Rattle.std.proofs.lemmas.Map.Steps.{length-le_from_distinct_below}
use Rattle.task_step.specs.Overlays.{written_state, ArePlaced, AreOnce, HavePlaces, IsWrittenAt, Puts}

-- ---- numbers that are the same

same_true : (a b : ℕ) → nat_eq a b ≡ true → a ≡ b
same_true a b h = grind (arith, h)

other_false : (a b : ℕ) → a ≢ b → nat_eq a b ≡ false
other_false a b h = grind (arith, h)

self_true : (a : ℕ) → nat_eq a a ≡ true
self_true a = grind arith

-- ---- lists

get_set_same : {A : Type 0} (xs : List A) (i : ℕ) (x : A) → i < length xs → slice_get (slice_set xs i x) i ≡ Some x
get_set_same [] i x lt = absurd (omega arith)
get_set_same (y ∷ xs) zero x lt = refl
get_set_same (y ∷ xs) (suc i) x lt = get_set_same xs i x (omega arith)

get_set_other : {A : Type 0} (xs : List A) (i j : ℕ) (x : A) → j ≢ i → slice_get (slice_set xs i x) j ≡ slice_get xs j
get_set_other [] i j x ne = refl
get_set_other (y ∷ xs) zero zero x ne = absurd (ne refl)
get_set_other (y ∷ xs) zero (suc j) x ne = refl
get_set_other (y ∷ xs) (suc i) zero x ne = refl
get_set_other (y ∷ xs) (suc i) (suc j) x ne = get_set_other xs i j x (λ e. ne (ap suc e))

get_push_last : {A : Type 0} (xs : List A) (x : A) → slice_get (xs ++ x ∷ []) (length xs) ≡ Some x
get_push_last [] x = refl
get_push_last (y ∷ xs) x = get_push_last xs x

-- an item of a list and one more
get_push : {A : Type 0} {R : Type 0} (xs : List A) (x one : A) (place : ℕ) → slice_get (xs ++ x ∷ []) place ≡ Some one →
    (slice_get xs place ≡ Some one → R) → (place ≡ length xs → one ≡ x → R) → R
get_push [] x one zero e old new = let k : one ≡ x = cc in new refl k
get_push [] x one (suc place) e old new = absurd (cc)
get_push (y ∷ xs) x one zero e old new = old e
get_push (y ∷ xs) x one (suc place) e old new = get_push xs x one place e old (λ p q. new (ap suc p) q)

-- ---- look-ups

-- the one place at which a cell stands is where it is looked up
at_place : {A : Type 0} (own : List (ℕ × A)) (cell place : ℕ) (state : A) → slice_get own place ≡ Some (cell, state) →
    ((other : ℕ) (one : ℕ × A) → slice_get own other ≡ Some one → one.0 ≡ cell → other ≡ place) → written_state cell own ≡ Some state
at_place [] cell place state e only = absurd (cc)
at_place (one ∷ own) cell zero state e only =
    let k : one ≡ (cell, state) = cc in
    let t : nat_eq cell one.0 ≡ true = ap (λ p. nat_eq cell p.0) k ∙ self_true cell in
    ap (λ c. cond c (Some one.1) (written_state cell own)) t ∙ ap (λ p. Some p.1) k
at_place (one ∷ own) cell (suc place) state e only =
    let t : nat_eq cell one.0 ≡ false = other_false cell one.0 (λ k. let z = only 0 one refl (sym k) in absurd (omega (arith, z))) in
    ap (λ c. cond c (Some one.1) (written_state cell own)) t
    ∙ at_place own cell place state e (λ other two f k. let z = only (suc other) two f k in omega (arith, z))

-- another item at a place of a cell leaves other cells
set_other : {A : Type 0} (own : List (ℕ × A)) (cell place other : ℕ) (state new : A) → slice_get own place ≡ Some (cell, state) → nat_eq other cell ≡ false →
    written_state other (slice_set own place (cell, new)) ≡ written_state other own
set_other [] cell place other state new e ne = refl
set_other (one ∷ own) cell zero other state new e ne =
    let k : one ≡ (cell, state) = cc in
    ap (λ c. cond c (Some new) (written_state other own)) ne
    ∙ sym (ap (λ c. cond c (Some one.1) (written_state other own)) (ap (λ p. nat_eq other p.0) k ∙ ne))
set_other (one ∷ own) cell (suc place) other state new e ne = ap (λ r. cond (nat_eq other one.0) (Some one.1) r) (set_other own cell place other state new e ne)

-- a cell that was not looked up stands at no place
not_at : {A : Type 0} (own : List (ℕ × A)) (cell place : ℕ) (one : ℕ × A) → written_state cell own ≡ None → slice_get own place ≡ Some one → one.0 ≡ cell → ⊥
not_at [] cell place one h e k = cc
not_at (first ∷ own) cell zero one h e k =
    let f : first ≡ one = cc in
    let t : nat_eq cell first.0 ≡ true = ap (λ p. nat_eq cell p.0) f ∙ ap (nat_eq cell) k ∙ self_true cell in
    let z : Some first.1 ≡ None = sym (ap (λ c. cond c (Some first.1) (written_state cell own)) t) ∙ h in cc
not_at (first ∷ own) cell (suc place) one h e k = by_test (nat_eq cell first.0) refl (λ r. not_at own cell place one r e k) where
  by_test : (b : Bool) → nat_eq cell first.0 ≡ b → (written_state cell own ≡ None → ⊥) → ⊥
  by_test true t rest = let z : Some first.1 ≡ None = sym (ap (λ c. cond c (Some first.1) (written_state cell own)) t) ∙ h in cc
  by_test false t rest = rest (sym (ap (λ c. cond c (Some first.1) (written_state cell own)) t) ∙ h)

-- ---- places

only_there : {A : Type 0} (own : List (ℕ × A)) (places : List ℕ) (cell place : ℕ) (state : A) → ArePlaced own places → slice_get own place ≡ Some (cell, state) →
    (other : ℕ) (one : ℕ × A) → slice_get own other ≡ Some one → one.0 ≡ cell → other ≡ place
only_there own places cell place state placed e other one f k =
    let a = placed.placed other one f in
    let b = placed.placed place (cell, state) e in
    let z : Some other ≡ Some place = sym a ∙ ap (slice_get places) k ∙ b in cc

-- where the code found the cell
pub hit : {A : Type 0} (own : List (ℕ × A)) (places : List ℕ) (cell place : ℕ) (state : A) → ArePlaced own places → slice_get own place ≡ Some (cell, state) → written_state cell own ≡ Some state
hit own places cell place state placed e = at_place own cell place state e (only_there own places cell place state placed e)

-- where it did not
pub miss : {A : Type 0} (own : List (ℕ × A)) (places : List ℕ) (cell place : ℕ) → ArePlaced own places → slice_get places cell ≡ Some place →
    ((state : A) → slice_get own place ≡ Some (cell, state) → ⊥) → written_state cell own ≡ None
miss {A} own places cell place placed at not_there = by_state (written_state cell own) refl where
  by_state : (o : Option A) → written_state cell own ≡ o → written_state cell own ≡ None
  by_state None e = e
  by_state (Some state) e =
      let p = place_from_lookup (nat_eq cell) own state e in
      let k : cell ≡ p.1 = same_true cell p.1 p.3 in
      let b : slice_get places p.1 ≡ Some p.0 = placed.placed p.0 (p.1, state) p.2 in
      let z : Some p.0 ≡ Some place = sym b ∙ ap (slice_get places) (sym k) ∙ at in
      let same : p.0 ≡ place = cc in
      absurd (not_there state (sym (ap (slice_get own) same) ∙ p.2 ∙ ap (λ c. Some (c, state)) (sym k)))

pub set_placed : {A : Type 0} (own : List (ℕ × A)) (places : List ℕ) (cell place : ℕ) (state new : A) → ArePlaced own places → slice_get own place ≡ Some (cell, state) →
    ArePlaced (slice_set own place (cell, new)) places
set_placed {A} own places cell place state new placed e = record { count = placed.count; placed = at } where
  at : (other : ℕ) (one : ℕ × A) → slice_get (slice_set own place (cell, new)) other ≡ Some one → slice_get places one.0 ≡ Some other
  at other one f = by_same (nat_eq other place) refl where
    by_same : (b : Bool) → nat_eq other place ≡ b → slice_get places one.0 ≡ Some other
    by_same true t =
        let k = same_true other place t in
        let lt = slice_get_within own place (cell, state) e in
        let g : Some one ≡ Some (cell, new) = sym f ∙ ap (slice_get (slice_set own place (cell, new))) k ∙ get_set_same own place (cell, new) lt in
        let h : one ≡ (cell, new) = cc in
        ap (λ p. slice_get places p.0) h ∙ placed.placed place (cell, state) e ∙ ap Some (sym k)
    by_same false t = placed.placed other one (sym (get_set_other own place other (cell, new) (λ k. let z : true ≡ false = sym (ap (nat_eq other) (sym k) ∙ self_true other) ∙ t in cc)) ∙ f)

pub set_states : {A : Type 0} (own : List (ℕ × A)) (places : List ℕ) (cell place : ℕ) (state new : A) → ArePlaced own places → slice_get own place ≡ Some (cell, state) →
    (other : ℕ) → written_state other (slice_set own place (cell, new)) ≡ (if nat_eq other cell then Some new else written_state other own)
set_states {A} own places cell place state new placed e other = by_same (nat_eq other cell) refl where
  by_same : (b : Bool) → nat_eq other cell ≡ b → written_state other (slice_set own place (cell, new)) ≡ (if nat_eq other cell then Some new else written_state other own)
  by_same true t =
      let k = same_true other cell t in
      let lt = slice_get_within own place (cell, state) e in
      ap (λ c. written_state c (slice_set own place (cell, new))) k
      ∙ hit (slice_set own place (cell, new)) places cell place new (set_placed own places cell place state new placed e) (get_set_same own place (cell, new) lt)
      ∙ sym (ap (λ b. if b then Some new else written_state other own) t)
  by_same false t = set_other own cell place other state new e t ∙ sym (ap (λ b. if b then Some new else written_state other own) t)

pub add_placed : {A : Type 0} (own : List (ℕ × A)) (places : List ℕ) (cell : ℕ) (state : A) → cell < 256 → ArePlaced own places → written_state cell own ≡ None →
    ArePlaced (own ++ (cell, state) ∷ []) (slice_set places cell (length own))
add_placed {A} own places cell state lt placed new = record {
  count = let z : length (set places cell (length own)) ≡ length places = search rules in z ∙ placed.count;
  placed = λ place one e. get_push own (cell, state) one place e
      (λ old. get_set_other places cell one.0 (length own) (λ k. not_at own cell place one new old k) ∙ placed.placed place one old)
      (λ last same. ap (λ p. slice_get (slice_set places cell (length own)) p.0) same ∙ get_set_same places cell (length own) (omega (arith, placed.count, lt)) ∙ ap Some (sym last));
}

-- ---- as many as there are cells

key_at : {A : Type 0} (own : List (ℕ × A)) (place d : ℕ) (one : ℕ × A) → slice_get own place ≡ Some one → get_or (keys_of own) place d ≡ one.0
key_at [] place d one e = absurd (cc)
key_at (first ∷ own) zero d one e = let k : first ≡ one = cc in ap (λ p. p.0) k
key_at (first ∷ own) (suc place) d one e = key_at own place d one e

one_at : {A : Type 0} (own : List (ℕ × A)) (place : ℕ) → place < length (keys_of own) → (one : ℕ × A) × (slice_get own place ≡ Some one)
one_at [] place lt = absurd (omega arith)
one_at (first ∷ own) zero lt = (first, refl)
one_at (first ∷ own) (suc place) lt = one_at own place (omega arith)

key_there : {A : Type 0} (own : List (ℕ × A)) (q : ℕ) → list_any (nat_eq q) (keys_of own) ≡ true → (place : ℕ) × (one : ℕ × A) × (slice_get own place ≡ Some one) × (one.0 ≡ q)
key_there [] q h = absurd (cc)
key_there {A} (first ∷ own) q h = by_test (nat_eq q first.0) refl (λ r. key_there own q r) where
  by_test : (b : Bool) → nat_eq q first.0 ≡ b →
      (list_any (nat_eq q) (keys_of own) ≡ true → (place : ℕ) × (one : ℕ × A) × (slice_get own place ≡ Some one) × (one.0 ≡ q)) →
      (place : ℕ) × (one : ℕ × A) × (slice_get (first ∷ own) place ≡ Some one) × (one.0 ≡ q)
  by_test true t go = (0, first, refl, sym (same_true q first.0 t))
  by_test false t go =
      let rest : list_any (nat_eq q) (keys_of own) ≡ true = grind (arith, common_steps, h, t) in
      let r = go rest in (suc r.0, r.1, r.2, r.3)

keys_length : {A : Type 0} (own : List (ℕ × A)) → length (keys_of own) ≡ length own
keys_length [] = refl
keys_length (first ∷ own) = ap suc (keys_length own)

keys_apart : {A : Type 0} (own : List (ℕ × A)) (places : List ℕ) → ArePlaced own places → (i j d : ℕ) → i < j → j < length (keys_of own) →
    nat_eq (get_or (keys_of own) i d) (get_or (keys_of own) j d) ≡ false
keys_apart own places placed i j d lt le =
    let a = one_at own i (omega arith) in
    let b = one_at own j le in
    ap (λ k. nat_eq k (get_or (keys_of own) j d)) (key_at own i d a.0 a.1)
    ∙ ap (nat_eq a.0.0) (key_at own j d b.0 b.1)
    ∙ other_false a.0.0 b.0.0 (λ k.
    let z : Some i ≡ Some j = sym (placed.placed i a.0 a.1) ∙ ap (slice_get places) k ∙ placed.placed j b.0 b.1 in
    let y : i ≡ j = cc in absurd (omega arith))

keys_below : {A : Type 0} (own : List (ℕ × A)) (places : List ℕ) → ArePlaced own places → (q : ℕ) → list_any (nat_eq q) (keys_of own) ≡ true → q < 256
keys_below own places placed q h =
    let r = key_there own q h in
    let lt : r.1.0 < length places = slice_get_within places r.1.0 r.0 (placed.placed r.0 r.1 r.2) in
    omega (arith, lt, placed.count, r.3)

pub few : {A : Type 0} (own : List (ℕ × A)) (places : List ℕ) → ArePlaced own places → length own ≤ 256
few own places placed =
    let le : length (keys_of own) ≤ 256 = length-le_from_distinct_below (keys_of own) 256 (IsDistinct-from_apart nat_eq (keys_of own) (keys_apart own places placed)) (keys_below own places placed) in
    omega (arith, le, keys_length own)

pub room : {A : Type 0} (own : List (ℕ × A)) (places : List ℕ) (cell : ℕ) (state : A) → cell < 256 → ArePlaced own places → written_state cell own ≡ None → length own < 256
room own places cell state lt placed new =
    omega (arith, few (own ++ (cell, state) ∷ []) (slice_set places cell (length own)) (add_placed own places cell state lt placed new), length-append own ((cell, state) ∷ []))

-- ---- what the code reads at a place

there_is : {A : Type 0} (own : List (ℕ × A)) (place : ℕ) (one two : ℕ × A) → slice_get own place ≡ Some two → one ≡ get_or own place one → one ≡ two
there_is own place one two e k = k ∙ get_or_from_slice_get own place two one e

pub found : {A : Type 0} (own : List (ℕ × A)) (cell place : ℕ) (one : ℕ × A) → place < length own → one ≡ get_or own place one → one.0 ≡ cell →
    (state : A) × (slice_get own place ≡ Some (cell, state))
found own cell place one lt k e =
    (one.1, slice_get-get_or own place one lt ∙ ap Some (sym k) ∙ ap (λ c. Some (c, one.1)) e)

pub past : {A : Type 0} (own : List (ℕ × A)) (places : List ℕ) (cell place : ℕ) → ArePlaced own places → cell < 256 → place ≡ get_or places cell 0 → length own ≤ place → written_state cell own ≡ None
past own places cell place placed lt k le =
    miss own places cell place placed (slice_get-get_or places cell 0 (omega (arith, placed.count, lt)) ∙ ap Some (sym k))
    (λ state e. let z = slice_get_within own place (cell, state) e in absurd (omega (arith, z, le)))

pub another : {A : Type 0} (own : List (ℕ × A)) (places : List ℕ) (cell place : ℕ) (one : ℕ × A) → ArePlaced own places → cell < 256 → place ≡ get_or places cell 0 →
    one ≡ get_or own place one → (one.0 ≡ cell → ⊥) → written_state cell own ≡ None
another own places cell place one placed lt k j ne =
    miss own places cell place placed (slice_get-get_or places cell 0 (omega (arith, placed.count, lt)) ∙ ap Some (sym k))
    (λ state e. ne (ap (λ p. p.0) (there_is own place one (cell, state) e j)))

pub state_at : {A : Type 0} (own : List (ℕ × A)) (places : List ℕ) (cell place : ℕ) (state : A) (one : ℕ × A) → ArePlaced own places → slice_get own place ≡ Some (cell, state) →
    one ≡ get_or own place one → written_state cell own ≡ Some one.1
state_at own places cell place state one placed e k =
    hit own places cell place state placed e ∙ ap (λ p. Some p.1) (sym (there_is own place one (cell, state) e k))

pub state_set : {A : Type 0} (own : List (ℕ × A)) (places : List ℕ) (cell place : ℕ) (state new : A) (one : ℕ × A) → ArePlaced own places → slice_get own place ≡ Some (cell, state) →
    one ≡ get_or own place one → (other : ℕ) → written_state other (slice_set own place (one.0, new)) ≡ (if nat_eq other cell then Some new else written_state other own)
state_set own places cell place state new one placed e k other =
    ap (λ p. written_state other (slice_set own place (p.0, new))) (there_is own place one (cell, state) e k)
    ∙ set_states own places cell place state new placed e other

pub placed_set : {A : Type 0} (own : List (ℕ × A)) (places : List ℕ) (cell place : ℕ) (state new : A) (one : ℕ × A) → ArePlaced own places → slice_get own place ≡ Some (cell, state) →
    one ≡ get_or own place one → ArePlaced (slice_set own place (one.0, new)) places
placed_set own places cell place state new one placed e k =
    subst (λ p. ArePlaced (slice_set own place (p.0, new)) places) (sym (there_is own place one (cell, state) e k)) (set_placed own places cell place state new placed e)

-- behind the last place no cell was written
pub too_high : {A : Type 0} (own : List (ℕ × A)) (places : List ℕ) (cell : ℕ) → ArePlaced own places → 256 ≤ cell → written_state cell own ≡ None
too_high {A} own places cell placed le = by_state (written_state cell own) refl where
  by_state : (o : Option A) → written_state cell own ≡ o → written_state cell own ≡ None
  by_state None e = e
  by_state (Some state) e =
      let p = place_from_lookup (nat_eq cell) own state e in
      let k : cell ≡ p.1 = same_true cell p.1 p.3 in
      let lt = slice_get_within places p.1 p.0 (placed.placed p.0 (p.1, state) p.2) in
      absurd (omega (arith, lt, k, placed.count, le))

-- ---- a cell more

push_state : {A : Type 0} (own : List (ℕ × A)) (cell other : ℕ) (state : A) → written_state cell own ≡ None →
    written_state other (own ++ (cell, state) ∷ []) ≡ (if nat_eq other cell then Some state else written_state other own)
push_state [] cell other state new = refl
push_state (first ∷ own) cell other state new = by_first (nat_eq other first.0) (nat_eq other cell) refl refl (push_state own cell other state (rest_new (nat_eq cell first.0) refl)) where
  rest_new : (b : Bool) → nat_eq cell first.0 ≡ b → written_state cell own ≡ None
  rest_new true t = let z : Some first.1 ≡ None = sym (ap (λ c. cond c (Some first.1) (written_state cell own)) t) ∙ new in absurd (cc)
  rest_new false t = sym (ap (λ c. cond c (Some first.1) (written_state cell own)) t) ∙ new

  by_first : (a b : Bool) → nat_eq other first.0 ≡ a → nat_eq other cell ≡ b →
      written_state other (own ++ (cell, state) ∷ []) ≡ (if nat_eq other cell then Some state else written_state other own) →
      cond (nat_eq other first.0) (Some first.1) (written_state other (own ++ (cell, state) ∷ []))
      ≡ (if nat_eq other cell then Some state else cond (nat_eq other first.0) (Some first.1) (written_state other own))
  by_first true true s t rest =
      let k : first.0 ≡ cell = sym (same_true other first.0 s) ∙ same_true other cell t in
      absurd (not_at (first ∷ own) cell 0 first new refl k)
  by_first true false s t rest =
      ap (λ c. cond c (Some first.1) (written_state other (own ++ (cell, state) ∷ []))) s
      ∙ sym (ap (λ b. if b then Some state else cond (nat_eq other first.0) (Some first.1) (written_state other own)) t ∙ ap (λ c. cond c (Some first.1) (written_state other own)) s)
  by_first false b s t rest =
      ap (λ c. cond c (Some first.1) (written_state other (own ++ (cell, state) ∷ []))) s
      ∙ rest
      ∙ ap (λ r. if nat_eq other cell then Some state else r) (sym (ap (λ c. cond c (Some first.1) (written_state other own)) s))

pub add_puts : {A : Type 0} (cell : ℕ) (state : A) (own : List (ℕ × A)) → written_state cell own ≡ None → Puts cell state own (own ++ (cell, state) ∷ [])
add_puts cell state own new other = push_state own cell other state new

-- ---- a table of the places

-- the cells before a place have their places in the table
pub record PlacedBefore {A : Type 0} (end : ℕ) (own : List (ℕ × A)) (table : List ℕ) : Type 0 where
  pub count : length table ≡ 256
  pub placed : (place : ℕ) (one : ℕ × A) → place < end → slice_get own place ≡ Some one → slice_get table one.0 ≡ Some place

pub none_placed : {A : Type 0} (own : List (ℕ × A)) (table : List ℕ) → length table ≡ 256 → PlacedBefore 0 own table
none_placed own table count = record { count = count; placed = λ place one lt e. absurd (omega (arith, lt)) }

pub one_placed : {A : Type 0} (end : ℕ) (own : List (ℕ × A)) (table : List ℕ) (one : ℕ × A) → AreOnce own → end < length own → one ≡ get_or own end one → PlacedBefore end own table →
    PlacedBefore (end + 1) own (slice_set table one.0 end)
one_placed {A} end own table one once lt is before = record {
  count = let z : length (set table one.0 end) ≡ length table = search rules in z ∙ before.count;
  placed = λ place other le e. ⊎_elim
      (λ (same : place ≡ end).
      let k : other ≡ one = sym (get_or_from_slice_get own place other one e) ∙ ap (λ i. get_or own i one) same ∙ sym is in
      ap (λ p. slice_get (slice_set table one.0 end) p.0) k ∙ get_set_same table one.0 end within ∙ ap Some (sym same))
      (λ apart. get_set_other table one.0 other.0 end (λ k. apart (only_there own once.0 one.0 end one.1 once.1 here place other e k)) ∙ before.placed place other (omega (arith, le, apart)) e)
      (cases_eq place end);
} where
  here : slice_get own end ≡ Some one
  here = slice_get-get_or own end one lt ∙ ap Some (sym is)

  within : one.0 < length table
  within = let z = slice_get_within once.0 one.0 end (once.1.placed end one here) in omega (arith, z, once.1.count, before.count)

pub all_placed : {A : Type 0} (end : ℕ) (own : List (ℕ × A)) (table : List ℕ) → length own ≤ end → PlacedBefore end own table → ArePlaced own table
all_placed end own table le before = record {
  count = before.count;
  placed = λ place one e. before.placed place one (let z = slice_get_within own place one e in omega (arith, z, le)) e;
}

-- ---- a search

rest_at : {A : Type 0} (own : List (ℕ × A)) (cell place : ℕ) (one : ℕ × A) → place < length own → one ≡ get_or own place one → one.0 ≢ cell →
    written_state cell (drop place own) ≡ written_state cell (drop (suc place) own)
rest_at [] cell place one lt is ne = absurd (omega arith)
rest_at (first ∷ own) cell zero one lt is ne = ap (λ c. cond c (Some first.1) (written_state cell own)) (other_false cell first.0 (λ k. ne (ap (λ p. p.0) is ∙ sym k)))
rest_at (first ∷ own) cell (suc place) one lt is ne = rest_at own cell place one (omega arith) is ne

pub passed_by : {A : Type 0} (own : List (ℕ × A)) (cell place : ℕ) (one : ℕ × A) (found : Option A) → place < length own → one ≡ get_or own place one → one.0 ≢ cell →
    found ≡ written_state cell (drop place own) → found ≡ written_state cell (drop (place + 1) own)
passed_by own cell place one found lt is ne e = let next : suc place ≡ place + 1 = omega arith in e ∙ rest_at own cell place one lt is ne ∙ ap (λ i. written_state cell (drop i own)) next

pub none_found : {A : Type 0} (own : List (ℕ × A)) (cell end : ℕ) → length own ≤ end → written_state cell own ≡ written_state cell (drop end own) → written_state cell own ≡ None
none_found own cell end le e = e ∙ ap (written_state cell) (drop_all end own le)

-- ---- what the code keeps

no_places : {A : Type 0} → ArePlaced {A = A} [] (replicate 256 0)
no_places {A} = record { count = length-replicate {A = ℕ} 256 0; placed = λ place one e. absurd (cc) }

pub none_written : {A : Type 0} (own : List (ℕ × A)) (table : List ℕ) → own ≡ [] → table ≡ [] → HavePlaces own table
none_written {A} own table e f =
    subst (λ o. HavePlaces o table) (sym e) (record { once = (replicate 256 0, no_places); placed = λ some. absurd (omega (arith, some, ap length f)) })

-- another state at the place of a cell
pub set_found : {A : Type 0} (own : List (ℕ × A)) (table : List ℕ) (cell place : ℕ) (state new : A) (one : ℕ × A) → HavePlaces own table → slice_get own place ≡ Some (cell, state) →
    one ≡ get_or own place one → HavePlaces (slice_set own place (one.0, new)) table
set_found own table cell place state new one are e k = record {
  once = (are.once.0, placed_set own are.once.0 cell place state new one are.once.1 e k);
  placed = λ some. placed_set own table cell place state new one (are.placed some) e k;
}

-- a cell more
pub add_found : {A : Type 0} (own own' : List (ℕ × A)) (table table' : List ℕ) (cell place : ℕ) (state : A) → cell < 256 → HavePlaces own table → written_state cell own ≡ None →
    own' ≡ own ++ (cell, state) ∷ [] → place ≡ length own → table' ≡ slice_set table cell place → HavePlaces own' table'
add_found {A} own own' table table' cell place state lt are new e p t =
    subst (λ o. HavePlaces o table') (sym e) (subst (HavePlaces (own ++ (cell, state) ∷ [])) (sym t) (record {
      once = (slice_set are.once.0 cell (length own), add_placed own are.once.0 cell state lt are.once.1 new);
      placed = λ some. subst (λ i. ArePlaced (own ++ (cell, state) ∷ []) (slice_set table cell i)) (sym p)
          (add_placed own table cell state lt (are.placed (let z : length (set table cell place) ≡ length table = search rules in omega (arith, z, some))) new);
    }))

-- there is room for the number of a place
pub place_small : {A : Type 0} (own : List (ℕ × A)) (table : List ℕ) (cell : ℕ) (state : A) → cell < 256 → HavePlaces own table → written_state cell own ≡ None → length own < 256
place_small own table cell state lt are new = room own are.once.0 cell state lt are.once.1 new

-- a cell that was just added stands at the last place
pub stands_last : {A : Type 0} (own own' : List (ℕ × A)) (cell place : ℕ) (state : A) → own' ≡ own ++ (cell, state) ∷ [] → place ≡ length own → IsWrittenAt own' place cell
stands_last own own' cell place state e p = (state, (λ i. slice_get (e i) (p i)) ∙ get_push_last own (cell, state))

pub stands : {A : Type 0} (own : List (ℕ × A)) (place : ℕ) (one : ℕ × A) → place < length own → one ≡ get_or own place one → slice_get own place ≡ Some one
stands own place one lt is = slice_get-get_or own place one lt ∙ ap Some (sym is)
