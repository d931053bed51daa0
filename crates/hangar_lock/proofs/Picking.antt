-- A client's own entries, in the order of their places, are those of the journal that are the client's.
use Rattle.std.proofs.Common.{◌≡◌, ℕ, ◌+◌, ◌<◌, ◌≤◌, ◌⊎◌, inl, inr, ◌≢◌, Bool, true, false, List, [], ◌∷◌, ◌++◌, length, map, Some, refl, sym, ap, ◌∙◌, subst, nat_eq, arith, append_assoc, slice_get}
use Rattle.std.specs.List.{filter}
use Rattle.std.proofs.lemmas.List.{append-nil}
use Rattle.std.proofs.lemmas.Bool.Decides.{eqb_tells}
use Rattle.std.proofs.lemmas.Option.{slice_get_within}
use Rattle.commands.specs.declared.commands.Command.{Command}
use Rattle.hangar_core.specs.declared.entries.Entry.{Entry}
use Rattle.hangar_core.specs.declared.replies.Reply.{Reply}
use Rattle.hangar_core.specs.Fits.{IsCommand, IsWorkOf, Meanings}
use Rattle.hangar_core.specs.Journals.{Entries}
use Rattle.hangar_lock.specs.Places.{HasPlace, Places, ToldEntry}
use Rattle.hangar_lock.specs.ClientEntries.{own_entry}
use Rattle.hangar_lock.proofs.Places.{same_value}

-- the places rise, from one on
abbrev pub Rises : ℕ → Places → Type 0
Rises low [] = Unit {0}
Rises low (p ∷ ps) = (low ≤ p.0) × Rises (p.0 + 1) ps

seam : (f : Entries) (x : ToldEntry) (xs : Entries) → slice_get (f ++ (x ∷ xs)) (length f) ≡ Some x
seam [] x xs = refl
seam (y ∷ f) x xs = seam f x xs

one_more : (f : Entries) (x : ToldEntry) → length (f ++ (x ∷ [])) ≡ length f + 1
one_more [] x = refl
one_more (y ∷ f) x = let h = one_more f x in omega (arith, h)

rises_has : (low : ℕ) (mine : Places) (p : ℕ) (x : ToldEntry) → Rises low mine → HasPlace mine p x → low ≤ p
rises_has low [] p x r h = absurd h
rises_has low (m ∷ mine) p x r (inl e) = let k : m.0 ≡ p = ap (λ (z : ℕ × ToldEntry). z.0) e in let a = r.0 in omega (arith, k, a)
rises_has low (m ∷ mine) p x r (inr h) = let k = rises_has (m.0 + 1) mine p x r.1 h in let a = r.0 in omega (arith, k, a)

abbrev IsYes : Bool → Type 0
IsYes true = Unit {0}
IsYes false = ⊥

yes_no : (b : Bool) → b ≡ true → b ≡ false → ⊥
yes_no b e h = subst IsYes (sym e ∙ h) tt

abbrev IsSound : Entries → Places → Type 0
IsSound j mine = (p : ℕ) (x : ToldEntry) → HasPlace mine p x → slice_get j p ≡ Some x

abbrev IsOwn : (ToldEntry → Bool) → Places → Type 0
IsOwn test mine = (p : ℕ) (x : ToldEntry) → HasPlace mine p x → test x ≡ true

abbrev IsFull : (ToldEntry → Bool) → ℕ → Entries → Places → Type 0
IsFull test low j mine = (p : ℕ) (x : ToldEntry) → low ≤ p → slice_get j p ≡ Some x → test x ≡ true → HasPlace mine p x

higher : (test : ToldEntry → Bool) (f j : Entries) (x : ToldEntry) (mine : Places) → test x ≡ false → Rises (length f) mine → IsSound (f ++ (x ∷ j)) mine → IsOwn test mine → Rises (length f + 1) mine
higher test f j x [] e r s o = tt
higher test f j x (m ∷ mine) e r s o = (decide (eqb_tells m.0 (length f)), r.1)
  where
    decide : ((nat_eq m.0 (length f) ≡ true) × (m.0 ≡ length f)) ⊎ ((nat_eq m.0 (length f) ≡ false) × (m.0 ≢ length f)) → length f + 1 ≤ m.0
    decide (inl k) =
        let a : slice_get (f ++ (x ∷ j)) m.0 ≡ Some m.1 = s m.0 m.1 (inl refl) in
        let b : slice_get (f ++ (x ∷ j)) m.0 ≡ Some x = subst (λ (p : ℕ). slice_get (f ++ (x ∷ j)) p ≡ Some x) (sym k.1) (seam f x j) in
        let d : m.1 ≡ x = same_value _ _ (sym a ∙ b) in
        absurd (yes_no (test x) (subst (λ (z : ToldEntry). test z ≡ true) d (o m.0 m.1 (inl refl))) e)
    decide (inr k) = let a = r.0 in let b = k.1 in omega (arith, a, b)

abbrev Again : (ToldEntry → Bool) → ToldEntry → Entries → Entries → Type 0
Again test x f j = (rest : Places) → Rises (length (f ++ (x ∷ []))) rest → IsSound ((f ++ (x ∷ [])) ++ j) rest → IsOwn test rest → IsFull test (length (f ++ (x ∷ []))) ((f ++ (x ∷ [])) ++ j) rest → map own_entry rest ≡ filter test j

pub picked : (test : ToldEntry → Bool) (j f : Entries) (mine : Places) → Rises (length f) mine → IsSound (f ++ j) mine → IsOwn test mine → IsFull test (length f) (f ++ j) mine
    → map own_entry mine ≡ filter test j
picked test [] f [] r s o w = refl
picked test [] f (m ∷ mine) r s o w =
    let a : m.0 < length (f ++ []) = slice_get_within (f ++ []) m.0 m.1 (s m.0 m.1 (inl refl)) in
    let b : m.0 < length f = subst (λ (l : Entries). m.0 < length l) (append-nil f) a in
    let d = r.0 in absurd (omega (arith, b, d))
picked test (x ∷ j) f mine r s o w = decide (picked test j (f ++ (x ∷ []))) (test x) refl
  where
    m : (f ++ (x ∷ [])) ++ j ≡ f ++ (x ∷ j)
    m = append_assoc f (x ∷ []) j

    next : Again test x f j → (rest : Places) → Rises (length f + 1) rest → IsSound (f ++ (x ∷ j)) rest → IsOwn test rest → IsFull test (length f + 1) (f ++ (x ∷ j)) rest → map own_entry rest ≡ filter test j
    next again rest a b d e = again rest (subst (λ (k : ℕ). Rises k rest) (sym (one_more f x)) a)
        (subst (λ (l : Entries). IsSound l rest) (sym m) b) d
        (subst (λ (l : Entries). IsFull test (length (f ++ (x ∷ []))) l rest) (sym m) (subst (λ (k : ℕ). IsFull test k (f ++ (x ∷ j)) rest) (sym (one_more f x)) e))

    here : (q : ℕ × ToldEntry) (rest : Places) → Rises (length f) (q ∷ rest) → HasPlace (q ∷ rest) (length f) x → q ≡ (length f, x)
    here q rest a (inl e) = e
    here q rest a (inr h) = let k = rises_has (q.0 + 1) rest (length f) x a.1 h in let b = a.0 in absurd (omega (arith, k, b))

    taken : Again test x f j → (mine : Places) → test x ≡ true → Rises (length f) mine → IsSound (f ++ (x ∷ j)) mine → IsOwn test mine → IsFull test (length f) (f ++ (x ∷ j)) mine → map own_entry mine ≡ x ∷ filter test j
    taken again [] e r s o w = absurd (w (length f) x (omega arith) (seam f x j) e)
    taken again (q ∷ rest) e r s o w =
        let a : q ≡ (length f, x) = here q rest r (w (length f) x (omega arith) (seam f x j) e) in
        let b : q.0 ≡ length f = ap (λ (z : ℕ × ToldEntry). z.0) a in
        let d : q.1 ≡ x = ap (λ (z : ℕ × ToldEntry). z.1) a in
        let t : map own_entry rest ≡ filter test j = next again rest (subst (λ (k : ℕ). Rises (k + 1) rest) b r.1) (λ p y h. s p y (inr h)) (λ p y h. o p y (inr h))
        (λ p y k g c. later q rest b p y k (w p y (omega (arith, k)) g c)) in
        ap (λ (z : ToldEntry). z ∷ map own_entry rest) d ∙ ap (λ (l : Entries). x ∷ l) t
      where
        later : (q : ℕ × ToldEntry) (rest : Places) → q.0 ≡ length f → (p : ℕ) (y : ToldEntry) → length f + 1 ≤ p → HasPlace (q ∷ rest) p y → HasPlace rest p y
        later q rest b p y k (inl e) = let c : q.0 ≡ p = ap (λ (z : ℕ × ToldEntry). z.0) e in absurd (omega (arith, b, c, k))
        later q rest b p y k (inr h) = h

    decide : Again test x f j → (b : Bool) → test x ≡ b → map own_entry mine ≡ filter test (x ∷ j)
    decide again true e = rw e (taken again mine e r s o w)
    decide again false e = rw e (next again mine (higher test f j x mine e r s o) s o (λ p y k g c. w p y (omega (arith, k)) g c))

-- ---- a client's work has its own number

abbrev IsBy : ℕ → Entries → Type 0
IsBy client [] = Unit {0}
IsBy client (x ∷ xs) = (x.0.client ≡ client) × IsBy client xs

command_by : (meanings : Meanings) (client n : ℕ) (c : Command) (rs : List Reply) (own rest : Entries) → IsCommand meanings client n c rs own → IsBy client rest → IsBy client (own ++ rest)
command_by meanings client n c rs [] rest h k = k
command_by meanings client n c rs (x ∷ own) rest h k = (ap (λ (z : Entry). z.client) h.1, command_by meanings client n c (rs ++ (x.1 ∷ [])) own rest h.2 k)

pub work_by : (meanings : Meanings) (client n : ℕ) (cs : List Command) (xs : Entries) → IsWorkOf meanings client n cs xs → IsBy client xs
work_by meanings client n [] xs h = subst (IsBy client) (sym h) tt
work_by meanings client n (c ∷ cs) xs h = subst (IsBy client) (sym h.2) (command_by meanings client n c [] h.0 h.1 h.3 (work_by meanings client (n + 1) cs h.1 h.4))

pub has_by : (client : ℕ) (mine : Places) (p : ℕ) (x : ToldEntry) → IsBy client (map own_entry mine) → HasPlace mine p x → x.0.client ≡ client
has_by client [] p x b h = absurd h
has_by client (m ∷ mine) p x b (inl e) = subst (λ (z : ℕ × ToldEntry). z.1.0.client ≡ client) e b.0
has_by client (m ∷ mine) p x b (inr h) = has_by client mine p x b.1 h
