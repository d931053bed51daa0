-- Two journals that fit one session and have the same clients in the same order are one.
use Rattle.std.proofs.Common.{◌≡◌, ℕ, ◌+◌, ◌<◌, List, [], ◌∷◌, ◌++◌, length, map, Some, refl, sym, ap, ◌∙◌, subst, append_assoc, slice_get}
use Rattle.std.specs.List.{filter}
use Rattle.std.proofs.lemmas.List.Elements.{filter-append}
use Rattle.std.proofs.lemmas.Bool.{eq-eqb}
use Rattle.hangar_core.specs.declared.actions.Action.{Action}
use Rattle.hangar_core.specs.declared.replies.Reply.{Reply}
use Rattle.hangar_core.specs.declared.workspaces.Workspace.{Workspace}
use Rattle.hangar_core.specs.Steps.{step}
use Rattle.commands.specs.declared.commands.Command.{Command}
use Rattle.hangar_core.specs.declared.entries.Entry.{Entry}
use Rattle.hangar_core.specs.Fits.{Meanings, IsCommand, IsWorkOf, commands_of, is_of_client, Fits, triple_of}
use Rattle.hangar_core.specs.Journals.{Entries, IsReplay}
use Rattle.hangar_core.specs.laws.FittingJournals.{FrontsAreReplayed, TriplesTellAll}
use Rattle.hangar_core.proofs.Plain.{cons_head, cons_tail, some_same, none_some, no_front, cons_nil, seam}

abbrev X : Type 0
X = Entry × Reply

abbrev AreSame : Meanings → ℕ → ℕ → List Command → Type 0
AreSame meanings client n cs = (f t1 t2 : Entries) (x1 x2 : X) → IsWorkOf meanings client n cs (f ++ (x1 ∷ t1)) → IsWorkOf meanings client n cs (f ++ (x2 ∷ t2)) → x1.0 ≡ x2.0

abbrev entry : ℕ → ℕ → ℕ → Action → Entry
entry client n part a = record { client = client; command = n; part = part; action = a }

command_same : (meanings : Meanings) (client n : ℕ) (c : Command) (cs : List Command) → AreSame meanings client (n + 1) cs
    → (f own1 own2 rest1 rest2 t1 t2 : Entries) (x1 x2 : X) (rs : List Reply)
    → f ++ (x1 ∷ t1) ≡ own1 ++ rest1 → f ++ (x2 ∷ t2) ≡ own2 ++ rest2
    → IsCommand meanings client n c rs own1 → IsCommand meanings client n c rs own2
    → IsWorkOf meanings client (n + 1) cs rest1 → IsWorkOf meanings client (n + 1) cs rest2 → x1.0 ≡ x2.0
command_same meanings client n c cs h f [] [] rest1 rest2 t1 t2 x1 x2 rs e1 e2 c1 c2 w1 w2 =
    h f t1 t2 x1 x2 (subst (IsWorkOf meanings client (n + 1) cs) (sym e1) w1) (subst (IsWorkOf meanings client (n + 1) cs) (sym e2) w2)
command_same meanings client n c cs h f [] (o ∷ os) rest1 rest2 t1 t2 x1 x2 rs e1 e2 c1 c2 w1 w2 = absurd (none_some _ _ c1 c2.0)
command_same meanings client n c cs h f (o ∷ os) [] rest1 rest2 t1 t2 x1 x2 rs e1 e2 c1 c2 w1 w2 = absurd (none_some _ _ c2 c1.0)
command_same meanings client n c cs h [] (o ∷ os) (p ∷ ps) rest1 rest2 t1 t2 x1 x2 rs e1 e2 c1 c2 w1 w2 =
    let a : x1 ≡ o = cons_head x1 o t1 (os ++ rest1) e1 in
    let b : x2 ≡ p = cons_head x2 p t2 (ps ++ rest2) e2 in
    let d : o.0.action ≡ p.0.action = some_same _ _ _ c1.0 c2.0 in
    ap (λ (x : X). x.0) a ∙ c1.1 ∙ ap (entry client n (length rs)) d ∙ sym c2.1 ∙ sym (ap (λ (x : X). x.0) b)
command_same meanings client n c cs h (y ∷ f) (o ∷ os) (p ∷ ps) rest1 rest2 t1 t2 x1 x2 rs e1 e2 c1 c2 w1 w2 =
    let a : y ≡ o = cons_head y o (f ++ (x1 ∷ t1)) (os ++ rest1) e1 in
    let b : y ≡ p = cons_head y p (f ++ (x2 ∷ t2)) (ps ++ rest2) e2 in
    let e : p ≡ o = sym b ∙ a in
    command_same meanings client n c cs h f os ps rest1 rest2 t1 t2 x1 x2 (rs ++ (o.1 ∷ []))
    (cons_tail y o _ _ e1) (cons_tail y p _ _ e2) c1.2
    (subst (λ (z : X). IsCommand meanings client n c (rs ++ (z.1 ∷ [])) ps) e c2.2) w1 w2

pub same_next : (meanings : Meanings) (client n : ℕ) (cs : List Command) → AreSame meanings client n cs
same_next meanings client n [] f t1 t2 x1 x2 w1 w2 = absurd (no_front f x1 t1 w1)
same_next meanings client n (c ∷ cs) f t1 t2 x1 x2 w1 w2 =
    command_same meanings client n c cs (same_next meanings client (n + 1) cs) f w1.0 w2.0 w1.1 w2.1 t1 t2 x1 x2 [] w1.2 w2.2 w1.3 w2.3 w1.4 w2.4

abbrev WorksIn : Meanings → List (List Command) → Entries → Type 0
WorksIn meanings clients j = (client : ℕ) → client < length clients → IsWorkOf meanings client 0 (commands_of client clients) (filter (is_of_client client) j)

abbrev NoOther : List (List Command) → Entries → Type 0
NoOther clients j = (place : ℕ) (x : X) → slice_get j place ≡ Some x → x.0.client < length clients

own_first : (f t : Entries) (x : X) (client : ℕ) → x.0.client ≡ client → filter (is_of_client client) (f ++ (x ∷ t)) ≡ filter (is_of_client client) f ++ (x ∷ filter (is_of_client client) t)
own_first f t x client e = rw (filter-append (is_of_client client) f (x ∷ t), eq-eqb x.0.client client e) refl

abbrev client_of : X → ℕ
client_of x = x.0.client

same_rest : (meanings : Meanings) (clients : List (List Command)) (w : Workspace) (f t1 t2 : Entries) → IsReplay w t1 → IsReplay w t2 → WorksIn meanings clients (f ++ t1) → WorksIn meanings clients (f ++ t2) → NoOther clients (f ++ t1)
    → map client_of t1 ≡ map client_of t2 → t1 ≡ t2
same_rest meanings clients w f [] [] r1 r2 w1 w2 o e = refl
same_rest meanings clients w f [] (x ∷ t) r1 r2 w1 w2 o e = absurd (cons_nil _ _ (sym e))
same_rest meanings clients w f (x ∷ t) [] r1 r2 w1 w2 o e = absurd (cons_nil _ _ e)
same_rest meanings clients w f (x1 ∷ t1) (x2 ∷ t2) r1 r2 w1 w2 o e =
    let c : ℕ = x1.0.client in
    let k : c < length clients = o (length f) x1 (seam f x1 t1) in
    let d : x2.0.client ≡ c = sym (cons_head _ _ _ _ e) in
    let W : Entries → Type 0 = IsWorkOf meanings c 0 (commands_of c clients) in
    let a : x1.0 ≡ x2.0 = same_next meanings c 0 (commands_of c clients) (filter (is_of_client c) f) (filter (is_of_client c) t1) (filter (is_of_client c) t2) x1 x2
    (subst W (own_first f t1 x1 c refl) (w1 c k)) (subst W (own_first f t2 x2 c d) (w2 c k)) in
    let b : x1.1 ≡ x2.1 = r1.0 ∙ ap (λ (z : Entry). (step w z.action).0) a ∙ sym r2.0 in
    let g : x1 ≡ x2 = pair_same x1 x2 a b in
    let m : (t : Entries) → (f ++ (x1 ∷ [])) ++ t ≡ f ++ (x1 ∷ t) = λ t. append_assoc f (x1 ∷ []) t in
    let rest : t1 ≡ t2 = same_rest meanings clients (step w x1.0.action).1 (f ++ (x1 ∷ [])) t1 t2 r1.1
    (subst (λ (z : X). IsReplay (step w z.0.action).1 t2) (sym g) r2.1)
    (subst (WorksIn meanings clients) (sym (m t1)) w1)
    (subst (WorksIn meanings clients) (sym (m t2)) (subst (λ (z : X). WorksIn meanings clients (f ++ (z ∷ t2))) (sym g) w2))
    (subst (NoOther clients) (sym (m t1)) o) (cons_tail _ _ _ _ e) in
    ap (λ (z : X). z ∷ t1) g ∙ ap (λ (l : Entries). x2 ∷ l) rest
  where
    pair_same : (x y : X) → x.0 ≡ y.0 → x.1 ≡ y.1 → x ≡ y
    pair_same (a, b) (c, d) e h = rw (e, h) refl

-- The clients of the entries determine the journal.
pub one_journal : (meanings : Meanings) (first : Workspace) (clients : List (List Command)) (j k : Entries)
    → Fits meanings first clients j → Fits meanings first clients k → map client_of j ≡ map client_of k → j ≡ k
one_journal meanings first clients j k a b e = same_rest meanings clients first [] j k a.replayed b.replayed a.works b.works a.no_other e

-- A front of a replay is a replay.
pub front_replayed : FrontsAreReplayed
front_replayed w [] ys r = tt
front_replayed w (x ∷ xs) ys r = (r.0, front_replayed (step w x.0.action).1 xs ys r.1)

same_clients : (j k : Entries) → map triple_of j ≡ map triple_of k → map client_of j ≡ map client_of k
same_clients [] [] e = refl
same_clients [] (y ∷ k) e = absurd (cons_nil _ _ (sym e))
same_clients (x ∷ j) [] e = absurd (cons_nil _ _ e)
same_clients (x ∷ j) (y ∷ k) e =
    ap (λ (c : ℕ). c ∷ map client_of j) (ap (λ (t : ℕ × ℕ × ℕ). t.0) (cons_head _ _ _ _ e)) ∙ ap (λ (l : List ℕ). y.0.client ∷ l) (same_clients j k (cons_tail _ _ _ _ e))

pub same_triples : TriplesTellAll
same_triples meanings first clients j k a b e = one_journal meanings first clients j k a b (same_clients j k e)
