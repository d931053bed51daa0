-- The serial journal fits its session.
use Rattle.std.proofs.Common.{◌≡◌, ℕ, zero, suc, ◌+◌, ◌<◌, ◌≤◌, ◌⊎◌, inl, inr, ◌≢◌, true, false, List, [], ◌∷◌, ◌++◌, length, map, Option, Some, None, refl, sym, ap, ◌∙◌, subst, nat_eq, arith, slice_get}
use Rattle.std.specs.List.{filter}
use Rattle.std.proofs.lemmas.List.Elements.{filter-append}
use Rattle.std.proofs.lemmas.Bool.{eq-eqb}
use Rattle.std.proofs.lemmas.Bool.Decides.{eqb_tells}
use Rattle.hangar_core.specs.declared.actions.Action.{Action}
use Rattle.hangar_core.specs.declared.replies.Reply.{Reply}
use Rattle.hangar_core.specs.declared.workspaces.Workspace.{Workspace}
use Rattle.hangar_core.specs.Steps.{step}
use Rattle.commands.specs.declared.commands.Command.{Command}
use Rattle.hangar_core.specs.declared.entries.Entry.{Entry}
use Rattle.commands.specs.declared.commands.Command.TheVariants.{New, Fork, Drop, Edit, Migrate, Show, Simulate, Schedule, Merge, Expand}
use Rattle.hangar_core.specs.Fits.{Meanings, next_action, IsCommand, IsWorkOf, commands_of, is_of_client}
use Rattle.hangar_core.specs.Journals.{Entries, IsReplay}
use Rattle.hangar_core.specs.Serial.{NumberedCommand, heads, later_commands, longest, in_rounds, entry_then, carried_out, one_by_one, serial}
use Rattle.hangar_core.specs.laws.FittingJournals.{SerialFits}
use Rattle.hangar_core.proofs.Plain.{cons_head, cons_tail, cons_nil, none_some}
use Rattle.hangar_core.proofs.InRounds.{is_of, numbered, in_rounds_own, longest_enough}

-- No command has more than four parts.
over : (meanings : Meanings) (c : Command) (a b d e : Reply) (rs : List Reply) → next_action meanings c (a ∷ b ∷ d ∷ e ∷ rs) ≡ None
over meanings (New x) a b d e rs = refl
over meanings (Fork x y) a b d e rs = refl
over meanings (Drop x) a b d e rs = refl
over meanings (Edit x y) a b d e rs = refl
over meanings (Migrate x y) a b d e rs = refl
over meanings (Show x) a b d e rs = refl
over meanings (Simulate x) a b d e rs = refl
over meanings (Schedule x) a b d e rs = refl
over meanings (Merge x y z) a b d e rs = refl
over meanings (Expand x) a b d e rs = refl

pub over_at : (meanings : Meanings) (c : Command) (rs : List Reply) → 4 ≤ length rs → next_action meanings c rs ≡ None
over_at meanings c [] h = absurd (omega (arith, h))
over_at meanings c (a ∷ []) h = absurd (omega (arith, h))
over_at meanings c (a ∷ b ∷ []) h = absurd (omega (arith, h))
over_at meanings c (a ∷ b ∷ d ∷ []) h = absurd (omega (arith, h))
over_at meanings c (a ∷ b ∷ d ∷ e ∷ rs) h = over meanings c a b d e rs

snoc_length : (rs : List Reply) (r : Reply) → length (rs ++ (r ∷ [])) ≡ length rs + 1
snoc_length [] r = refl
snoc_length (q ∷ rs) r = let h = snoc_length rs r in omega (arith, h)

abbrev Go : Type 0
Go = Reply → Workspace → Entries × Workspace

with_command : (meanings : Meanings) (t : NumberedCommand) (rs : List Reply) (w : Workspace) (go : Go) (o : Option Action) → next_action meanings t.command rs ≡ o
    → ((r : Reply) (v : Workspace) → IsCommand meanings t.client t.number t.command (rs ++ (r ∷ [])) (go r v).0)
    → IsCommand meanings t.client t.number t.command rs (entry_then t rs w o go).0
with_command meanings t rs w go None e h = e
with_command meanings t rs w go (Some a) e h = (e, refl, h _ _)

is_command : (meanings : Meanings) (parts : ℕ) (t : NumberedCommand) (rs : List Reply) (w : Workspace) → 4 ≤ length rs + parts
    → IsCommand meanings t.client t.number t.command rs (carried_out meanings parts t rs w).0
is_command meanings zero t rs w h = over_at meanings t.command rs (omega (arith, h))
is_command meanings (suc parts) t rs w h = with_command meanings t rs w _ (next_action meanings t.command rs) refl
    (λ r v. is_command meanings parts t (rs ++ (r ∷ [])) v (let e = snoc_length rs r in omega (arith, h, e)))

with_own : (t : NumberedCommand) (rs : List Reply) (w : Workspace) (go : Go) (i : ℕ) → t.client ≡ i → (o : Option Action)
    → ((r : Reply) (v : Workspace) → filter (is_of_client i) (go r v).0 ≡ (go r v).0)
    → filter (is_of_client i) (entry_then t rs w o go).0 ≡ (entry_then t rs w o go).0
with_own t rs w go i e None h = refl
with_own t rs w go i e (Some a) h = rw (eq-eqb t.client i e, h (step w a).0 (step w a).1) refl

all_own : (meanings : Meanings) (parts : ℕ) (t : NumberedCommand) (rs : List Reply) (w : Workspace) (i : ℕ) → t.client ≡ i
    → filter (is_of_client i) (carried_out meanings parts t rs w).0 ≡ (carried_out meanings parts t rs w).0
all_own meanings zero t rs w i e = refl
all_own meanings (suc parts) t rs w i e = with_own t rs w _ i e (next_action meanings t.command rs) (λ r v. all_own meanings parts t (rs ++ (r ∷ [])) v i e)

with_other : (t : NumberedCommand) (rs : List Reply) (w : Workspace) (go : Go) (i : ℕ) → nat_eq t.client i ≡ false → (o : Option Action)
    → ((r : Reply) (v : Workspace) → filter (is_of_client i) (go r v).0 ≡ [])
    → filter (is_of_client i) (entry_then t rs w o go).0 ≡ []
with_other t rs w go i e None h = refl
with_other t rs w go i e (Some a) h = rw (e, h (step w a).0 (step w a).1) refl

none_own : (meanings : Meanings) (parts : ℕ) (t : NumberedCommand) (rs : List Reply) (w : Workspace) (i : ℕ) → nat_eq t.client i ≡ false
    → filter (is_of_client i) (carried_out meanings parts t rs w).0 ≡ []
none_own meanings zero t rs w i e = refl
none_own meanings (suc parts) t rs w i e = with_other t rs w _ i e (next_action meanings t.command rs) (λ r v. none_own meanings parts t (rs ++ (r ∷ [])) v i e)

with_replayed : (t : NumberedCommand) (rs : List Reply) (w : Workspace) (go : Go) (ys : Entries) (o : Option Action)
    → ((r : Reply) (v : Workspace) → IsReplay (go r v).1 ys → IsReplay v ((go r v).0 ++ ys))
    → IsReplay (entry_then t rs w o go).1 ys → IsReplay w ((entry_then t rs w o go).0 ++ ys)
with_replayed t rs w go ys None h k = k
with_replayed t rs w go ys (Some a) h k = (refl, h _ _ k)

replayed_on : (meanings : Meanings) (parts : ℕ) (t : NumberedCommand) (rs : List Reply) (w : Workspace) (ys : Entries)
    → IsReplay (carried_out meanings parts t rs w).1 ys → IsReplay w ((carried_out meanings parts t rs w).0 ++ ys)
replayed_on meanings zero t rs w ys k = k
replayed_on meanings (suc parts) t rs w ys k = with_replayed t rs w _ ys (next_action meanings t.command rs) (λ r v. replayed_on meanings parts t (rs ++ (r ∷ [])) v ys) k

commands_replayed : (meanings : Meanings) (w : Workspace) (ts : List NumberedCommand) → IsReplay w (one_by_one meanings w ts)
commands_replayed meanings w [] = tt
commands_replayed meanings w (t ∷ ts) = replayed_on meanings 4 t [] w _ (commands_replayed meanings (carried_out meanings 4 t [] w).1 ts)

own_command : (meanings : Meanings) (t : NumberedCommand) (ts : List NumberedCommand) (w : Workspace) (i n : ℕ) (cs : List Command) → t.client ≡ i → t ∷ filter (is_of i) ts ≡ numbered i n cs
    → ((cs : List Command) → filter (is_of i) ts ≡ numbered i (n + 1) cs → IsWorkOf meanings i (n + 1) cs (filter (is_of_client i) (one_by_one meanings (carried_out meanings 4 t [] w).1 ts)))
    → IsWorkOf meanings i n cs (filter (is_of_client i) (one_by_one meanings w (t ∷ ts)))
own_command meanings t ts w i n [] e h go = absurd (cons_nil _ _ h)
own_command meanings t ts w i n (c ∷ cs) e h go =
    let own : Entries = (carried_out meanings 4 t [] w).0 in
    let rest : Entries = one_by_one meanings (carried_out meanings 4 t [] w).1 ts in (
      own,
      filter (is_of_client i) rest,
      filter-append (is_of_client i) own rest ∙ ap (λ (l : Entries). l ++ filter (is_of_client i) rest) (all_own meanings 4 t [] w i e),
      subst (λ (z : NumberedCommand). IsCommand meanings z.client z.number z.command [] own) (cons_head _ _ _ _ h) (is_command meanings 4 t [] w (omega arith)),
      go cs (cons_tail _ _ _ _ h),
    )

commands_work : (meanings : Meanings) (ts : List NumberedCommand) (w : Workspace) (i n : ℕ) (cs : List Command) → filter (is_of i) ts ≡ numbered i n cs
    → IsWorkOf meanings i n cs (filter (is_of_client i) (one_by_one meanings w ts))
commands_work meanings [] w i n [] h = refl
commands_work meanings [] w i n (c ∷ cs) h = absurd (cons_nil _ _ (sym h))
commands_work meanings (t ∷ ts) w i n cs h = decide (eqb_tells t.client i) (commands_work meanings ts (carried_out meanings 4 t [] w).1 i)
  where
    decide : ((nat_eq t.client i ≡ true) × (t.client ≡ i)) ⊎ ((nat_eq t.client i ≡ false) × (t.client ≢ i))
        → ((n : ℕ) (cs : List Command) → filter (is_of i) ts ≡ numbered i n cs → IsWorkOf meanings i n cs (filter (is_of_client i) (one_by_one meanings (carried_out meanings 4 t [] w).1 ts)))
        → IsWorkOf meanings i n cs (filter (is_of_client i) (one_by_one meanings w (t ∷ ts)))
    decide (inl k) go = own_command meanings t ts w i n cs k.1 (rw k.0 at h) (go (n + 1))
    decide (inr k) go =
        let own : Entries = (carried_out meanings 4 t [] w).0 in
        let rest : Entries = one_by_one meanings (carried_out meanings 4 t [] w).1 ts in
        let e : filter (is_of_client i) (own ++ rest) ≡ filter (is_of_client i) rest =
        filter-append (is_of_client i) own rest ∙ ap (λ (l : Entries). l ++ filter (is_of_client i) rest) (none_own meanings 4 t [] w i k.0) in
        subst (IsWorkOf meanings i n cs) (sym e) (go n cs (rw k.0 at h))

-- ---- no other client

abbrev Each : {A : Type 0} → (A → Type 0) → List A → Type 0
Each P [] = Unit {0}
Each P (x ∷ xs) = P x × Each P xs

each_append : {A : Type 0} (P : A → Type 0) (xs ys : List A) → Each P xs → Each P ys → Each P (xs ++ ys)
each_append P [] ys h k = k
each_append P (x ∷ xs) ys h k = (h.0, each_append P xs ys h.1 k)

each_get : {A : Type 0} (P : A → Type 0) (xs : List A) (k : ℕ) (x : A) → Each P xs → slice_get xs k ≡ Some x → P x
each_get P [] k x h e = absurd (none_some _ _ refl e)
each_get P (y ∷ ys) zero x h e = subst P (some e) h.0
  where
    some : Some y ≡ Some x → y ≡ x
    some e = cc
each_get P (y ∷ ys) (suc k) x h e = each_get P ys k x h.1 e

abbrev Below : ℕ → Entry × Reply → Type 0
Below m x = x.0.client < m

with_below : (m : ℕ) (t : NumberedCommand) (rs : List Reply) (w : Workspace) (go : Go) → t.client < m → (o : Option Action)
    → ((r : Reply) (v : Workspace) → Each (Below m) (go r v).0) → Each (Below m) (entry_then t rs w o go).0
with_below m t rs w go e None h = tt
with_below m t rs w go e (Some a) h = (e, h _ _)

carried_below : (m : ℕ) (meanings : Meanings) (parts : ℕ) (t : NumberedCommand) (rs : List Reply) (w : Workspace) → t.client < m → Each (Below m) (carried_out meanings parts t rs w).0
carried_below m meanings zero t rs w e = tt
carried_below m meanings (suc parts) t rs w e = with_below m t rs w _ e (next_action meanings t.command rs) (λ r v. carried_below m meanings parts t (rs ++ (r ∷ [])) v e)

commands_below : (m : ℕ) (meanings : Meanings) (w : Workspace) (ts : List NumberedCommand) → Each (λ (t : NumberedCommand). t.client < m) ts → Each (Below m) (one_by_one meanings w ts)
commands_below m meanings w [] h = tt
commands_below m meanings w (t ∷ ts) h = each_append (Below m) (carried_out meanings 4 t [] w).0 _ (carried_below m meanings 4 t [] w h.0) (commands_below m meanings (carried_out meanings 4 t [] w).1 ts h.1)

heads_below : (m n first : ℕ) (css : List (List Command)) → first + length css ≤ m → Each (λ (t : NumberedCommand). t.client < m) (heads n first css)
heads_below m n first [] h = tt
heads_below m n first ([] ∷ css) h = heads_below m n (first + 1) css (omega (arith, h))
heads_below m n first ((c ∷ cs) ∷ css) h = (omega (arith, h), heads_below m n (first + 1) css (omega (arith, h)))

map_length : (css : List (List Command)) → length (map later_commands css) ≡ length css
map_length [] = refl
map_length (cs ∷ css) = let h = map_length css in omega (arith, h)

all_below : (m k n : ℕ) (css : List (List Command)) → length css ≤ m → Each (λ (t : NumberedCommand). t.client < m) (in_rounds k n css)
all_below m zero n css h = tt
all_below m (suc k) n css h = each_append _ (heads n 0 css) _ (heads_below m n 0 css (omega (arith, h)))
    (all_below m k (n + 1) (map later_commands css) (let e = map_length css in omega (arith, h, e)))

pub serial_fits : SerialFits
unfolding serial
serial_fits meanings first clients = record {
  replayed = commands_replayed meanings first (in_rounds (longest clients) 0 clients);
  works = λ i k. commands_work meanings (in_rounds (longest clients) 0 clients) first i 0 (commands_of i clients)
      (in_rounds_own (longest clients) 0 i clients (longest_enough i clients));
  no_other = λ place x e. each_get (Below (length clients)) _ place x
      (commands_below (length clients) meanings first (in_rounds (longest clients) 0 clients) (all_below (length clients) (longest clients) 0 clients (omega arith))) e;
}
